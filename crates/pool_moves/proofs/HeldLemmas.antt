-- What each image of now has, if a store or a map is held.
use Rattle.std.proofs.Common.{◌≡◌, [], ℕ, List, Option, sym, subst}
use Rattle.rig_disk.specs.Disk.{Image}
use Rattle.shard_model.specs.Steps.{Step}
use Rattle.slot_journal.specs.InUse.{text_in_use}
use Rattle.slot_journal.specs.Journal.{gate_of}
use Rattle.slot_journal.specs.Text.{IsText}
use Rattle.shard_store.specs.Stories.{HasShard, fresh_shard}
use Rattle.shard_store.specs.Stored.{IsStored, told_in, head_in, slot_in}
use Rattle.shard_store.specs.declared.store.Store.{Store}
use Rattle.shard_store.proofs.StoryLemmas.{fitting_front}
use Rattle.pool_map.specs.Maps.{HasMap, IsMapText}
use Rattle.pool_map.specs.Pool.{HoldsMap, journal_of, map_of}
use Rattle.pool_map.specs.declared.map.PoolMap.{PoolMap}

-- it has the flushed steps of the store
pub has_flushed : (reads : ℕ → ℕ → Option (List ℕ)) (images : Image → List ℕ → Type 0) (store : Store) (text : List ℕ) (flushed : List Step) (image : Image) (said : List ℕ)
    → IsStored reads images store text flushed [] → images image said → HasShard (told_in store).geometry (head_in store) (text_in_use (slot_in store) (image (slot_in store))) flushed
has_flushed reads images store text flushed image said stored now = record {
  bodies = stored.bodies;
  place = gate_of store.journal;
  is_text = subst (λ t. IsText (head_in store) stored.bodies (gate_of store.journal) t) (sym (stored.holds.durable image said now)) stored.holds.is_text;
  spelled = stored.spelled;
  fitting = fitting_front (fresh_shard (told_in store).geometry) flushed [] stored.told.fitting;
}

-- it has the map
pub has_map : (reads : ℕ → ℕ → Option (List ℕ)) (images : Image → List ℕ → Type 0) (map : PoolMap) (text : List ℕ) → HoldsMap reads images (journal_of map) (map_of map) text
    → (image : Image) (said : List ℕ) → images image said → HasMap (image 16) (map_of map)
has_map reads images map text h image said now =
    let same : text_in_use 16 (image 16) ≡ text = subst (λ (s : ℕ). text_in_use s (image s) ≡ text) map.own_slot (h.holds.durable image said now) in
    subst (λ (t : List ℕ). IsMapText t (map_of map)) (sym same) (record {
      k = h.k;
      unit = h.unit;
      word = h.word;
      bodies = h.bodies;
      place = gate_of map.journal;
      is_text = h.holds.is_text;
      gives = h.gives;
    })

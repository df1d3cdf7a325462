-- A call that adds the record of a start to one slot: each image is made by moves.
use Rattle.std.proofs.Common.{◌≡◌, ◌<◌, ◌*◌, ◌++◌, ◌∷◌, [], ℕ, Bool, true, false, if◌then◌else◌, List, Option, Some, refl, sym, ap, subst, ◌∙◌}
use Rattle.ec_model.specs.Codes.{HasPosition}
use Rattle.ec_model.specs.Versions.{Version, is_same}
use Rattle.rig_disk.specs.Disk.{Image}
use Rattle.rig_disk.specs.During.{During}
use Rattle.rig_disk.proofs.Moments.{weaker}
use Rattle.shard_model.specs.Shards.{Shard}
use Rattle.shard_model.specs.Steps.{Step, Control, Back, Started}
use Rattle.slot_journal.specs.InUse.{text_in_use}
use Rattle.slot_journal.specs.Journal.{InSlot, gate_of}
use Rattle.shard_store.specs.Laws.{TextsHaveOneStory}
use Rattle.shard_store.specs.Shelved.{Shelved}
use Rattle.shard_store.specs.Shelves.{store_at, KeepsStores}
use Rattle.shard_store.specs.Stories.{shard_after}
use Rattle.shard_store.specs.Stored.{told_in}
use Rattle.shard_store.specs.declared.store.Store.{Store}
use Rattle.pool_map.specs.Laws.{TextsHaveOneMap}
use Rattle.pool_map.specs.Maps.{PoolImage, HasMap, IsMapText}
use Rattle.pool_map.specs.Pool.{map_of}
use Rattle.pool_map.specs.declared.map.PoolMap.{PoolMap}
use Rattle.pool_slots.specs.Ready.{IsReadyStore, IsHeldStore, HasStarted}
use Rattle.pool_slots.specs.Slots.{AddsRecord, HasRecord, IsSameSlot, start_steps}
use Rattle.pool_moves.specs.Contents.{Layout, Contents, HasContents}
use Rattle.pool_moves.specs.Instants.{MovedFrom}
use Rattle.pool_history.specs.Images.{IsLastAlive}
use Rattle.pool_moves.specs.Moves.{Starts}
use Rattle.pool_moves.specs.Ready.{IsOwn, IsHeldMap}
use Rattle.pool_moves.proofs.RecordLemmas.{record_moves}

-- an image of now has the map that is held
pub has_map : (reads : ℕ → ℕ → Option (List ℕ)) (images : Image → List ℕ → Type 0) (map : PoolMap) → IsHeldMap reads images map
    → (image : Image) (said : List ℕ) → images image said → HasMap (image 16) (map_of map)
has_map reads images map h image said now =
    let same : text_in_use 16 (image 16) ≡ h.text = subst (λ (s : ℕ). text_in_use s (image s) ≡ h.text) map.own_slot (h.holds_map.holds.durable image said now) in
    subst (λ (t : List ℕ). IsMapText t (map_of map)) (sym same) (record {
      k = h.holds_map.k;
      unit = h.holds_map.unit;
      word = h.holds_map.word;
      bodies = h.holds_map.bodies;
      place = gate_of map.journal;
      is_text = h.holds_map.holds.is_text;
      gives = h.holds_map.gives;
    })

-- so its contents have that map
pub map_is : TextsHaveOneMap → (reads : ℕ → ℕ → Option (List ℕ)) (images : Image → List ℕ → Type 0) (map : PoolMap) → IsHeldMap reads images map
    → (l : Layout) (image : Image) (said : List ℕ) (c : Contents) → images image said → HasContents l image c → c.map ≡ map_of map
map_is law reads images map h l image said c now has = law (text_in_use 16 (image 16)) c.map (map_of map) has.map (has_map reads images map h image said now)

-- the instants of a record of a start
pub start_moments : {R : Type 0} (clock_of : R → ℕ) (images_of : R → ℕ → Image → List ℕ → Type 0) (old new : R) (reads : ℕ → ℕ → Option (List ℕ))
    → TextsHaveOneStory → TextsHaveOneMap → (l : Layout) → 0 < l.geometry.k * l.geometry.unit → l.n < 17
    → (map : PoolMap) → IsHeldMap reads (images_of old (clock_of old)) map
    → (p : ℕ) (store : Store) → IsOwn l p store → IsHeldStore reads (images_of old (clock_of old)) store
    → (epoch joined : ℕ) (base : Version) → (told_in store).shard.state.les < epoch → HasPosition joined p → IsLastAlive (map_of map).state.intervals epoch joined base
    → During clock_of images_of old new (InSlot (images_of old (clock_of old)) p (AddsRecord reads (images_of old (clock_of old)) store (start_steps epoch base (told_in store).shard.state.head)))
    → During clock_of images_of old new (MovedFrom (Starts l epoch joined base) l (images_of old (clock_of old)))
start_moments clock_of images_of old new reads readings maps l positive few map held p store own held_store epoch joined base older member newest run =
    let images : Image → List ℕ → Type 0 = images_of old (clock_of old) in
    weaker clock_of images_of old new (InSlot images p (AddsRecord reads images store (start_steps epoch base (told_in store).shard.state.head))) (MovedFrom (Starts l epoch joined base) l images) run
    (λ image said one. record {
      source = one.source;
      was = one.was;
      moved = λ before has.
          record_moves l positive few readings reads images p store own held_store.text held_store.flushed held_store.stored epoch joined base older member
          one.source image said before one.was has
          (subst (λ (m : PoolImage). IsLastAlive m.state.intervals epoch joined base) (sym (map_is maps reads images map held l one.source said before one.was has)) newest)
          one.others one.stepped;
    })

-- a store after a record is that of the same slot
pub own_later : (l : Layout) (p : ℕ) (a b : Store) → IsOwn l p a → IsSameSlot a b → IsOwn l p b
own_later l p a b own same = record {
  below = own.below;
  slot_is = same.slot_is ∙ own.slot_is;
  geometry_is = same.geometry ∙ own.geometry_is;
  n_is = same.n ∙ own.n_is;
}

module _ (reads reads_then : ℕ → ℕ → Option (List ℕ)) (images images_then : Image → List ℕ → Type 0) (a b : Store) where
  pub ready_later : (is_here : ℕ → Type 0) (l : Layout) (p : ℕ) (steps : List Step) → is_here p → IsOwn l p b → HasRecord reads reads_then images images_then a b steps
      → IsReadyStore is_here reads_then images_then p b
  ready_later is_here l p steps here own rec = record { slot_is = own.slot_is; here = here; idle = rec.idle; at_rest = rec.at_rest }

  pub held_later : (steps : List Step) → IsHeldStore reads images a → HasRecord reads reads_then images images_then a b steps → IsHeldStore reads_then images_then b
  held_later steps h rec =
      let r = rec.stored h.text h.flushed h.stored in
      record { text = r.0; flushed = h.flushed ++ steps; stored = r.1 }

  les_after : (epoch : ℕ) (base : Version) (s : Shard) (back : Bool) → (shard_after s (if back then Control (Started epoch) ∷ [] else Control (Back base) ∷ Control (Started epoch) ∷ [])).state.les ≡ epoch
  les_after epoch base s true = refl
  les_after epoch base s false = refl

  whole_after : (epoch : ℕ) (base : Version) (s : Shard) (back : Bool)
      → (shard_after s (if back then Control (Started epoch) ∷ [] else Control (Back base) ∷ Control (Started epoch) ∷ [])).state.partial ≡ s.state.partial
  whole_after epoch base s true = refl
  whole_after epoch base s false = refl

  pub started_later : (shelf later : Shelved) (epoch p : ℕ) (base : Version) → (told_in a).shard.state.partial ≡ false → store_at later p ≡ Some b
      → HasRecord reads reads_then images images_then a b (start_steps epoch base (told_in a).shard.state.head) → HasStarted later epoch p
  started_later shelf later epoch p base whole there rec = record {
    store = b;
    there = there;
    whole = ap (λ (s : Shard). s.state.partial) rec.shard ∙ whole_after epoch base (told_in a).shard (is_same (told_in a).shard.state.head base) ∙ whole;
    started = ap (λ (s : Shard). s.state.les) rec.shard ∙ les_after epoch base (told_in a).shard (is_same (told_in a).shard.state.head base);
  }

pub some_same : (a b : Store) → ◌≡◌ {A = Option Store} (Some a) (Some b) → a ≡ b
some_same a b e = cc

-- of one slot alone two changes of a shelf are one
pub keeps_on : (a b c : Shelved) (slot : ℕ) → KeepsStores a b slot → KeepsStores b c slot → KeepsStores a c slot
keeps_on a b c slot p q = record { stores = λ s other. q.stores s other ∙ p.stores s other; fetched = λ s. q.fetched s ∙ p.fetched s }

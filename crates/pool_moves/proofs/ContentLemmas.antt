-- What an image comes to if one slot of it changes.
use Rattle.std.proofs.Common.{◌≡◌, ◌≢◌, ◌<◌, ◌==◌, ℕ, true, false, if◌then◌else◌, List, Option, Some, None, refl, sym, ap, subst, ◌∙◌, eq-eqb, arith}
use Rattle.std.proofs.lemmas.Bool.{eqb-true, false≢true}
use Rattle.rig_disk.specs.Disk.{Image, on_told}
use Rattle.shard_model.specs.Objects.{Geometry}
use Rattle.shard_model.specs.Replays.{Replay, replay_of}
use Rattle.shard_model.specs.Steps.{Step}
use Rattle.slot_journal.specs.InUse.{Areas, open_text, text_in_use, told_text}
use Rattle.shard_store.specs.Laws.{TextsHaveOneStory}
use Rattle.shard_store.specs.Stories.{HasShard, shard_head}
use Rattle.pool_map.specs.Maps.{PoolImage, HasMap, IsMapText}
use Rattle.pool_moves.specs.Contents.{Layout, Contents, IsShardOf, SlotHasShard, HasContents, with_shard, with_map}

-- a slot whose text has the same steps comes to the same
pub same_shard : TextsHaveOneStory → (g : Geometry) (head text later : List ℕ) (steps : List Step) (shard : Option Replay) → HasShard g head text steps
    → HasShard g head later steps → IsShardOf g head text shard → IsShardOf g head later shard
same_shard law g head text later steps None was now is = absurd (is steps was)
same_shard law g head text later steps (Some r) was now is = record {
  steps = steps;
  has = now;
  led = ap (replay_of g) (law g g text head head steps is.steps was is.has) ∙ is.led;
}

-- a slot whose areas are as they were has the text in use that it had
pub same_text : (slot : ℕ) (now before : Areas) → ((a : ℕ) → now a ≡ before a) → text_in_use slot now ≡ text_in_use slot before
same_text slot now before same = ap open_text (same 0)

-- and it is told as it was
pub same_told : (slot : ℕ) (now before : ℕ → Option (List ℕ)) → ((a : ℕ) → now a ≡ before a) → told_text slot now ≡ told_text slot before
same_told slot now before same = ap (on_told open_text) (same 0)

-- no position below 17 is the map's slot
pub below_16 : (u n : ℕ) → u ≡ 16 → u < n → n < 17 → ⊥
below_16 u n is below few = omega (arith, is)

module _ (l : Layout) (source image : Image) (c : Contents) (has : HasContents l source c) where
  -- one slot comes to another shard
  pub one_slot : (p : ℕ) (shard : Option Replay) → p ≢ 16 → ((s : ℕ) → s ≢ p → (a : ℕ) → image s a ≡ source s a)
      → SlotHasShard l image p shard → HasContents l image (with_shard c p shard)
  one_slot p shard other same now = record {
    map = subst (λ (t : List ℕ). IsMapText t c.map) (sym (same_text 16 (image 16) (source 16) (same 16 (λ e. other (sym e))))) has.map;
    same_n = has.same_n;
    shards = λ u below. elim (u == p) as (λ b. (u == p) ≡ b → SlotHasShard l image u (if b then shard else c.shards u)) [
      | true ↦ λ is. subst (λ v. SlotHasShard l image v shard) (sym (eqb-true u p is)) now
      | false ↦ λ is. subst (λ (t : List ℕ). IsShardOf l.geometry (shard_head u l.geometry l.n) t (c.shards u))
          (sym (same_text u (image u) (source u) (same u (λ e. false≢true (sym is ∙ eq-eqb u p e))))) (has.shards u below)
    ] refl;
  }

  -- one slot comes to the same
  pub same_slot : (p : ℕ) → p ≢ 16 → ((s : ℕ) → s ≢ p → (a : ℕ) → image s a ≡ source s a)
      → SlotHasShard l image p (c.shards p) → HasContents l image c
  same_slot p other same now = record {
    map = subst (λ (t : List ℕ). IsMapText t c.map) (sym (same_text 16 (image 16) (source 16) (same 16 (λ e. other (sym e))))) has.map;
    same_n = has.same_n;
    shards = λ u below. elim (u == p) as (λ b. (u == p) ≡ b → SlotHasShard l image u (c.shards u)) [
      | true ↦ λ is. subst (λ v. SlotHasShard l image v (c.shards v)) (sym (eqb-true u p is)) now
      | false ↦ λ is. subst (λ (t : List ℕ). IsShardOf l.geometry (shard_head u l.geometry l.n) t (c.shards u))
          (sym (same_text u (image u) (source u) (same u (λ e. false≢true (sym is ∙ eq-eqb u p e))))) (has.shards u below)
    ] refl;
  }

  -- the map's slot comes to another map
  pub map_slot_alone : (m : PoolImage) → m.n ≡ l.n → l.n < 17 → ((s : ℕ) → s ≢ 16 → (a : ℕ) → image s a ≡ source s a)
      → HasMap (image 16) m → HasContents l image (with_map c m)
  map_slot_alone m same_n few same now = record {
    map = now;
    same_n = same_n;
    shards = λ u below. subst (λ (t : List ℕ). IsShardOf l.geometry (shard_head u l.geometry l.n) t (c.shards u))
        (sym (same_text u (image u) (source u) (same u (λ e. below_16 u l.n e below few)))) (has.shards u below);
  }

-- What one record more makes of a slot. Source: this project; how a shard starts an epoch after Ceph developer guide,
-- "Erasure Coded pool" and "Peering".
use Rattle.std.specs.Prelude.{◌≡◌, ◌≢◌, ◌⊎◌, ◌++◌, ◌∷◌, [], ℕ, false, List, Option, if◌then◌else◌}
use Rattle.ec_model.specs.Versions.{Version, is_same}
use Rattle.rig_disk.specs.Disk.{Image}
use Rattle.shard_model.specs.Steps.{Step, Control, Back, Started}
use Rattle.slot_journal.specs.InUse.{Areas, text_in_use}
use Rattle.slot_journal.specs.Journal.{area_of, is_spent}
use Rattle.shard_store.specs.Stories.{HasShard, shard_after}
use Rattle.shard_store.specs.Stored.{head_in, told_in, slot_in, IsAtRest, IsStored}
use Rattle.shard_store.specs.Told.{Told, IsAccepted}
use Rattle.shard_store.specs.declared.store.Store.{Store}

-- one record of steps at each of its instants: one area alone changes, and if the slot had some steps and no others are
-- accepted, it has these, or also the new ones
pub record AddsRecord (reads : ℕ → ℕ → Option (List ℕ)) (images : Image → List ℕ → Type 0) (store : Store) (more : List Step)
    (before after : Areas) : Type 0 where
  pub others : (a : ℕ) → a ≢ area_of store.journal → after a ≡ before a
  pub shards : (text : List ℕ) (flushed : List Step) → IsStored reads images store text flushed []
      → HasShard (told_in store).geometry (head_in store) (text_in_use (slot_in store) after) flushed
      ⊎ HasShard (told_in store).geometry (head_in store) (text_in_use (slot_in store) after) (flushed ++ more)

-- no step is staged or waits for a record, and no call on the slot has failed
pub record IsIdle (store : Store) : Type 0 where
  pub accepted : IsAccepted (told_in store)
  pub flushed : (told_in store).pending ≡ []
  pub unspent : is_spent store.journal ≡ false

-- some steps more are staged
abbrev pub with_staged : Told → List Step → Told
with_staged t steps = record t { staged = t.staged ++ steps }

-- a store is over the same slot as before, with a shard of the same geometry
pub record IsSameSlot (old new : Store) : Type 0 where
  pub slot_is : slot_in new ≡ slot_in old
  pub n : new.n ≡ old.n
  pub geometry : (told_in new).geometry ≡ (told_in old).geometry

-- a record of steps more stands in the slot of a store, and in each image of now
pub record HasRecord (reads reads_then : ℕ → ℕ → Option (List ℕ)) (images images_then : Image → List ℕ → Type 0) (old new : Store)
    (steps : List Step) : Type 0 where
  pub stored : (text : List ℕ) (flushed : List Step) → IsStored reads images old text flushed []
      → (after : List ℕ) × IsStored reads_then images_then new after (flushed ++ steps) []
  pub at_rest : IsAtRest reads_then images_then new
  pub idle : IsIdle new
  pub shard : (told_in new).shard ≡ shard_after (told_in old).shard steps

-- the record by which a shard starts an epoch at a base: it goes back there first if its head is another version
abbrev pub start_steps : ℕ → Version → Version → List Step
start_steps epoch base head =
    if is_same head base then Control (Started epoch) ∷ [] else Control (Back base) ∷ Control (Started epoch) ∷ []

-- What calls on the store of one slot need and do. Source: this project.
use Rattle.std.specs.Prelude.{◌≡◌, ◌≤◌, ◌+◌, ◌++◌, [], ℕ, List, length, Option, Some, None, IfSome}
use Rattle.rig_disk.specs.Disk.{Image}
use Rattle.shard_model.specs.StepBytes.{step_bytes}
use Rattle.shard_model.specs.Steps.{Step}
use Rattle.slot_journal.specs.InUse.{Areas}
use Rattle.slot_journal.specs.Limits.{prefix_len}
use Rattle.slot_journal.specs.Text.{max_body}
use Rattle.shard_store.specs.Shelved.{Shelved}
use Rattle.shard_store.specs.Shelves.{store_at}
use Rattle.shard_store.specs.Stored.{slot_in, room_in, told_in, is_stuck, IsAtRest, IsStored, Flushes}
use Rattle.shard_store.specs.Told.{IsAccepted, unflushed_bytes}
use Rattle.shard_store.specs.declared.store.Store.{Store}

-- each store of a shelf is of the slot that it stands at
abbrev pub AreOwn : Shelved → Type 0
AreOwn shelf = (s : ℕ) → IfSome (store_at shelf s) (λ store. slot_in store ≡ s)

-- a store has room for one step more: a record's body may have the bytes of all that are in no record, and the slot may have
-- that record
pub record HasRoomFor (step : Step) (store : Store) : Type 0 where
  pub short : length (unflushed_bytes (told_in store)) + length (step_bytes step) ≤ max_body
  pub room : length (unflushed_bytes (told_in store)) + length (step_bytes step) + prefix_len ≤ room_in store

-- a store of this slot may be flushed: the slot is here, nothing is staged, and its journal is at rest unless a call of it has
-- failed
pub record MayFlush (is_here : ℕ → Type 0) (reads : ℕ → ℕ → Option (List ℕ)) (images : Image → List ℕ → Type 0)
    (slot : ℕ) (store : Store) : Type 0 where
  pub own : slot_in store ≡ slot
  pub here : is_here slot
  pub accepted : IsAccepted (told_in store)
  pub settled : (is_stuck store → ⊥) → IsAtRest reads images store

-- a call changed a slot's store so; a slot that had no store has none
abbrev pub ChangesAt : (Store → Store → Type 0) → Option Store → Option Store → Type 0
ChangesAt change None new = new ≡ None
ChangesAt change (Some old) None = ⊥
ChangesAt change (Some old) (Some new) = change old new

-- the bytes of the accepted steps of a slot that are in no record
abbrev pub pending_at : Option Store → List ℕ
pending_at None = []
pending_at (Some store) = (told_in store).pending

-- a flush of a slot at each of its instants; if the slot has no store, nothing changes
abbrev pub FlushesAt : (ℕ → ℕ → Option (List ℕ)) → (Image → List ℕ → Type 0) → Option Store → Areas → Areas → Type 0
FlushesAt reads images None before after = (a : ℕ) → after a ≡ before a
FlushesAt reads images (Some store) before after = Flushes reads images store before after

-- what a store had stored before a flush it has after it, with the accepted steps behind it
abbrev pub HasFlushed : (ℕ → ℕ → Option (List ℕ)) → (Image → List ℕ → Type 0) → (ℕ → ℕ → Option (List ℕ)) → (Image → List ℕ → Type 0)
    → Store → Store → Type 0
HasFlushed old_reads old_images new_reads new_images old new =
    (text : List ℕ) (flushed pending : List Step) → IsStored old_reads old_images old text flushed pending
    → (after : List ℕ) × IsStored new_reads new_images new after (flushed ++ pending) []

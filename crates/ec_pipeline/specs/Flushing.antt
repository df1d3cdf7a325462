-- The flush of a set of slots. Source: this project.
use Rattle.std.specs.Prelude.{◌≡◌, ◌⊎◌, ◌<◌, ◌↔◌, [], ℕ, Bool, true, false, List, Option, Some, None, IfSome, IsSomeAnd}
use Rattle.ec_model.specs.Codes.{HasPosition}
use Rattle.rig_disk.specs.Disk.{Image}
use Rattle.rig_disk.specs.During.{During}
use Rattle.rig_disk.specs.Faults.{Rose}
use Rattle.slot_journal.specs.InUse.{Areas}
use Rattle.slot_journal.specs.Journal.{is_spent}
use Rattle.shard_store.specs.OnSlot.{ChangesAt, FlushesAt, HasFlushed, MayFlush}
use Rattle.shard_store.specs.Shelved.{Shelved}
use Rattle.shard_store.specs.Shelves.{store_at, fetched_on}
use Rattle.shard_store.specs.Stored.{slot_in, told_in, is_stuck}
use Rattle.shard_store.specs.Told.{all_flushed}
use Rattle.shard_store.specs.declared.store.Store.{Store}

-- a store after its flush: all accepted steps stand in its text; or it is lost, and was told what it was told before
pub record Flushed (old new : Store) (kept : Bool) : Type 0 where
  pub slot_is : slot_in new ≡ slot_in old
  pub n_is : new.n ≡ old.n
  pub done : kept ≡ true → told_in new ≡ all_flushed (told_in old)
  pub unspent : kept ≡ true → is_spent old.journal ≡ false → is_spent new.journal ≡ false
  pub lost : kept ≡ false → told_in new ≡ told_in old
  pub stuck : kept ≡ false → is_stuck new

abbrev pub FlushedAt : Option Store → Option Store → Bool → Type 0
FlushedAt None new kept = (new ≡ None) × (kept ≡ true)
FlushedAt (Some old) None kept = ⊥
FlushedAt (Some old) (Some new) kept = Flushed old new kept

-- an image of before, in which some slots of a set below `bound` have made their step; nothing was said
pub record InSlots (images : Image → List ℕ → Type 0) (set bound : ℕ) (step : ℕ → Areas → Areas → Type 0) (image : Image) (said : List ℕ) : Type 0 where
  pub source : Image
  pub was : images source said
  pub others : (s : ℕ) → (s < bound → HasPosition set s → ⊥) → (a : ℕ) → image s a ≡ source s a
  pub stepped : (s : ℕ) → s < bound → HasPosition set s → ((a : ℕ) → image s a ≡ source s a) ⊎ step s (source s) (image s)

-- a slot is lost without a call if a call of its store has failed and it has steps to be flushed
abbrev pub IsBarredAt : Option Store → Type 0
IsBarredAt store = IsSomeAnd store (λ s. is_stuck s × ((told_in s).pending ≡ [] → ⊥))

-- if there is a store, what stood in its text has all accepted steps behind it
abbrev pub StandsAt : (ℕ → ℕ → Option (List ℕ)) → (Image → List ℕ → Type 0) → (ℕ → ℕ → Option (List ℕ)) → (Image → List ℕ → Type 0)
    → Option Store → Option Store → Type 0
StandsAt old_reads old_images new_reads new_images old new = ChangesAt (HasFlushed old_reads old_images new_reads new_images) old new

-- a slot that a flush lost: its store was told what it was told before, and a call failed or none was made
pub record IsLostAt (old_faults new_faults : ℕ) (old new : Option Store) : Type 0 where
  pub store : FlushedAt old new false
  pub cause : Rose old_faults new_faults ⊎ IsBarredAt old

-- the slots of a set below `bound` were flushed, each also after another failed; `lost` has exactly those that failed or were
-- barred; each of the others has all accepted steps in its text; all else is as it was
pub record AreFlushed {R : Type 0} (is_here : R → ℕ → Type 0) (reads : R → ℕ → ℕ → Option (List ℕ)) (said_of : R → Option (List ℕ))
    (clock : R → ℕ) (images : R → ℕ → Image → List ℕ → Type 0) (faults : R → ℕ → ℕ)
    (set bound lost : ℕ) (old_shelf new_shelf : Shelved) (old new : R) : Type 0 where
  pub among : (s : ℕ) → HasPosition lost s → (s < bound) × HasPosition set s
  pub failed : (s : ℕ) → HasPosition lost s → IsLostAt (faults old s) (faults new s) (store_at old_shelf s) (store_at new_shelf s)
  pub done : (s : ℕ) → s < bound → HasPosition set s → (HasPosition lost s → ⊥) → FlushedAt (store_at old_shelf s) (store_at new_shelf s) true
  pub stands : (s : ℕ) → s < bound → HasPosition set s → (HasPosition lost s → ⊥)
      → StandsAt (reads old) (images old (clock old)) (reads new) (images new (clock new)) (store_at old_shelf s) (store_at new_shelf s)
  pub quiet : (s : ℕ) → (HasPosition lost s → ⊥) → faults new s ≡ faults old s
  pub unbarred : (s : ℕ) → s < bound → HasPosition set s → (HasPosition lost s → ⊥) → IsBarredAt (store_at old_shelf s) → ⊥
  pub outside : (s : ℕ) → (s < bound → HasPosition set s → ⊥) → store_at new_shelf s ≡ store_at old_shelf s
  pub fetched : (s : ℕ) → fetched_on new_shelf s ≡ fetched_on old_shelf s
  pub any_moment : During clock images old new
      (InSlots (images old (clock old)) set bound (λ s. FlushesAt (reads old) (images old (clock old)) (store_at old_shelf s)))
  pub here : (s : ℕ) → is_here old s ↔ is_here new s
  pub reads_as : (s a : ℕ) → (s < bound → HasPosition set s → ⊥) → reads new s a ≡ reads old s a
  pub said : said_of new ≡ said_of old
  pub ready : (s : ℕ) → HasPosition set s → IfSome (store_at new_shelf s) (MayFlush (is_here new) (reads new) (images new (clock new)) s)

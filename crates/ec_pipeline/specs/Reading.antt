-- Ranges of an object that the slots of a set give. Source: this project.
use Rattle.std.specs.Prelude.{◌≡◌, ◌<◌, ◌≤◌, ◌+◌, ◌*◌, ◌↔◌, ℕ, List, length, min, Option, Some, None, IfSome}
use Rattle.ec_model.specs.Codes.{CodeRows, HasPosition, DecidesOne}
use Rattle.ec_model.specs.Stripes.{stripe_count, shard_len}
use Rattle.rig_disk.specs.Disk.{Image}
use Rattle.rig_disk.specs.During.{During}
use Rattle.rig_disk.specs.Faults.{count_limit}
use Rattle.rig_disk.specs.Frame.{Adds}
use Rattle.shard_model.specs.Steps.{Step}
use Rattle.shard_store.specs.OnSlot.{MayFlush}
use Rattle.shard_store.specs.Ranges.{LacksRange, object_bytes, range_of}
use Rattle.shard_store.specs.Shelved.{Shelved}
use Rattle.shard_store.specs.Shelves.{store_at, fetched_on}
use Rattle.shard_store.specs.Stored.{IsStored}
use Rattle.shard_store.specs.declared.store.Store.{Store}
use Rattle.read_plan.specs.Plans.{LiesIn, IsLeastPlan}
use Rattle.stripe_map.specs.Chunks.{chunk_of_position}
use Rattle.stripe_map.specs.DecodingLaws.{IsDataMask}
use Rattle.ec_positions.specs.Positions.{position_list}

-- the rig tells the slot of a store, and the slot has some steps
pub record HasSteps (reads : ℕ → ℕ → Option (List ℕ)) (images : Image → List ℕ → Type 0) (store : Store) : Type 0 where
  pub text : List ℕ
  pub flushed : List Step
  pub pending : List Step
  pub stored : IsStored reads images store text flushed pending

-- so on each slot of a set
abbrev pub AreStored : (ℕ → ℕ → Option (List ℕ)) → (Image → List ℕ → Type 0) → ℕ → Shelved → Type 0
AreStored reads images set shelf = (s : ℕ) → HasPosition set s → IfSome (store_at shelf s) (HasSteps reads images)

-- each slot of a set may be worked on: it is here, nothing is staged, and its journal is at rest unless a call of it has failed
abbrev pub AreIdle : (ℕ → Type 0) → (ℕ → ℕ → Option (List ℕ)) → (Image → List ℕ → Type 0) → ℕ → Shelved → Type 0
AreIdle is_here reads images set shelf = (s : ℕ) → HasPosition set s → IfSome (store_at shelf s) (MayFlush is_here reads images s)

-- what a call that only fetches leaves of a rig: what reads give, what a crash may leave and what was said is as it was, nothing
-- is synced and nothing written
pub record OnlyFetches {R : Type 0} (is_here : R → ℕ → Type 0) (reads_of : R → ℕ → ℕ → Option (List ℕ)) (said_of : R → Option (List ℕ))
    (clock_of : R → ℕ) (images_of : R → ℕ → Image → List ℕ → Type 0) (syncs_of written_of : R → ℕ → Option ℕ) (old new : R) : Type 0 where
  pub any_moment : During clock_of images_of old new (λ image said. images_of old (clock_of old) image said)
  pub here : (s : ℕ) → is_here old s ↔ is_here new s
  pub reads : (s a : ℕ) → reads_of new s a ≡ reads_of old s a
  pub said : said_of new ≡ said_of old
  pub syncs : (s : ℕ) → Adds 0 (syncs_of old s) (syncs_of new s)
  pub written : (s : ℕ) → Adds 0 (written_of old s) (written_of new s)

-- the chunks have `len` bytes each, one for each slot of a set below `bound` and no others; on a slot whose steps are known it is
-- that range of the object's bytes there
pub record AreFetched (is_known : ℕ → Type 0) (set bound : ℕ) (shelf : Shelved) (name : List ℕ) (at len : ℕ)
    (chunks : List (Option (List ℕ))) : Type 0 where
  pub inside : (s : ℕ) → s < bound → HasPosition set s → (chunk : List ℕ) × (chunk_of_position chunks s ≡ Some chunk) × (length chunk ≡ len)
      × (is_known s → range_of (object_bytes (store_at shelf s) name) at len ≡ Some chunk)
  pub outside : (s : ℕ) → (s < bound → HasPosition set s → ⊥) → chunk_of_position chunks s ≡ None

-- `len` bytes were fetched on each slot of a set below `bound`, and all else is as it was
pub record Counted (set bound len : ℕ) (old new : Shelved) : Type 0 where
  pub stores : (s : ℕ) → store_at new s ≡ store_at old s
  pub inside : (s : ℕ) → s < bound → HasPosition set s → fetched_on new s ≡ min (fetched_on old s + len) count_limit
  pub outside : (s : ℕ) → (s < bound → HasPosition set s → ⊥) → fetched_on new s ≡ fetched_on old s

-- each slot of a set has, from `at` on, the list of its position of these bytes
abbrev pub GiveRange : CodeRows → ℕ → ℕ → Shelved → List ℕ → ℕ → List ℕ → Type 0
GiveRange code unit set shelf name at bytes = (s : ℕ) → HasPosition set s
    → range_of (object_bytes (store_at shelf s) name) at (shard_len code.k unit (length bytes)) ≡ Some (position_list code unit bytes s)

-- each slot of a set has the positions' lists of these bytes as its object, if there are any bytes
abbrev pub HasStripesOf : CodeRows → ℕ → ℕ → Shelved → List ℕ → List ℕ → Type 0
HasStripesOf code unit set shelf name bytes = (s : ℕ) → HasPosition set s → 0 < length bytes
    → object_bytes (store_at shelf s) name ≡ Some (position_list code unit bytes s)

-- a shard's bytes of an object of `size` bytes lack a stripe that such an object has
abbrev pub LacksStripes : ℕ → ℕ → ℕ → Option (List ℕ) → Type 0
LacksStripes k unit size bytes = (first count : ℕ) × (1 ≤ count) × (first + count ≤ stripe_count k unit size)
    × LacksRange bytes (first * unit) (count * unit)

-- a set decides every position
abbrev pub DecidesAll : CodeRows → ℕ → Type 0
DecidesAll code set = (p : ℕ) → p < code.n → DecidesOne code set p

-- the least plan of a set for the data positions gave `len` bytes on each of its slots, and no other slot did
pub record FetchesPlan (code : CodeRows) (set len : ℕ) (old new : Shelved) : Type 0 where
  pub plan : ℕ
  pub data_set : ℕ
  pub is_data : IsDataMask code data_set
  pub itself : LiesIn data_set set → plan ≡ data_set
  pub least : (LiesIn data_set set → ⊥) → IsLeastPlan code set data_set plan
  pub counted : Counted plan 16 len old new

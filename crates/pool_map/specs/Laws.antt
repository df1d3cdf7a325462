-- Laws of maps. Source: this project.
use Rattle.std.specs.Prelude.{◌≡◌, ◌≢◌, ℕ, List, Option}
use Rattle.ec_words.specs.Intervals.{JoinedLieBelow}
use Rattle.rig_disk.specs.Disk.{Image}
use Rattle.rig_disk.specs.During.{During}
use Rattle.slot_journal.specs.InUse.{Areas}
use Rattle.slot_journal.specs.Journal.{InSlot, IsSettledWhereTold}
use Rattle.map_model.specs.States.{kept}
use Rattle.pool_map.specs.Maps.{PoolImage, IsMapText}
use Rattle.pool_map.specs.Pool.{HoldsMap, journal_of, map_of}
use Rattle.map_model.specs.Sound.{IsSound}
use Rattle.pool_map.specs.declared.map.PoolMap.{PoolMap}

-- a text has one map at most
abbrev pub TextsHaveOneMap : Type 0
TextsHaveOneMap = (text : List ℕ) (one other : PoolImage) → IsMapText text one → IsMapText text other → one ≡ other

-- the intervals of a text's map name slots below n, and their epochs ascend by one from 1
abbrev pub MapsAreSound : Type 0
MapsAreSound = (text : List ℕ) (m : PoolImage) → IsMapText text m → IsSound m.n m.state

-- so the joined sets lie below n, as a choice asks, those of all intervals and those of the kept ones
abbrev pub JoinedSetsLieBelow : Type 0
JoinedSetsLieBelow = (text : List ℕ) (m : PoolImage) → IsMapText text m → JoinedLieBelow m.n m.state.intervals × JoinedLieBelow m.n (kept m.state)

-- an image has in a slot what one of these images has there
pub record HasSlotOf (images : Image → List ℕ → Type 0) (slot : ℕ) (image : Image) : Type 0 where
  pub source : Image
  pub said : List ℕ
  pub was : images source said
  pub same : (a : ℕ) → image slot a ≡ source slot a

-- any change of a slot
abbrev pub AnyStep : Areas → Areas → Type 0
AnyStep before after = Unit {0}

-- a map that was held is held, and its journal is settled if it was
abbrev pub IsHeldOn : {R : Type 0} → (R → ℕ → ℕ → Option (List ℕ)) → (R → ℕ) → (R → ℕ → Image → List ℕ → Type 0) → R → R → Type 0
IsHeldOn reads_of clock_of images_of old new =
    (map : PoolMap)
    → ((text : List ℕ) → HoldsMap (reads_of old) (images_of old (clock_of old)) (journal_of map) (map_of map) text
    → HoldsMap (reads_of new) (images_of new (clock_of new)) (journal_of map) (map_of map) text)
    × (IsSettledWhereTold (reads_of old) (images_of old (clock_of old)) (journal_of map)
    → IsSettledWhereTold (reads_of new) (images_of new (clock_of new)) (journal_of map))

-- a map stays held if its slot reads the same, and each image has in that slot what some image had
abbrev pub MapsStayHeld : {R : Type 0} → (R → ℕ → ℕ → Option (List ℕ)) → (R → ℕ) → (R → ℕ → Image → List ℕ → Type 0) → Type 0
MapsStayHeld {R} reads_of clock_of images_of =
    (old new : R) → ((a : ℕ) → reads_of new 16 a ≡ reads_of old 16 a)
    → ((image : Image) (said : List ℕ) → images_of new (clock_of new) image said → HasSlotOf (images_of old (clock_of old)) 16 image)
    → IsHeldOn reads_of clock_of images_of old new

-- so over a call on another slot
abbrev pub MapsStayElsewhere : {R : Type 0} → (R → ℕ → ℕ → Option (List ℕ)) → (R → ℕ) → (R → ℕ → Image → List ℕ → Type 0) → Type 0
MapsStayElsewhere {R} reads_of clock_of images_of =
    (old new : R) (slot : ℕ) → 16 ≢ slot → ((a : ℕ) → reads_of new 16 a ≡ reads_of old 16 a)
    → During clock_of images_of old new (InSlot (images_of old (clock_of old)) slot AnyStep) → IsHeldOn reads_of clock_of images_of old new

-- and over a call that changes no image
abbrev pub MapsStayOver : {R : Type 0} → (R → ℕ → ℕ → Option (List ℕ)) → (R → ℕ) → (R → ℕ → Image → List ℕ → Type 0) → Type 0
MapsStayOver {R} reads_of clock_of images_of =
    (old new : R) → ((a : ℕ) → reads_of new 16 a ≡ reads_of old 16 a)
    → During clock_of images_of old new (λ image said. images_of old (clock_of old) image said) → IsHeldOn reads_of clock_of images_of old new

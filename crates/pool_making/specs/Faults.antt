-- What the answers of the making of a pool say. Source: this project.
use Rattle.std.specs.Prelude.{◌≡◌, ◌⊎◌, ◌<◌, ◌≤◌, ℕ, List, length, Option, Some, Result, Err, IfErr}
use Rattle.rig_disk.specs.Disk.{Image}
use Rattle.rig_disk.specs.Faults.{Rose}
use Rattle.slot_journal.specs.InUse.{told_text}
use Rattle.pool_map.specs.Maps.{map_slot}
use Rattle.pool_moves.specs.Making.{HaveNoPool}
use Rattle.pool_making.specs.declared.fault.MakeFault.{MakeFault}
use Rattle.pool_making.specs.declared.fault.MakeFault.TheVariants.{Exists, SlotFailed, MapFailed}

-- the answer names this slot as the one on which a call failed
abbrev pub Names : {T : Type 0} → Result T MakeFault → ℕ → Type 0
Names result slot = (result ≡ Err (SlotFailed slot)) ⊎ ((slot ≡ map_slot) × (result ≡ Err MapFailed))

-- the answer names one of the n slots, which are below that of the map, or that of the map, or none. The count of faults of the named one rose, and that of every
-- other slot is as it was
pub record HasMakeCause {T : Type 0} (n : ℕ) (before now : ℕ → ℕ) (result : Result T MakeFault) : Type 0 where
  pub below : (slot : ℕ) → result ≡ Err (SlotFailed slot) → (slot < n) × (slot < map_slot)
  pub named : (slot : ℕ) → Names result slot → Rose (before slot) (now slot)
  pub others : (slot : ℕ) → (Names result slot → ⊥) → now slot ≡ before slot

-- if the rig tells the slot of the map, `Exists` is answered only if its text in use is no shorter than a header, and then if no
-- call on that slot failed
pub record ExistsExactly {T : Type 0} (reads : ℕ → Option (List ℕ)) (result : Result T MakeFault) : Type 0 where
  pub only_if : result ≡ Err Exists → (text : List ℕ) → told_text map_slot reads ≡ Some text → 24 ≤ length text
  pub whenever : (text : List ℕ) → told_text map_slot reads ≡ Some text → 24 ≤ length text → (result ≡ Err Exists) ⊎ (result ≡ Err MapFailed)

-- after a refusal there is no pool if there was none, but perhaps after the map's slot failed
abbrev pub LeavesNoPool : {T : Type 0} → (Image → List ℕ → Type 0) → (Image → List ℕ → Type 0) → Result T MakeFault → Type 0
LeavesNoPool before now result = IfErr result (λ fault. (fault ≡ MapFailed) ⊎ (HaveNoPool before → HaveNoPool now))

-- a text that is no shorter than a header stands in use in the slot of the map, if the rig tells it
abbrev pub HasSome : (ℕ → Option (List ℕ)) → Type 0
HasSome reads = (text : List ℕ) × ((told_text map_slot reads ≡ Some text) × (24 ≤ length text))

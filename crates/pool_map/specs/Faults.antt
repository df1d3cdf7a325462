-- What a fault on a pool's map says. Source: this project.
use Rattle.std.specs.Prelude.{◌≡◌, ℕ, Result, IsErrOf}
use Rattle.rig_disk.specs.Faults.{Rose}
use Rattle.slot_journal.specs.declared.fault.JournalFault.{JournalFault}
use Rattle.slot_journal.specs.declared.fault.JournalFault.TheVariants as journal
use Rattle.pool_map.specs.declared.fault.MapFault.{MapFault}
use Rattle.pool_map.specs.declared.fault.MapFault.TheVariants as map

-- the fault of the map that a fault of its journal is
abbrev pub of_journal : JournalFault → MapFault
of_journal journal.Failed = map.Failed
of_journal (journal.BadSlot at) = map.BadMap
of_journal journal.Spent = map.Failed
of_journal journal.NoMemory = map.NoMemory

-- the slot's count of faults rose if the answer is `Failed`, and else it is as it was
pub record HasMapCause {T : Type 0} (before now : ℕ) (result : Result T MapFault) : Type 0 where
  pub failed : IsErrOf result map.Failed → Rose before now
  pub quiet : (IsErrOf result map.Failed → ⊥) → now ≡ before

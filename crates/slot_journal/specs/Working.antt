-- What a call that works on one slot leaves of a rig. Source: this project.
use Rattle.std.specs.Prelude.{◌≡◌, ◌≢◌, ℕ, List, Option}
use Rattle.rig_disk.specs.Disk.{Image}
use Rattle.rig_disk.specs.Frame.{Spends}
use Rattle.slot_journal.specs.Reading.{KeepsOtherSlots, SyncsAndReads}

-- the slot has at most this number of syncs, bytes written and bytes read; which slots are here, what was said, and all that other
-- slots read and count are as they were
pub record WorksOnSlot {R : Type 0} (is_here : R → ℕ → Type 0) (reads_of : R → ℕ → ℕ → Option (List ℕ))
    (said_of : R → Option (List ℕ)) (faults_of : R → ℕ → ℕ) (syncs_of written_of read_of : R → ℕ → Option ℕ)
    (slot sync_count written_count read_count : ℕ) (old new : R) : Type 0 where
  pub counts : Spends syncs_of written_of read_of slot sync_count written_count read_count old new
  pub kept : KeepsOtherSlots is_here reads_of said_of faults_of syncs_of written_of read_of slot old new

-- the same of a call on the journal in an area of the slot: the slot's other area reads as before
pub record WorksOnJournal {R : Type 0} (is_here : R → ℕ → Type 0) (reads_of : R → ℕ → ℕ → Option (List ℕ))
    (said_of : R → Option (List ℕ)) (faults_of : R → ℕ → ℕ) (syncs_of written_of read_of : R → ℕ → Option ℕ)
    (slot own sync_count written_count read_count : ℕ) (old new : R) : Type 0 where
  pub on_slot : WorksOnSlot is_here reads_of said_of faults_of syncs_of written_of read_of slot sync_count written_count read_count old new
  pub area : (a : ℕ) → a ≢ own → reads_of new slot a ≡ reads_of old slot a

-- a call that syncs and reads the journal in an area of the slot: the slot's other area reads as before, also if the call failed
pub record SyncsAndReadsJournal {R : Type 0} (is_here : R → ℕ → Type 0) (reads_of : R → ℕ → ℕ → Option (List ℕ))
    (said_of : R → Option (List ℕ)) (clock_of : R → ℕ) (images_of : R → ℕ → Image → List ℕ → Type 0)
    (faults_of : R → ℕ → ℕ) (syncs_of written_of read_of : R → ℕ → Option ℕ) (slot own sync_count : ℕ) (has_failed : Type 0) (old new : R) : Type 0 where
  pub on_slot : SyncsAndReads is_here reads_of said_of clock_of images_of faults_of syncs_of written_of read_of slot sync_count has_failed old new
  pub area : (a : ℕ) → a ≢ own → reads_of new slot a ≡ reads_of old slot a

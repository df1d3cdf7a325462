-- Calls that only read, and the pieces in which a text is read. Source: this project.
use Rattle.std.specs.Prelude.{◌≡◌, ◌≢◌, ◌↔◌, ◌≤◌, ◌<◌, ◌+◌, ◌-◌, ℕ, List, ◌++◌, length, take, drop, get_or, min, Option, Some, Result, IsSome, IsErrOf}
use Rattle.rig_disk.specs.Disk.{Image}
use Rattle.rig_disk.specs.During.{During}
use Rattle.rig_disk.specs.Faults.{Rose}
use Rattle.rig_disk.specs.Frame.{Adds, KeepsCounts, KeepsOthers}
use Rattle.slot_journal.specs.Header.{open_gate}
use Rattle.slot_journal.specs.Text.{max_body, record_bytes, records, AreSized, FailsAt}
use Rattle.slot_journal.specs.declared.fault.JournalFault.{JournalFault}
use Rattle.slot_journal.specs.declared.fault.JournalFault.TheVariants.{Failed}

-- the slot's count of faults rose if the answer is `Failed`, and else it is as it was
pub record HasSlotCause {T : Type 0} (before now : ℕ) (result : Result T JournalFault) : Type 0 where
  pub failed : IsErrOf result Failed → Rose before now
  pub quiet : (IsErrOf result Failed → ⊥) → now ≡ before

-- which slots are here, what was said, and all that other slots read and count are as they were
pub record KeepsOtherSlots {R : Type 0} (is_here : R → ℕ → Type 0) (reads_of : R → ℕ → ℕ → Option (List ℕ))
    (said_of : R → Option (List ℕ)) (faults_of : R → ℕ → ℕ) (syncs_of written_of read_of : R → ℕ → Option ℕ) (slot : ℕ) (old new : R) : Type 0 where
  pub here : (s : ℕ) → is_here old s ↔ is_here new s
  pub reads : (s a : ℕ) → s ≢ slot → reads_of new s a ≡ reads_of old s a
  pub said : said_of new ≡ said_of old
  pub counts : KeepsCounts faults_of syncs_of written_of read_of slot old new

-- what reads give and what a crash may leave is as it was, the other slots too; nothing is synced and nothing written
pub record OnlyReads {R : Type 0} (is_here : R → ℕ → Type 0) (reads_of : R → ℕ → ℕ → Option (List ℕ))
    (said_of : R → Option (List ℕ)) (clock_of : R → ℕ) (images_of : R → ℕ → Image → List ℕ → Type 0)
    (faults_of : R → ℕ → ℕ) (syncs_of written_of read_of : R → ℕ → Option ℕ) (slot : ℕ) (old new : R) : Type 0 where
  pub any_moment : During clock_of images_of old new (λ image said. images_of old (clock_of old) image said)
  pub kept : KeepsOtherSlots is_here reads_of said_of faults_of syncs_of written_of read_of slot old new
  pub reads : (area : ℕ) → reads_of new slot area ≡ reads_of old slot area
  pub syncs : Adds 0 (syncs_of old slot) (syncs_of new slot)
  pub written : Adds 0 (written_of old slot) (written_of new slot)

-- the same of calls on one area of the slot
pub record OnlyReadsArea {R : Type 0} (is_here : R → ℕ → Type 0) (reads_of : R → ℕ → ℕ → Option (List ℕ))
    (said_of : R → Option (List ℕ)) (clock_of : R → ℕ) (images_of : R → ℕ → Image → List ℕ → Type 0)
    (faults_of : R → ℕ → ℕ) (syncs_of written_of read_of : R → ℕ → Option ℕ) (slot area : ℕ) (old new : R) : Type 0 where
  pub any_moment : During clock_of images_of old new (λ image said. images_of old (clock_of old) image said)
  pub kept : KeepsOthers is_here reads_of said_of faults_of syncs_of written_of read_of slot area old new
  pub reads : reads_of new slot area ≡ reads_of old slot area
  pub syncs : Adds 0 (syncs_of old slot) (syncs_of new slot)
  pub written : Adds 0 (written_of old slot) (written_of new slot)

-- the same with at most `sync_count` syncs. What reads give is as it was unless the call failed, for a device may drop bytes at a
-- failed sync; what a crash may leave is as it was all the same, and whether an area is told
pub record SyncsAndReads {R : Type 0} (is_here : R → ℕ → Type 0) (reads_of : R → ℕ → ℕ → Option (List ℕ))
    (said_of : R → Option (List ℕ)) (clock_of : R → ℕ) (images_of : R → ℕ → Image → List ℕ → Type 0)
    (faults_of : R → ℕ → ℕ) (syncs_of written_of read_of : R → ℕ → Option ℕ) (slot sync_count : ℕ) (has_failed : Type 0) (old new : R) : Type 0 where
  pub any_moment : During clock_of images_of old new (λ image said. images_of old (clock_of old) image said)
  pub kept : KeepsOtherSlots is_here reads_of said_of faults_of syncs_of written_of read_of slot old new
  pub reads : (has_failed → ⊥) → (area : ℕ) → reads_of new slot area ≡ reads_of old slot area
  pub told : (area : ℕ) → IsSome (reads_of old slot area) ↔ IsSome (reads_of new slot area)
  pub syncs : Adds sync_count (syncs_of old slot) (syncs_of new slot)
  pub written : Adds 0 (written_of old slot) (written_of new slot)

-- the same of calls on one area of the slot
pub record SyncsAndReadsArea {R : Type 0} (is_here : R → ℕ → Type 0) (reads_of : R → ℕ → ℕ → Option (List ℕ))
    (said_of : R → Option (List ℕ)) (clock_of : R → ℕ) (images_of : R → ℕ → Image → List ℕ → Type 0)
    (faults_of : R → ℕ → ℕ) (syncs_of written_of read_of : R → ℕ → Option ℕ) (slot area sync_count : ℕ) (has_failed : Type 0) (old new : R) : Type 0 where
  pub any_moment : During clock_of images_of old new (λ image said. images_of old (clock_of old) image said)
  pub kept : KeepsOthers is_here reads_of said_of faults_of syncs_of written_of read_of slot area old new
  pub reads : (has_failed → ⊥) → reads_of new slot area ≡ reads_of old slot area
  pub told : IsSome (reads_of old slot area) ↔ IsSome (reads_of new slot area)
  pub syncs : Adds sync_count (syncs_of old slot) (syncs_of new slot)
  pub written : Adds 0 (written_of old slot) (written_of new slot)

-- these are bytes of the text from this place on
abbrev pub IsPiece : List ℕ → ℕ → List ℕ → Type 0
IsPiece text start bytes = bytes ≡ take (length bytes) (drop start text)

-- the same, with what tells a record's length among them, or all that is left
pub record ShowsPrefix (text : List ℕ) (at : ℕ) (ahead : List ℕ) : Type 0 where
  pub is_piece : IsPiece text at ahead
  pub enough : min 5 (length text - at) ≤ length ahead

-- a piece begins at a place or before it, and has bytes of the text, if that is told
pub record IsPieceFor (told : Option (List ℕ)) (at start : ℕ) (bytes : List ℕ) : Type 0 where
  pub begins : start ≤ at
  pub is_piece : (there : List ℕ) → told ≡ Some there → IsPiece there start bytes

-- a record with this body stands at this place
pub record IsRecordAt (text : List ℕ) (at : ℕ) (body : List ℕ) : Type 0 where
  pub within : at + (5 + length body) ≤ length text
  pub some : 1 ≤ length body
  pub most : length body ≤ max_body
  pub is : take (5 + length body) (drop at text) ≡ record_bytes body

-- of a text's bytes up to a place the first 24 are a header and the others these records
pub record IsReadUpTo (text : List ℕ) (bodies : List (List ℕ)) (at : ℕ) : Type 0 where
  pub within : at ≤ length text
  pub split : take at text ≡ take 24 text ++ records bodies
  pub sized : AreSized bodies

-- behind these records a gate is closed
pub record StopsAt (text : List ℕ) (bodies : List (List ℕ)) (place : ℕ) : Type 0 where
  pub read : IsReadUpTo text bodies place
  pub within : place < length text
  pub closed : get_or text place 0 ≢ open_gate

-- behind some records the text fails
pub record BreaksAt (text : List ℕ) (at : ℕ) : Type 0 where
  pub bodies : List (List ℕ)
  pub place : ℕ
  pub read : IsReadUpTo text bodies place
  pub fails : FailsAt (drop place text) place at

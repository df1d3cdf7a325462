-- Calls on a journal, as its slot sees them, and what holds after them.
use Rattle.std.proofs.Common.{◌≡◌, ◌+◌, ◌++◌, ◌∷◌, [], inr, ℕ, List, Option, Some, arith}
use Rattle.rig_disk.specs.Disk.{Image}
use Rattle.rig_disk.specs.Frame.{Spends, KeepsOthers}
use Rattle.rig_disk.proofs.FrameLemmas.{Spends-more, Spends-weaker, KeepsOthers-more}
use Rattle.slot_journal.specs.InUse.{told_text}
use Rattle.slot_journal.specs.Journal.{slot_of, gate_of, Holds, IsSettledWhereTold, IsFresh, IsMade, HasAdded}
use Rattle.slot_journal.specs.Reading.{SyncsAndReadsArea}
use Rattle.slot_journal.specs.Working.{WorksOnJournal, SyncsAndReadsJournal}
use Rattle.slot_journal.specs.Writing.{first_text, next_gate}
use Rattle.slot_journal.specs.declared.journal.Journal.{Journal}
use Rattle.slot_journal.proofs.CallerLemmas.{other_slots, syncs_and_reads}
use Rattle.slot_journal.proofs.InUseLemmas.{settled_as}

-- calls on one area are calls on the journal that stands there
pub works_in_area : {R : Type 0} (is_here : R → ℕ → Type 0) (reads_of : R → ℕ → ℕ → Option (List ℕ)) (said_of : R → Option (List ℕ)) (faults_of : R → ℕ → ℕ)
    (syncs_of written_of read_of : R → ℕ → Option ℕ) (slot area s w r : ℕ) (old new : R) → Spends syncs_of written_of read_of slot s w r old new
    → KeepsOthers is_here reads_of said_of faults_of syncs_of written_of read_of slot area old new
    → WorksOnJournal is_here reads_of said_of faults_of syncs_of written_of read_of slot area s w r old new
works_in_area is_here reads_of said_of faults_of syncs_of written_of read_of slot area s w r old new counts kept = record {
  on_slot = record { counts = counts; kept = other_slots is_here reads_of said_of faults_of syncs_of written_of read_of slot area old new kept };
  area = λ a other. kept.reads slot a (inr other);
}

-- the writes that shut an area, and then those of the first record
pub made_within : {R : Type 0} (is_here : R → ℕ → Type 0) (reads_of : R → ℕ → ℕ → Option (List ℕ)) (said_of : R → Option (List ℕ)) (faults_of : R → ℕ → ℕ)
    (syncs_of written_of read_of : R → ℕ → Option ℕ) (slot len : ℕ) (old mid new : R)
    → Spends syncs_of written_of read_of slot 2 1 1 old mid → Spends syncs_of written_of read_of slot 2 (len + 30) 0 mid new
    → KeepsOthers is_here reads_of said_of faults_of syncs_of written_of read_of slot 0 old mid → KeepsOthers is_here reads_of said_of faults_of syncs_of written_of read_of slot 0 mid new
    → WorksOnJournal is_here reads_of said_of faults_of syncs_of written_of read_of slot 0 4 (len + 31) 1 old new
made_within is_here reads_of said_of faults_of syncs_of written_of read_of slot len old mid new first next kept stays =
    let counts = Spends-more syncs_of written_of read_of slot 2 1 1 2 (len + 30) 0 old mid new first next in
    works_in_area is_here reads_of said_of faults_of syncs_of written_of read_of slot 0 4 (len + 31) 1 old new
    (Spends-weaker syncs_of written_of read_of slot 4 (1 + (len + 30)) 1 4 (len + 31) 1 old new (omega arith) (omega arith) (omega arith) counts)
    (KeepsOthers-more is_here reads_of said_of faults_of syncs_of written_of read_of slot 0 old mid new kept stays)

pub reads_in_area : {R : Type 0} (is_here : R → ℕ → Type 0) (reads_of : R → ℕ → ℕ → Option (List ℕ)) (said_of : R → Option (List ℕ)) (clock_of : R → ℕ)
    (images_of : R → ℕ → Image → List ℕ → Type 0) (faults_of : R → ℕ → ℕ) (syncs_of written_of read_of : R → ℕ → Option ℕ) (slot area n : ℕ)
    (has_failed fails : Type 0) (old new : R) → (has_failed → fails)
    → SyncsAndReadsArea is_here reads_of said_of clock_of images_of faults_of syncs_of written_of read_of slot area n has_failed old new
    → SyncsAndReadsJournal is_here reads_of said_of clock_of images_of faults_of syncs_of written_of read_of slot area n fails old new
reads_in_area is_here reads_of said_of clock_of images_of faults_of syncs_of written_of read_of slot area n has_failed fails old new leads only = record {
  on_slot = syncs_and_reads is_here reads_of said_of clock_of images_of faults_of syncs_of written_of read_of slot area n has_failed fails old new leads only;
  area = λ a other. only.kept.reads slot a (inr other);
}

-- what is told after a commit was told before it, so the journal is settled as it was
pub has_added : (old_reads : ℕ → ℕ → Option (List ℕ)) (old_images : Image → List ℕ → Type 0) (old : Journal) (body : List ℕ) (reads : ℕ → ℕ → Option (List ℕ)) (images : Image → List ℕ → Type 0) (new : Journal)
    → ((head : List ℕ) (bodies : List (List ℕ)) (text : List ℕ) → Holds old_reads old_images old head bodies text → (after : List ℕ) × Holds reads images new head (bodies ++ body ∷ []) after)
    → ((text : List ℕ) → told_text (slot_of new) (reads (slot_of new)) ≡ Some text → (was : List ℕ) × (told_text (slot_of old) (old_reads (slot_of old)) ≡ Some was))
    → IsSettledWhereTold old_reads old_images old → HasAdded old_reads old_images old body reads images new
has_added old_reads old_images old body reads images new holds before settled = record {
  holds = holds;
  settled = λ text told.
      let was = before text told in
      let s = settled was.0 was.1 in
      let done = holds s.head s.bodies was.0 s.holds in
      settled_as reads images new s.head (s.bodies ++ body ∷ []) done.0 text told done.1;
}

-- the same of a journal that is made
pub is_made : (old_reads reads : ℕ → ℕ → Option (List ℕ)) (images : Image → List ℕ → Type 0) (slot : ℕ) (head body : List ℕ) (journal : Journal)
    → ((text : List ℕ) → told_text slot (old_reads slot) ≡ Some text → Holds reads images journal head (body ∷ []) (first_text head body))
    → ((text : List ℕ) → told_text (slot_of journal) (reads (slot_of journal)) ≡ Some text → (was : List ℕ) × (told_text slot (old_reads slot) ≡ Some was))
    → IsFresh journal slot → gate_of journal ≡ next_gate 24 body → IsMade old_reads reads images slot head body journal
is_made old_reads reads images slot head body journal holds before fresh gate = record {
  holds = holds;
  settled = λ text told.
      let was = before text told in
      settled_as reads images journal head (body ∷ []) (first_text head body) text told (holds was.0 was.1);
  fresh = fresh;
  gate = gate;
}

-- Calls that only read, one after the other.
use Rattle.std.proofs.Common.{ℕ, List, Option, ◌∙◌}
use Rattle.rig_disk.specs.Disk.{Image}
use Rattle.rig_disk.proofs.FrameLemmas.{Adds-more, Adds-none, KeepsOthers-more, KeepsOthers-none}
use Rattle.rig_disk.proofs.Moments.{started, goes_on, at_end}
use Rattle.slot_journal.specs.Reading.{OnlyReadsArea}

module _ {R : Type 0} (is_here : R → ℕ → Type 0) (reads_of : R → ℕ → ℕ → Option (List ℕ)) (said_of : R → Option (List ℕ)) (clock_of : R → ℕ)
    (images_of : R → ℕ → Image → List ℕ → Type 0) (faults_of : R → ℕ → ℕ) (syncs_of written_of read_of : R → ℕ → Option ℕ) (slot area : ℕ) where
  abbrev Reads : R → R → Type 0
  Reads old new = OnlyReadsArea is_here reads_of said_of clock_of images_of faults_of syncs_of written_of read_of slot area old new

  pub OnlyReads-more : (old mid new : R) → Reads old mid → Reads mid new → Reads old new
  OnlyReads-more old mid new p q = record {
    any_moment = goes_on clock_of images_of old mid new (λ image said. images_of old (clock_of old) image said) (λ image said. images_of mid (clock_of mid) image said) p.any_moment q.any_moment
        (λ image said now. at_end clock_of images_of old mid (λ i x. images_of old (clock_of old) i x) p.any_moment image said now);
    kept = KeepsOthers-more is_here reads_of said_of faults_of syncs_of written_of read_of slot area old mid new p.kept q.kept;
    reads = q.reads ∙ p.reads;
    syncs = Adds-more 0 0 (syncs_of old slot) (syncs_of mid slot) (syncs_of new slot) p.syncs q.syncs;
    written = Adds-more 0 0 (written_of old slot) (written_of mid slot) (written_of new slot) p.written q.written;
  }

  pub OnlyReads-none : (rig : R) → Reads rig rig
  OnlyReads-none rig = record {
    any_moment = started clock_of images_of rig (λ image said. images_of rig (clock_of rig) image said) (λ image said now. now);
    kept = KeepsOthers-none is_here reads_of said_of faults_of syncs_of written_of read_of slot area rig;
    reads = λ i. reads_of rig slot area;
    syncs = Adds-none (syncs_of rig slot);
    written = Adds-none (written_of rig slot);
  }

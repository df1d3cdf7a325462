-- What a journal holds stays while other slots are worked on, and what calls keep of other slots: what layers above cite.
use Rattle.std.proofs.Common.{◌≡◌, ◌≢◌, ◌↔◌, ◌≤◌, inl, inr, ℕ, List, Option, Result, Ok, Err, IsSome, IsErrOf, true, false, refl, arith, ◌∙◌, sym, ap, subst}
use Rattle.std.proofs.lemmas.Bool.{cases_eq}
use Rattle.rig_disk.specs.Disk.{Image, Saying, on_told}
use Rattle.rig_disk.specs.During.{During}
use Rattle.rig_disk.specs.Frame.{KeepsOthers}
use Rattle.rig_disk.proofs.FrameLemmas.{KeepsCounts-none, Spends-none, Spends-weaker}
use Rattle.rig_disk.proofs.Moments.{at_end}
use Rattle.slot_journal.specs.InUse.{Areas, open_text, first_told}
use Rattle.slot_journal.specs.Journal.{slot_of, Holds, IsSettledWhereTold, InSlot}
use Rattle.slot_journal.specs.Reading.{KeepsOtherSlots, SyncsAndReads, SyncsAndReadsArea}
use Rattle.slot_journal.specs.Working.{WorksOnSlot}
use Rattle.slot_journal.specs.declared.fault.JournalFault.{JournalFault}
use Rattle.slot_journal.specs.declared.fault.JournalFault.TheVariants.{Failed, BadSlot}
use Rattle.slot_journal.specs.declared.journal.Journal.{Journal}

module _ {R : Type 0} (reads_of : R → ℕ → ℕ → Option (List ℕ)) (clock_of : R → ℕ) (images_of : R → ℕ → Image → List ℕ → Type 0) (old new : R) (journal : Journal)
    (same : (a : ℕ) → reads_of new (slot_of journal) a ≡ reads_of old (slot_of journal) a) where
  abbrev Now : R → Image → List ℕ → Type 0
  Now rig image said = images_of rig (clock_of rig) image said

  -- over a call that changes no image
  pub holds_over : (head : List ℕ) (bodies : List (List ℕ)) (text : List ℕ) → During clock_of images_of old new (λ image said. images_of old (clock_of old) image said)
      → Holds (reads_of old) (Now old) journal head bodies text → Holds (reads_of new) (Now new) journal head bodies text
  holds_over head bodies text run holds = record {
    told = ap (on_told open_text) (same 0) ∙ holds.told;
    told_in = ap first_told (same 0) ∙ holds.told_in;
    is_text = holds.is_text;
    durable_in = λ image said now. holds.durable_in image said (at_end clock_of images_of old new (λ i x. images_of old (clock_of old) i x) run image said now);
    durable = λ image said now. holds.durable image said (at_end clock_of images_of old new (λ i x. images_of old (clock_of old) i x) run image said now);
  }

  pub settled_over : During clock_of images_of old new (λ image said. images_of old (clock_of old) image said)
      → IsSettledWhereTold (reads_of old) (Now old) journal → IsSettledWhereTold (reads_of new) (Now new) journal
  settled_over run settled text told =
      let s = settled text (sym (ap (on_told open_text) (same 0)) ∙ told) in
      record { head = s.head; bodies = s.bodies; holds = holds_over s.head s.bodies text run s.holds }

  -- over a call on another slot
  pub holds_elsewhere : (slot : ℕ) (step : Areas → Areas → Type 0) (head : List ℕ) (bodies : List (List ℕ)) (text : List ℕ) → slot_of journal ≢ slot
      → During clock_of images_of old new (InSlot (Now old) slot step)
      → Holds (reads_of old) (Now old) journal head bodies text → Holds (reads_of new) (Now new) journal head bodies text
  holds_elsewhere slot step head bodies text other run holds = record {
    told = ap (on_told open_text) (same 0) ∙ holds.told;
    told_in = ap first_told (same 0) ∙ holds.told_in;
    is_text = holds.is_text;
    durable_in = λ image said now.
        let from = at_end clock_of images_of old new (InSlot (Now old) slot step) run image said now in
        holds.durable_in from.source said from.was;
    durable = λ image said now.
        let from = at_end clock_of images_of old new (InSlot (Now old) slot step) run image said now in
        ap open_text (from.others (slot_of journal) other 0) ∙ holds.durable from.source said from.was;
  }

  pub settled_elsewhere : (slot : ℕ) (step : Areas → Areas → Type 0) → slot_of journal ≢ slot → During clock_of images_of old new (InSlot (Now old) slot step)
      → IsSettledWhereTold (reads_of old) (Now old) journal → IsSettledWhereTold (reads_of new) (Now new) journal
  settled_elsewhere slot step other run settled text told =
      let s = settled text (sym (ap (on_told open_text) (same 0)) ∙ told) in
      record { head = s.head; bodies = s.bodies; holds = holds_elsewhere slot step s.head s.bodies text other run s.holds }

  -- over a call that says something
  pub holds_saying : (bytes : List ℕ) (head : List ℕ) (bodies : List (List ℕ)) (text : List ℕ) → During clock_of images_of old new (Saying (Now old) bytes)
      → Holds (reads_of old) (Now old) journal head bodies text → Holds (reads_of new) (Now new) journal head bodies text
  holds_saying bytes head bodies text run holds = record {
    told = ap (on_told open_text) (same 0) ∙ holds.told;
    told_in = ap first_told (same 0) ∙ holds.told_in;
    is_text = holds.is_text;
    durable_in = λ image said now.
        let from = at_end clock_of images_of old new (Saying (Now old) bytes) run image said now in
        holds.durable_in image from.before from.was;
    durable = λ image said now.
        let from = at_end clock_of images_of old new (Saying (Now old) bytes) run image said now in
        holds.durable image from.before from.was;
  }

  pub settled_saying : (bytes : List ℕ) → During clock_of images_of old new (Saying (Now old) bytes)
      → IsSettledWhereTold (reads_of old) (Now old) journal → IsSettledWhereTold (reads_of new) (Now new) journal
  settled_saying bytes run settled text told =
      let s = settled text (sym (ap (on_told open_text) (same 0)) ∙ told) in
      record { head = s.head; bodies = s.bodies; holds = holds_saying bytes s.head s.bodies text run s.holds }

module _ {R : Type 0} (is_here : R → ℕ → Type 0) (reads_of : R → ℕ → ℕ → Option (List ℕ)) (said_of : R → Option (List ℕ)) (faults_of : R → ℕ → ℕ)
    (syncs_of written_of read_of : R → ℕ → Option ℕ) (slot area : ℕ) where
  -- what calls on one area keep of other slots
  pub other_slots : (old new : R) → KeepsOthers is_here reads_of said_of faults_of syncs_of written_of read_of slot area old new
      → KeepsOtherSlots is_here reads_of said_of faults_of syncs_of written_of read_of slot old new
  other_slots old new kept = record { here = kept.here; reads = λ s a other. kept.reads s a (inl other); said = kept.said; counts = kept.counts }

-- an answer that is no failure
pub ok_unfailed : {T : Type 0} (value : T) → ◌≡◌ {A = Result T JournalFault} (Ok value) (Err Failed) → ⊥
ok_unfailed value e = cc

pub ok_not_err : false ≡ true → ⊥
ok_not_err e = cc

pub bad_unfailed : {T : Type 0} (result : Result T JournalFault) (at : ℕ) → IsErrOf result (BadSlot at) → IsErrOf result Failed → ⊥
bad_unfailed result at bad failed = cc

module _ {R : Type 0} (is_here : R → ℕ → Type 0) (reads_of : R → ℕ → ℕ → Option (List ℕ)) (said_of : R → Option (List ℕ)) (clock_of : R → ℕ)
    (images_of : R → ℕ → Image → List ℕ → Type 0) (faults_of : R → ℕ → ℕ) (syncs_of written_of read_of : R → ℕ → Option ℕ) (slot area n : ℕ) where
  -- calls that sync and read one area sync and read the slot
  pub syncs_and_reads : (has_failed fails : Type 0) (old new : R) → (has_failed → fails) → SyncsAndReadsArea is_here reads_of said_of clock_of images_of faults_of syncs_of written_of read_of slot area n has_failed old new
      → SyncsAndReads is_here reads_of said_of clock_of images_of faults_of syncs_of written_of read_of slot n fails old new
  syncs_and_reads has_failed fails old new leads only = record {
    any_moment = only.any_moment;
    kept = other_slots is_here reads_of said_of faults_of syncs_of written_of read_of slot area old new only.kept;
    reads = λ fine a. each a (only.reads (λ failed. fine (leads failed)));
    told = known;
    syncs = only.syncs;
    written = only.written;
  }
    where
      each : (a : ℕ) → reads_of new slot area ≡ reads_of old slot area → reads_of new slot a ≡ reads_of old slot a
      each a here = elim (cases_eq a area) [
        | inl same ↦ ap (λ x. reads_of new slot x) same ∙ here ∙ ap (λ x. reads_of old slot x) (sym same)
        | inr other ↦ only.kept.reads slot a (inr other)
      ]

      known : (a : ℕ) → IsSome (reads_of old slot a) ↔ IsSome (reads_of new slot a)
      known a = elim (cases_eq a area) [
        | inl same ↦ subst (λ x. IsSome (reads_of old slot x) ↔ IsSome (reads_of new slot x)) (sym same) only.told
        | inr other ↦ subst (λ (o : Option (List ℕ)). IsSome (reads_of old slot a) ↔ IsSome o) (sym (only.kept.reads slot a (inr other))) ((λ p. p), (λ p. p))
      ]

module _ {R : Type 0} (is_here : R → ℕ → Type 0) (reads_of : R → ℕ → ℕ → Option (List ℕ)) (said_of : R → Option (List ℕ)) (faults_of : R → ℕ → ℕ)
    (syncs_of written_of read_of : R → ℕ → Option ℕ) (slot : ℕ) where
  -- what a slot's calls spend at most, by larger bounds
  pub works_weaker : (s w r s' w' r' : ℕ) (old new : R) → s ≤ s' → w ≤ w' → r ≤ r'
      → WorksOnSlot is_here reads_of said_of faults_of syncs_of written_of read_of slot s w r old new → WorksOnSlot is_here reads_of said_of faults_of syncs_of written_of read_of slot s' w' r' old new
  works_weaker s w r s' w' r' old new ls lw lr works =
      record { counts = Spends-weaker syncs_of written_of read_of slot s w r s' w' r' old new ls lw lr works.counts; kept = works.kept }

  -- no call at all
  pub works_none : (s w r : ℕ) (rig : R) → WorksOnSlot is_here reads_of said_of faults_of syncs_of written_of read_of slot s w r rig rig
  works_none s w r rig = record {
    counts = Spends-weaker syncs_of written_of read_of slot 0 0 0 s w r rig rig (omega arith) (omega arith) (omega arith) (Spends-none syncs_of written_of read_of slot rig);
    kept = record {
      here = λ i. ((λ before. before), (λ now. now));
      reads = λ i a other. refl;
      said = refl;
      counts = KeepsCounts-none faults_of syncs_of written_of read_of slot rig;
    };
  }

-- calls that sync and read a slot, where a failure of theirs is one of the caller's
pub syncs_and_reads_if : {R : Type 0} (is_here : R → ℕ → Type 0) (reads_of : R → ℕ → ℕ → Option (List ℕ)) (said_of : R → Option (List ℕ)) (clock_of : R → ℕ)
    (images_of : R → ℕ → Image → List ℕ → Type 0) (faults_of : R → ℕ → ℕ) (syncs_of written_of read_of : R → ℕ → Option ℕ) (slot n : ℕ)
    (has_failed fails : Type 0) (old new : R) → (has_failed → fails)
    → SyncsAndReads is_here reads_of said_of clock_of images_of faults_of syncs_of written_of read_of slot n has_failed old new
    → SyncsAndReads is_here reads_of said_of clock_of images_of faults_of syncs_of written_of read_of slot n fails old new
syncs_and_reads_if is_here reads_of said_of clock_of images_of faults_of syncs_of written_of read_of slot n has_failed fails old new leads only = record {
  any_moment = only.any_moment;
  kept = only.kept;
  reads = λ fine. only.reads (λ failed. fine (leads failed));
  told = only.told;
  syncs = only.syncs;
  written = only.written;
}

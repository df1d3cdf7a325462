use Rattle.std.proofs.Common.{◌∙◌, ◌++◌, ◌∷◌, [], ap, sym}
use Rattle.rig_disk.specs.Disk.{From, on_told}
use Rattle.rig_disk.proofs.Areas.{was_told}
use Rattle.slot_journal.specs.InUse.{open_text}
use Rattle.rig_disk.proofs.Moments.{weaker}
use Rattle.slot_journal.specs.Journal.{slot_of, area_of, InSlot, Commits}
use Rattle.slot_journal.specs.Writing.{IsBeforeOrAfter, ReadsAsText}
use Rattle.slot_journal.proofs.InUseLemmas.{holds_area, area_holds, settled_area, commits}
use Rattle.slot_journal.proofs.WorkingLemmas.{has_added, works_in_area}
use Rattle.slot_journal.proofs.journal.Journal.commit.Goals as goal

pub commit_record-requires-clause-settled : goal.commit_record-requires-clause-settled
commit_record-requires-clause-settled g c there told =
    settled_area (g.R.Rig.reads c.args.rig.now) (g.R.Rig.images c.args.rig.now (g.R.Rig.clock c.args.rig.now)) c.args.self.now (c.requires.settled c.if-self.false) there told

pub returns-in-Ok-clause-ok : goal.returns-in-Ok-clause-ok
returns-in-Ok-clause-ok g c =
    let journal = c.args.self.now in
    let rig = c.args.rig.now in
    let body = c.args.body.now in
    let old_reads = g.R.Rig.reads rig in
    let old_images = g.R.Rig.images rig (g.R.Rig.clock rig) in
    let reads = g.R.Rig.reads c.commit_record.new.rig in
    let images = g.R.Rig.images c.commit_record.new.rig (g.R.Rig.clock c.commit_record.new.rig) in
    has_added old_reads old_images journal body reads images _
    (λ head bodies text holds.
    let inside = holds_area old_reads old_images journal head bodies text holds in
    let done = c.in-Ok.ensures.done (record { head = head; bodies = bodies; there = text; told_there = inside.told; is_text = holds.is_text }) in
    (done.0, area_holds reads images _ head (bodies ++ body ∷ []) done.0 (record { told = done.1; durable = done.3 }) done.2))
    (λ text told.
    let now = was_told (reads journal.slot 0) open_text text told in
    let area = ap (λ a. reads journal.slot a) journal.first_area in
    let before = c.in-Ok.ensures.told (record { there = now.there; told_there = area ∙ now.told }) in
    let first = ap (λ a. g.R.Rig.reads rig journal.slot a) (sym journal.first_area) ∙ before.told_there in
    (open_text before.there, ap (on_told open_text) first))
    (c.requires.settled c.if-self.false)

pub returns-in-Ok-clause-any_moment : goal.returns-in-Ok-clause-any_moment
returns-in-Ok-clause-any_moment g c =
    let rig = c.args.rig.now in
    let journal = c.args.self.now in
    let images = g.R.Rig.images rig (g.R.Rig.clock rig) in
    let Was = ReadsAsText (g.R.Rig.reads rig (slot_of journal) (area_of journal)) journal.gate in
    weaker g.R.Rig.clock g.R.Rig.images rig c.commit_record.new.rig (From images (slot_of journal) (area_of journal) (λ _ l. (was : Was) → IsBeforeOrAfter was.head was.bodies c.args.body.now journal.gate l))
    (InSlot images (slot_of journal) (Commits (g.R.Rig.reads rig) images journal c.args.body.now)) c.commit_record.ensures.any_moment (commits (g.R.Rig.reads rig) images journal c.args.body.now)

pub returns-in-Err-clause-any_moment : goal.returns-in-Err-clause-any_moment
returns-in-Err-clause-any_moment g c =
    let rig = c.args.rig.now in
    let journal = c.args.self.now in
    let images = g.R.Rig.images rig (g.R.Rig.clock rig) in
    let Was = ReadsAsText (g.R.Rig.reads rig (slot_of journal) (area_of journal)) journal.gate in
    weaker g.R.Rig.clock g.R.Rig.images rig c.commit_record.new.rig (From images (slot_of journal) (area_of journal) (λ _ l. (was : Was) → IsBeforeOrAfter was.head was.bodies c.args.body.now journal.gate l))
    (InSlot images (slot_of journal) (Commits (g.R.Rig.reads rig) images journal c.args.body.now)) c.commit_record.ensures.any_moment (commits (g.R.Rig.reads rig) images journal c.args.body.now)

pub returns-in-Ok-clause-kept : goal.returns-in-Ok-clause-kept
returns-in-Ok-clause-kept g c =
    let journal = c.args.self.now in
    works_in_area g.R.Rig.is_here g.R.Rig.reads g.R.Rig.said g.R.Rig.faults g.R.Rig.syncs g.R.Rig.bytes_written g.R.Rig.bytes_read (slot_of journal) (area_of journal)
    2 _ 0 c.args.rig.now c.commit_record.new.rig c.commit_record.ensures.counts c.commit_record.ensures.kept

pub returns-in-Err-clause-kept : goal.returns-in-Err-clause-kept
returns-in-Err-clause-kept g c =
    let journal = c.args.self.now in
    works_in_area g.R.Rig.is_here g.R.Rig.reads g.R.Rig.said g.R.Rig.faults g.R.Rig.syncs g.R.Rig.bytes_written g.R.Rig.bytes_read (slot_of journal) (area_of journal)
    2 _ 0 c.args.rig.now c.commit_record.new.rig c.commit_record.ensures.counts c.commit_record.ensures.kept

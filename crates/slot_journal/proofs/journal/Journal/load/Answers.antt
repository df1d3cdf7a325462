use Rattle.std.proofs.Common.{ℕ, List, Some, ◌∙◌, sym, ap, IsErrOf, refl, rules}
use Rattle.rig_disk.specs.Disk.{on_told}
use Rattle.rig_disk.proofs.Areas.{was_told}
use Rattle.slot_journal.specs.InUse.{open_text, first_told}
use Rattle.slot_journal.specs.declared.fault.JournalFault.TheVariants.{BadSlot}
use Rattle.slot_journal.proofs.CallerLemmas.{ok_unfailed, bad_unfailed}
use Rattle.slot_journal.proofs.WorkingLemmas.{reads_in_area}
use Rattle.slot_journal.proofs.journal.Journal.load.Goals as goal

pub returns-clause-ok : goal.returns-clause-ok
returns-clause-ok g c text told =
    let was = was_told (g.R.Rig.reads c.args.rig.now c.args.slot 0) open_text text told in
    let told_then = c.in_ok-gate.ensures.kept.reads (ok_unfailed _) ∙ was.told in
    record {
      told = ap (on_told open_text) told_then ∙ ap (λ (l : List ℕ). Some l) (sym was.changed);
      told_in = ap first_told told_then;
      is_text = c.in_ok-gate.ensures.value text told;
      durable_in = λ image said now. refl;
      durable = λ image said now. ap open_text (c.in_ok-gate.ensures.durable was.there told_then image said now) ∙ sym was.changed;
    }

pub returns-clause-settled : goal.returns-clause-settled
returns-clause-settled g c text told =
    let before = ap (on_told open_text) (sym (c.in_ok-gate.ensures.kept.reads (ok_unfailed _))) ∙ told in
    record {
      head = c.args.head.now;
      bodies = c.in_ok-gate.bodies;
      holds = returns-clause-ok g c text before;
    }

pub returns-in_err-gate-clause-bad_durable : goal.returns-in_err-gate-clause-bad_durable
returns-in_err-gate-clause-bad_durable g c at is text told image said now =
    let was = was_told (g.R.Rig.reads c.args.rig.now c.args.slot 0) open_text text told in
    let bad : IsErrOf c.read_text.result (BadSlot at) = search rules in
    let told_then = c.read_text.ensures.kept.reads (bad_unfailed c.read_text.result at bad) ∙ was.told in
    ap open_text (c.read_text.ensures.bad_durable at bad was.there told_then image said now) ∙ sym was.changed

pub returns-clause-kept : goal.returns-clause-kept
returns-clause-kept g c =
    reads_in_area g.R.Rig.is_here g.R.Rig.reads g.R.Rig.said g.R.Rig.clock g.R.Rig.images g.R.Rig.faults g.R.Rig.syncs g.R.Rig.bytes_written g.R.Rig.bytes_read c.args.slot 0 1 _ _
    c.args.rig.now c.read_text.new.rig (λ failed. absurd (ok_unfailed _ failed)) c.in_ok-gate.ensures.kept

pub returns-in_err-gate-clause-kept : goal.returns-in_err-gate-clause-kept
returns-in_err-gate-clause-kept g c =
    reads_in_area g.R.Rig.is_here g.R.Rig.reads g.R.Rig.said g.R.Rig.clock g.R.Rig.images g.R.Rig.faults g.R.Rig.syncs g.R.Rig.bytes_written g.R.Rig.bytes_read c.args.slot 0 1 _ _
    c.args.rig.now c.read_text.new.rig (λ failed. search rules) c.read_text.ensures.kept

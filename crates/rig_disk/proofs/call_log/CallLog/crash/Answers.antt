use Rattle.std.proofs.Common.{◌∙◌, List, ap, sym, subst}
use Rattle.rig_disk.specs.CallLog.{AreSound}
use Rattle.rig_disk.specs.SlotAreas.{image_of}
use Rattle.rig_disk.specs.declared.call.Call.{Call}
use Rattle.rig_disk.proofs.AgreeLemmas.{log_of}
use Rattle.rig_disk.proofs.PickLemmas.{crashed_left_of}
use Rattle.rig_disk.proofs.call_log.CallLog.crash.Goals as goal

pub returns-clause-image : goal.returns-clause-image
returns-clause-image c =
    let first = c.self.inside.first in
    let sound = subst (λ (cs : List Call). AreSound cs (image_of first)) (sym c.as_slice.ensures.value) c.self.invariant.sound in
    crashed_left_of c.args.pick (log_of first c.as_slice.result.now) c.args.self.now (image_of c.in_ok-first.first) (ap (log_of first) c.as_slice.ensures.value ∙ c.self.view_is) sound c.in_ok-first.ensures

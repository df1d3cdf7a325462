use Rattle.std.proofs.Common.{List, sym, subst}
use Rattle.rig_disk.specs.CallLog.{Agrees}
use Rattle.rig_disk.specs.declared.call.Call.{Call}
use Rattle.rig_disk.proofs.AgreeLemmas.{cut_agrees}
use Rattle.rig_disk.proofs.call_log.CallLog.shorten.Goals as goal

pub invariant_of-self-2 : goal.invariant_of-self-2
invariant_of-self-2 c = subst (λ (cs : List Call). Agrees c.self.inside.first c.shorten.new.self cs c.self.inside.said.items) (sym c.in_ok-push.ensures.items)
    (cut_agrees c.self.inside.first c.self.inside.areas c.shorten.new.self c.self.inside.calls.items c.self.inside.said.items c.self.invariant c.args.slot c.args.area c.requires.slot c.requires.area c.shorten.ensures.others c.args.len c.shorten.ensures.cut)

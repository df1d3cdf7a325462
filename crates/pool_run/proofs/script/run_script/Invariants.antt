use Rattle.std.proofs.Common.{◌≡◌, ◌≢◌, ℕ, map, take}
use Rattle.rig_disk.specs.declared.limits.TheConstants.{VOICE}
use Rattle.pool_run.proofs.RunLemmas.{Answered}
use Rattle.pool_run.proofs.script.run_script.Given as goal

abbrev pub invariant-loop-line : goal.invariant-loop-line
invariant-loop-line g l =
    let faults = g.R.Rig.faults in
    let code = (goal.Code-dyn g l.code.now).meaning l.code.now.1 in
    record {
      answered : Answered code l.unit (map (λ x. x.now) (take l.line-index l.line-items)) l.session.objects l.session.all_done (g.R.Rig.said l.initial.rig) (g.R.Rig.said l.rig);
      quiet : faults l.rig VOICE ≡ faults l.initial.rig VOICE;
      slots : (slot : ℕ) → slot ≢ VOICE → faults l.rig slot ≡ faults l.initial.rig slot;
    }

use Rattle.std.proofs.Common.{◌≡◌, ◌≤◌}
use Rattle.ec_model.specs.Codes.{count_below}
use Rattle.auth_log.proofs.state.size_of.Given as goal

abbrev pub invariant-loop-p : goal.invariant-loop-p
invariant-loop-p l = (l.size ≡ count_below l.set.0 l.p) × (l.size ≤ l.p)

use Rattle.std.proofs.Common.{◌≡◌, ℕ, ◌<◌}
use Rattle.ec_model.specs.Rows.{entry_at}
use Rattle.ec_model.specs.Codes.{HasPosition}
use Rattle.read_plan.proofs.lines.are_settled.Given as goal

abbrev pub invariant-loop-p : goal.invariant-loop-p
invariant-loop-p l = (p j : ℕ) → p < l.p → j < 16 → HasPosition l.set.0 p → entry_at l.rows p j ≡ 0

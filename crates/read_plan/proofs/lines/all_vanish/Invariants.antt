use Rattle.std.proofs.Common.{◌<◌, ℕ}
use Rattle.ec_model.specs.Rows.{row_at}
use Rattle.ec_model.specs.Codes.{HasPosition}
use Rattle.read_plan.specs.Settling.{Vanishes}
use Rattle.read_plan.proofs.lines.all_vanish.Given as goal

abbrev pub invariant-loop-p : goal.invariant-loop-p
invariant-loop-p l = (p : ℕ) → p < l.p → HasPosition l.set.0 p → Vanishes (row_at l.rows p) l.row l.lead l.by

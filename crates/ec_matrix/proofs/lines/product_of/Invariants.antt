use Rattle.std.proofs.Common.{◌≡◌}
use Rattle.ec_model.specs.Rows.{dot}
use Rattle.ec_matrix.proofs.lines.product_of.Given as goal

abbrev pub invariant-loop-j : goal.invariant-loop-j
invariant-loop-j l = l.sum ≡ dot l.j l.row l.column

use Rattle.ec_matrix.specs.Columns.{IsReduced}
use Rattle.ec_matrix.proofs.solution.solve.Given as goal

abbrev pub invariant-loop-at : goal.invariant-loop-at
invariant-loop-at l = IsReduced l.lines l.columns l.owners l.at

use Rattle.ec_matrix.proofs.CombinationLemmas.{IsLeft}
use Rattle.ec_matrix.proofs.solution.coefficients.Given as goal

abbrev pub invariant-loop-i : goal.invariant-loop-i
invariant-loop-i l = IsLeft l.rows l.columns l.owners l.height l.wanted l.coefficients l.left l.i

use Rattle.ec_matrix.proofs.MatrixLemmas.{zero_is_matrix, zeros_at}
use Rattle.ec_matrix.proofs.matrix.Mat.zero.Goals as goal

pub invariant_of-result : goal.invariant_of-result
invariant_of-result c = zero_is_matrix c.args.rows c.args.cols c.requires.rows c.requires.cols

pub returns-clause-entries : goal.returns-clause-entries
returns-clause-entries c = λ r k. zeros_at 16 16 r k

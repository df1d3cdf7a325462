use Rattle.std.proofs.Common.{rules}
use Rattle.ec_matrix.proofs.matrix.Mat.set.Goals as goal

pub invariant_of-self : goal.invariant_of-self
invariant_of-self c = search rules

pub returns-clause-value : goal.returns-clause-value
returns-clause-value c = search rules

pub returns-clause-other_columns : goal.returns-clause-other_columns
returns-clause-other_columns c = search rules

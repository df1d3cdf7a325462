use Rattle.ec_matrix.proofs.SolutionLemmas.{never_both}
use Rattle.ec_matrix.proofs.laws.answers_exclude_each_other.Goals as goal

pub returns : goal.returns
returns c = never_both

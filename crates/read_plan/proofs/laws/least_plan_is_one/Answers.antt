use Rattle.read_plan.proofs.OrderLemmas.{one_least}
use Rattle.read_plan.proofs.laws.least_plan_is_one.Goals as goal

pub returns : goal.returns
returns c = one_least

use Rattle.read_plan.proofs.OrderLemmas.{order_by_lists}
use Rattle.read_plan.proofs.laws.order_is_by_lists.Goals as goal

pub returns : goal.returns
returns c = order_by_lists

use Rattle.run_model.proofs.TryLemmas.{in_order}
use Rattle.run_model.proofs.laws.lines_are_answered_in_order.Goals as goal

pub returns : goal.returns
returns c = in_order

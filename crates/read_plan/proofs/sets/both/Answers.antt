use Rattle.read_plan.proofs.SetLemmas.{in-or_left, in-or_right}
use Rattle.read_plan.proofs.sets.both.Goals as goal

pub returns-clause-one : goal.returns-clause-one
returns-clause-one c = in-or_left c.args.one.0 c.args.other.0

pub returns-clause-other : goal.returns-clause-other
returns-clause-other c = in-or_right c.args.one.0 c.args.other.0

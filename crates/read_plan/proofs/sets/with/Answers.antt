use Rattle.read_plan.proofs.SetLemmas.{is_with}
use Rattle.read_plan.proofs.sets.with.Goals as goal

pub returns : goal.returns
returns c = is_with c.args.set.0 c.args.q c.requires.below c.requires.lacks

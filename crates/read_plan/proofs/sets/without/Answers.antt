use Rattle.std.proofs.Common.{arith}
use Rattle.read_plan.proofs.SetLemmas.{is_without}
use Rattle.read_plan.proofs.sets.without.Goals as goal

pub returns : goal.returns
returns c = is_without c.args.set.0 c.args.q (omega arith) c.requires.below c.requires.has

use Rattle.std.proofs.Common.{arith}
use Rattle.read_plan.proofs.SetLemmas.{size_is_ones}
use Rattle.read_plan.proofs.sets.size.Goals as goal

pub returns : goal.returns
returns c = size_is_ones c.args.set.0 (omega arith)

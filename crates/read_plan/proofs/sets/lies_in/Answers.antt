use Rattle.std.proofs.Common.{arith}
use Rattle.std.proofs.lemmas.Bool.Decides.{nat_tests}
use Rattle.read_plan.proofs.SetLemmas.{in_by_and, and_by_in}
use Rattle.read_plan.proofs.sets.lies_in.Goals as goal

pub returns : goal.returns
returns c = (
  λ e. in_by_and c.args.one.0 c.args.other.0 (grind (arith, nat_tests)),
  λ h. let e = and_by_in c.args.one.0 c.args.other.0 h in grind (arith, nat_tests),
)

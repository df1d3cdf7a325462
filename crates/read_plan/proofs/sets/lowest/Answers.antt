use Rattle.std.proofs.Common.{arith}
use Rattle.std.specs.Int.{w16}
use Rattle.std.proofs.lemmas.Nat.Bits.{bit_at-trailing_zeros}
use Rattle.read_plan.proofs.SetLemmas.{bit-of_zero}
use Rattle.read_plan.proofs.sets.lowest.Goals as goal

pub returns-clause-has : goal.returns-clause-has
returns-clause-has c = (bit_at-trailing_zeros w16 c.args.set.0 c.requires (omega arith)).1

pub returns-clause-least : goal.returns-clause-least
returns-clause-least c = λ p lt. bit-of_zero c.args.set.0 p ((bit_at-trailing_zeros w16 c.args.set.0 c.requires (omega arith)).2 p lt)

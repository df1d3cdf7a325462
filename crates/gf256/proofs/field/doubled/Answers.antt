use Rattle.gf256.proofs.StepLemmas.{doubled_low, doubled_high}
use Rattle.gf256.proofs.field.doubled.Goals as goal

pub returns-then-a-lt128 : goal.returns-then-a-lt128
returns-then-a-lt128 c = doubled_low _ c.if-a-lt128.true

pub returns-else-a-lt128 : goal.returns-else-a-lt128
returns-else-a-lt128 c = doubled_high _ c.if-a-lt128.false (c.ranges.a.fits)

use Rattle.std.proofs.Common.{arith}
use Rattle.ec_model.proofs.AlikeLemmas.{alike_back, decides_as}
use Rattle.ec_model.proofs.laws.alike_codes_decide_the_same.Goals as goal

pub returns : goal.returns
returns c = λ one other from p alike lt. (
  decides_as one other from p alike lt,
  decides_as other one from p (alike_back one other alike) (omega (arith, lt, alike.positions)),
)

use Rattle.std.proofs.Common.{arith}
use Rattle.ec_model.proofs.AlikeLemmas.{alike_back, list_as}
use Rattle.ec_model.proofs.laws.alike_codes_have_the_same_lists.Goals as goal

pub returns : goal.returns
returns c = λ one other unit bytes p list alike lt. (
  list_as one other unit bytes p list alike lt,
  list_as other one unit bytes p list (alike_back one other alike) (omega (arith, lt, alike.positions)),
)

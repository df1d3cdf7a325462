use Rattle.std.proofs.Common.{◌<◌, ℕ}
use Rattle.ec_model.specs.Codes.{HasPosition, DecidesOne}
use Rattle.ec_code.proofs.deciding.decides.Given as goal

abbrev pub invariant-loop-p : goal.invariant-loop-p
invariant-loop-p g l = (p : ℕ) → p < l.p → HasPosition l.wanted.0 p → DecidesOne ((goal.Code-dyn g l.code.now).meaning l.code.now.1) l.from.0 p

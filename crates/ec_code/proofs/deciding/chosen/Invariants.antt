use Rattle.ec_code.specs.Choosing.{ChoosesBelow}
use Rattle.ec_code.proofs.deciding.chosen.Given as goal

abbrev pub invariant-loop-q : goal.invariant-loop-q
invariant-loop-q g l = ChoosesBelow ((goal.Code-dyn g l.code.now).meaning l.code.now.1) l.from.0 l.q l.rows

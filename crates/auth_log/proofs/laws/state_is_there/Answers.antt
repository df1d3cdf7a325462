use Rattle.auth_log.proofs.StateLemmas.{some_state}
use Rattle.auth_log.proofs.laws.state_is_there.Goals as goal

pub returns : goal.returns
returns c = λ code peers min holds decided few. some_state code decided peers min holds few

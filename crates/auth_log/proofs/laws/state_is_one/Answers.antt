use Rattle.auth_log.proofs.LawLemmas.{one_state}
use Rattle.auth_log.proofs.laws.state_is_one.Goals as goal

pub returns : goal.returns
returns c = one_state

use Rattle.auth_log.proofs.LawLemmas.{greater_is_sufficient}
use Rattle.auth_log.proofs.laws.greater_set_is_sufficient.Goals as goal

pub returns : goal.returns
returns c = greater_is_sufficient

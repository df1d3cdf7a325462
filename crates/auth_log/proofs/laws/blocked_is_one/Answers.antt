use Rattle.auth_log.proofs.LawLemmas.{blocked_not_sufficient, one_blocked}
use Rattle.auth_log.proofs.laws.blocked_is_one.Goals as goal

pub returns : goal.returns
returns c = λ code peers epoch up b. (blocked_not_sufficient code peers epoch up b, λ other slots also. one_blocked code peers epoch up other slots b also)

use Rattle.auth_log.proofs.AlikeLemmas.{choose_alike}
use Rattle.auth_log.proofs.laws.only_up_slots_count.Goals as goal

pub returns : goal.returns
returns c = choose_alike

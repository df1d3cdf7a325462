use Rattle.auth_log.proofs.KeptLemmas.{alive_among}
use Rattle.auth_log.proofs.laws.alive_among_kept.Goals as goal

pub returns : goal.returns
returns c = alive_among

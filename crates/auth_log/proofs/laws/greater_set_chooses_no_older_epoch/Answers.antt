use Rattle.auth_log.proofs.LawLemmas.{no_older_epoch}
use Rattle.auth_log.proofs.laws.greater_set_chooses_no_older_epoch.Goals as goal

pub returns : goal.returns
returns c = no_older_epoch

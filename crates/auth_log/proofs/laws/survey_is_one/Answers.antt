use Rattle.auth_log.proofs.LawLemmas.{one_survey}
use Rattle.auth_log.proofs.laws.survey_is_one.Goals as goal

pub returns : goal.returns
returns c = one_survey

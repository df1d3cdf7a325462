use Rattle.auth_log.proofs.SurveyLemmas.{some_survey}
use Rattle.auth_log.proofs.laws.survey_is_there.Goals as goal

pub returns : goal.returns
returns c = some_survey

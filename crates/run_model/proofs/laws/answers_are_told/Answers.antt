use Rattle.run_model.proofs.ToldLemmas.{answers_are_told}
use Rattle.run_model.proofs.laws.answers_are_told.Goals as goal

pub returns : goal.returns
returns c = answers_are_told

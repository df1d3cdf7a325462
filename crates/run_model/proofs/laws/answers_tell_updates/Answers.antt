use Rattle.run_model.proofs.TryLemmas.{answers_tell}
use Rattle.run_model.proofs.laws.answers_tell_updates.Goals as goal

pub returns : goal.returns
returns c = answers_tell

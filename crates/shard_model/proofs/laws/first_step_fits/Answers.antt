use Rattle.shard_model.proofs.PastLemmas.{first_step}
use Rattle.shard_model.proofs.laws.first_step_fits.Goals as goal

pub returns : goal.returns
returns c = λ g s t step steps is. first_step g s step steps t is

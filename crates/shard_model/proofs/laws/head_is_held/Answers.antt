use Rattle.shard_model.proofs.StepLemmas.{known_low, known_high}
use Rattle.shard_model.proofs.HeadLemmas.{head_held}
use Rattle.shard_model.proofs.laws.head_is_held.Goals as goal

pub returns : goal.returns
returns c = λ g s positive whole. record { newest = head_held g positive s whole; known = known_low g positive s; up_to_head = λ v. known_high g positive s v whole }

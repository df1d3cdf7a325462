use Rattle.shard_model.proofs.StepLemmas.{whole_replay}
use Rattle.shard_model.proofs.laws.replays_are_whole.Goals as goal

pub returns : goal.returns
returns c = λ g positive steps s is. whole_replay g positive steps s is

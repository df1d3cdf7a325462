use Rattle.shard_model.proofs.PastLemmas.{goes_on}
use Rattle.shard_model.proofs.laws.replay_goes_on.Goals as goal

pub returns : goal.returns
returns c = λ g first more s t is. goes_on g first more s t is

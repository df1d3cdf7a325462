use Rattle.shard_model.proofs.PastLemmas.{keeps_held}
use Rattle.shard_model.proofs.laws.entries_keep_held.Goals as goal

pub returns : goal.returns
returns c = λ g s e may. keeps_held g may.stripes s may.whole e may.fit

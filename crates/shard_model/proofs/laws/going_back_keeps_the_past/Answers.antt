use Rattle.shard_model.proofs.PastLemmas.{past_kept}
use Rattle.shard_model.proofs.laws.going_back_keeps_the_past.Goals as goal

pub returns : goal.returns
returns c = λ g s w v may held. past_kept g may.stripes s may.whole w v may.fit held

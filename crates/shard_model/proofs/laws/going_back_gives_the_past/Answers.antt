use Rattle.shard_model.proofs.PastLemmas.{past_given}
use Rattle.shard_model.proofs.laws.going_back_gives_the_past.Goals as goal

pub returns : goal.returns
returns c = λ g s v may. past_given g may.stripes s may.whole v may.fit

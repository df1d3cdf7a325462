use Rattle.shard_model.proofs.StepLemmas.{one_more}
use Rattle.shard_model.proofs.laws.undoing_is_replaying.Goals as goal

pub returns : goal.returns
returns c = λ g s step may. one_more g may.stripes s step may.whole may.fit

use Rattle.shard_store.proofs.StayLemmas.{others_flush}
use Rattle.shard_store.proofs.laws.others_may_flush.Goals as goal

pub returns : goal.returns
returns g c = others_flush g.R.Rig.is_here g.R.Rig.reads g.R.Rig.clock g.R.Rig.images

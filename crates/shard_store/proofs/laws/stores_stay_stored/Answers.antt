use Rattle.shard_store.proofs.StayLemmas.{stay_elsewhere, stay_over, stay_saying}
use Rattle.shard_store.proofs.laws.stores_stay_stored.Goals as goal

pub returns-clause-elsewhere : goal.returns-clause-elsewhere
returns-clause-elsewhere g c = stay_elsewhere g.R.Rig.reads g.R.Rig.clock g.R.Rig.images

pub returns-clause-over : goal.returns-clause-over
returns-clause-over g c = stay_over g.R.Rig.reads g.R.Rig.clock g.R.Rig.images

pub returns-clause-saying : goal.returns-clause-saying
returns-clause-saying g c = stay_saying g.R.Rig.reads g.R.Rig.clock g.R.Rig.images

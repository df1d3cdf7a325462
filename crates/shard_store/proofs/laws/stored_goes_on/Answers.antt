use Rattle.shard_store.proofs.StayLemmas.{staging, telling, rest_kept, images_have}
use Rattle.shard_store.proofs.laws.stored_goes_on.Goals as goal

pub returns-clause-staging : goal.returns-clause-staging
returns-clause-staging g c = staging g.R.Rig.reads g.R.Rig.clock g.R.Rig.images

pub returns-clause-telling : goal.returns-clause-telling
returns-clause-telling g c = telling g.R.Rig.reads g.R.Rig.clock g.R.Rig.images

pub returns-clause-rest : goal.returns-clause-rest
returns-clause-rest g c = rest_kept g.R.Rig.reads g.R.Rig.clock g.R.Rig.images

pub returns-clause-images : goal.returns-clause-images
returns-clause-images g c = images_have g.R.Rig.reads g.R.Rig.clock g.R.Rig.images

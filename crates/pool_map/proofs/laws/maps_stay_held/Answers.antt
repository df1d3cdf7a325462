use Rattle.pool_map.proofs.HeldLemmas.{stay_held, stay_elsewhere, stay_over}
use Rattle.pool_map.proofs.laws.maps_stay_held.Goals as goal

pub returns-clause-held : goal.returns-clause-held
returns-clause-held g c = stay_held g.R.Rig.reads g.R.Rig.clock g.R.Rig.images

pub returns-clause-elsewhere : goal.returns-clause-elsewhere
returns-clause-elsewhere g c = stay_elsewhere g.R.Rig.reads g.R.Rig.clock g.R.Rig.images

pub returns-clause-over : goal.returns-clause-over
returns-clause-over g c = stay_over g.R.Rig.reads g.R.Rig.clock g.R.Rig.images

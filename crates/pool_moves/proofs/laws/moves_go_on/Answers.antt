use Rattle.pool_moves.specs.Moves.{Move}
use Rattle.pool_moves.proofs.InstantLemmas.{runs_on, runs_over}
use Rattle.pool_moves.proofs.laws.moves_go_on.Goals as goal

pub returns-clause-on : goal.returns-clause-on
returns-clause-on g c = λ code l old mid new first second. runs_on g.R.Rig.clock g.R.Rig.images (Move code l) l old mid new first second

pub returns-clause-over : goal.returns-clause-over
returns-clause-over g c = λ code l old new run. runs_over g.R.Rig.clock g.R.Rig.images (Move code l) l old new run

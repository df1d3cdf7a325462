use Rattle.pool_agreement.proofs.MoveLemmas.{agreed_on}
use Rattle.pool_agreement.proofs.laws.calls_keep_agreement.Goals as goal

pub returns : goal.returns
returns g c = λ layout history old new all run. agreed_on c.moves_keep_agreement.ensures layout history g.R.Rig.clock g.R.Rig.images old new all run

use Rattle.map_model.proofs.LastLemmas.{last_pushed}
use Rattle.map_model.proofs.laws.last_is_the_added.Goals as goal

pub returns : goal.returns
returns c = last_pushed

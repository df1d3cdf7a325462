use Rattle.map_model.proofs.SoundLemmas.{newest_alive}
use Rattle.map_model.proofs.laws.the_newest_goes_alive.Goals as goal

pub returns : goal.returns
returns c = newest_alive

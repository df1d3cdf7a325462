use Rattle.map_model.proofs.SoundLemmas.{counted}
use Rattle.map_model.proofs.laws.last_epoch_is_the_count.Goals as goal

pub returns : goal.returns
returns c = counted

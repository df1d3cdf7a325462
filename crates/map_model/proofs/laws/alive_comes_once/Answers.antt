use Rattle.map_model.proofs.SoundLemmas.{alive_once}
use Rattle.map_model.proofs.laws.alive_comes_once.Goals as goal

pub returns : goal.returns
returns c = alive_once

use Rattle.map_model.proofs.SoundLemmas.{older_than_last}
use Rattle.map_model.proofs.laws.alive_are_older.Goals as goal

pub returns : goal.returns
returns c = older_than_last

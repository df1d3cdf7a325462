use Rattle.map_model.proofs.KeptLemmas.{kept_by}
use Rattle.map_model.proofs.laws.kept_are_by_places.Goals as goal

pub returns : goal.returns
returns c = kept_by

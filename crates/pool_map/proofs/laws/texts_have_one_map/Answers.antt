use Rattle.pool_map.proofs.OneMapLemmas.{one_text_map}
use Rattle.pool_map.proofs.laws.texts_have_one_map.Goals as goal

pub returns : goal.returns
returns c = one_text_map c.texts_have_one_reading.ensures

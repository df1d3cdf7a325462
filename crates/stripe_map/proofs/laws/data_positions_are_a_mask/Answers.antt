use Rattle.stripe_map.proofs.DecodingMaskLemmas.{data_is_its_mask}
use Rattle.stripe_map.proofs.laws.data_positions_are_a_mask.Goals as goal

pub returns : goal.returns
returns c = data_is_its_mask

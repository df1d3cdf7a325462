use Rattle.stripe_map.proofs.DecodingLemmas.{sum_is_the_list}
use Rattle.stripe_map.proofs.laws.sum_of_lists_is_the_list.Goals as goal

pub returns : goal.returns
returns c = sum_is_the_list

use Rattle.stripe_map.proofs.AssemblyLemmas.{made_is_object}
use Rattle.stripe_map.proofs.laws.what_is_made_is_the_object.Goals as goal

pub returns : goal.returns
returns c = made_is_object

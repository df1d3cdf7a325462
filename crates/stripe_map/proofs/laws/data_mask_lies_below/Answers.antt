use Rattle.std.proofs.Common.{◌<◌, subst}
use Rattle.ec_words.proofs.SetLemmas.{set_below}
use Rattle.stripe_map.proofs.laws.data_mask_lies_below.Goals as goal

pub returns : goal.returns
returns c = λ code mask is_code is.
    set_below code.n mask (λ p has. let found = (is p).0 has in subst (λ q. q < code.n) found.1.1 (is_code.placed found.0 found.1.0))

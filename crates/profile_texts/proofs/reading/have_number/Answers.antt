use Rattle.std.proofs.Common.{◌∙◌, rules}
use Rattle.std.proofs.lemmas.Iterator.{YieldsList-from_slice}
use Rattle.std.proofs.lemmas.Iterator.Search.{any_from_yields_List}
use Rattle.ec_code.specs.Readings.{is_number_key}
use Rattle.profile_texts.proofs.KeyLemmas.{any_key_of_shown}
use Rattle.profile_texts.proofs.reading.have_number.Goals as goal

pub returns : goal.returns
returns c =
    any_from_yields_List (λ s. is_number_key s.key.now) _ _ _ c.any.ensures.ran (YieldsList-from_slice c.args.settings.now c.iter.ensures.rest) (λ x b q k. search rules)
    ∙ any_key_of_shown is_number_key c.args.settings.now

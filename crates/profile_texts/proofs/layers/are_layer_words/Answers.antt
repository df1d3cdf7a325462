use Rattle.std.proofs.Common.{rules}
use Rattle.std.proofs.lemmas.Iterator.Splits.{YieldsList-from_slice_split}
use Rattle.std.proofs.lemmas.Iterator.Search.{all_from_yields_List}
use Rattle.ec_code.specs.LayerTexts.{is_space, is_layer_word}
use Rattle.profile_texts.proofs.layers.are_layer_words.Goals as goal

pub returns : goal.returns
returns c =
    all_from_yields_List is_layer_word _ _ _ c.all.ensures.ran
    (YieldsList-from_slice_split _ is_space c.args.text.now c.split.ensures.rest c.split.ensures.done c.split.ensures.closure (λ x b q k. search rules))
    (λ x b q k. search rules)

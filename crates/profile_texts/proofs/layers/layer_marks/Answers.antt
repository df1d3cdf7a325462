use Rattle.std.proofs.Common.{◌≡◌, rules, arith}
use Rattle.std.specs.List.{list_all}
use Rattle.std.proofs.lemmas.Grind.{common_steps}
use Rattle.std.proofs.lemmas.Iterator.{YieldsList-from_slice}
use Rattle.std.proofs.lemmas.Iterator.Search.{all_from_yields_List}
use Rattle.ec_code.specs.LayerTexts.{is_mark}
use Rattle.profile_texts.proofs.layers.layer_marks.Goals as goal

pub returns-then-all : goal.returns-then-all
returns-then-all c =
    let marks : c.all.result ≡ list_all is_mark c.as_bytes-text.result.now =
    all_from_yields_List is_mark _ _ _ c.all.ensures.ran (YieldsList-from_slice c.as_bytes-text.result.now c.iter.ensures.rest) (λ x b q k. search rules)
    in grind (arith, common_steps)

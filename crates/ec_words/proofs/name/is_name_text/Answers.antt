use Rattle.std.proofs.Common.{◌≡◌, rules, arith}
use Rattle.std.specs.List.{list_all}
use Rattle.std.proofs.lemmas.Grind.{common_steps}
use Rattle.std.proofs.lemmas.Iterator.{YieldsList-from_slice}
use Rattle.std.proofs.lemmas.Iterator.Search.{all_from_yields_List}
use Rattle.ec_words.specs.Names.{is_name_byte}
use Rattle.ec_words.proofs.name.is_name_text.Goals as goal

pub returns-then-text-le-MAX_NAME : goal.returns-then-text-le-MAX_NAME
returns-then-text-le-MAX_NAME c =
    let visible : c.all.result ≡ list_all is_name_byte c.args.text.now =
    all_from_yields_List is_name_byte _ _ _ c.all.ensures.ran (YieldsList-from_slice c.args.text.now c.iter.ensures.rest) (λ x b q k. search rules)
    in grind (arith, common_steps)

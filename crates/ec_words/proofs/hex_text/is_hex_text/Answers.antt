use Rattle.std.proofs.Common.{◌≡◌, rules, arith}
use Rattle.std.specs.List.{list_all}
use Rattle.std.proofs.lemmas.Grind.{common_steps}
use Rattle.std.proofs.lemmas.Iterator.{YieldsList-from_slice}
use Rattle.std.proofs.lemmas.Iterator.Search.{all_from_yields_List}
use Rattle.ec_words.specs.HexText.{is_digit}
use Rattle.ec_words.proofs.hex_text.is_hex_text.Goals as goal

pub returns-then-text-eq0 : goal.returns-then-text-eq0
returns-then-text-eq0 c =
    let digits : c.all.result ≡ list_all is_digit c.args.text.now =
    all_from_yields_List is_digit _ _ _ c.all.ensures.ran (YieldsList-from_slice c.args.text.now c.iter.ensures.rest) (λ x b q k. search rules)
    in grind (arith, common_steps)

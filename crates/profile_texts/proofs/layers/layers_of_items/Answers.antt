use Rattle.std.proofs.Common.{◌≡◌, ◌++◌, ◌+◌, [], ◌∷◌, length, Some, ap, sym, ◌∙◌, arith}
use Rattle.std.specs.Option.{option_map}
use Rattle.std.proofs.lemmas.List.{length-append}
use Rattle.serde_json.specs.View.{view}
use Rattle.ec_code.specs.LayerTexts.{layer_of_value}
use Rattle.ec_code.specs.LayerValues.{layers_value}
use Rattle.profile_texts.proofs.LayerLemmas.{too_many_layers, few_layers, one_more_layer, all_layers}
use Rattle.profile_texts.proofs.layers.layers_of_items.Goals as goal

pub returns-then-items-gt-MOST : goal.returns-then-items-gt-MOST
returns-then-items-gt-MOST c = ap (option_map layers_value) (sym (too_many_layers c.args.items.now c.if-items-gt-MOST.true))

pub loop-item-preserved : goal.loop-item-preserved
loop-item-preserved c =
    let inv = c.loop-item.invariant in
    let text = c.in-Some.text.now in
    let grown : length (inv.0 ++ text ∷ []) ≡ c.loop-item.item-index + 1 = omega (arith, length-append inv.0 (text ∷ []), inv.2) in
    let more = one_more_layer c.args.items.now c.loop-item.item-index c.item-item.result (omega arith) inv.0 text (sym (c.in-Some.ensures ∙ ap (λ v. layer_of_value (view v)) c.item-item.is)) in
    (inv.0 ++ text ∷ [], c.add.ensures.value inv.0 inv.1 (omega (arith, inv.2)), grown, sym more ∙ inv.3)

pub returns : goal.returns
returns c =
    let inv = c.loop-item.invariant in
    ap Some inv.1 ∙ ap (option_map layers_value)
    (sym (few_layers c.args.items.now c.if-items-gt-MOST.false ∙ sym inv.3 ∙ all_layers c.args.items.now c.loop-item.item-index inv.0 (omega arith)))

use Rattle.std.proofs.Common.{◌≡◌, ◌++◌, [], ◌∷◌, get_or, length, take, ap, sym, ◌∙◌, arith}
use Rattle.std.proofs.lemmas.List.{take_all, append_assoc}
use Rattle.std.proofs.lemmas.List.FromFn.{get_or-map-range_with_len, length-map-range_with_len}
use Rattle.ec_code.specs.LrcFaults.{layer_texts, text_of_layer}
use Rattle.ec_code.specs.Mappings.{layer_at}
use Rattle.plugin_reg.specs.Canonical.{layer_items, layer_item}
use Rattle.plugin_reg.proofs.PushLemmas.{first_of, next_of}
use Rattle.plugin_reg.proofs.printing.push_layers.Goals as goal
use Rattle.plugin_reg.proofs.printing.push_layers.Goals.{then-i-gt0+in_ok-push, else-i-gt0}

pub loop-i-preserved : goal.loop-i-preserved
loop-i-preserved c =
    let texts = layer_texts c.args.layers.now in
    let i = c.loop-i.i in
    let size : length texts ≡ c.args.layers.now.count = length-map-range_with_len (λ i. text_of_layer (layer_at c.args.layers.now.each i)) 0 c.args.layers.now.count in
    let here : get_or texts i [] ≡ text_of_layer (layer_at c.args.layers.now.each i) =
    get_or-map-range_with_len (λ i. text_of_layer (layer_at c.args.layers.now.each i)) 0 c.args.layers.now.count i i [] (omega arith) (omega arith) in
    elim c.if-i-gt0.branch [
      | then-i-gt0+in_ok-push w ↦
          let next = next_of texts i (omega (arith, w.if-i-gt0.true)) (omega (arith, size)) ∙ ap (λ t. layer_items (take i texts) ++ 44 ∷ layer_item t) here in
          c.in_ok-push_layer.ensures ∙ ap (λ l. l ++ layer_item (text_of_layer (layer_at c.args.layers.now.each i))) (ap (λ l. l.items) w.list-is ∙ w.in_ok-push.ensures.items ∙ ap (λ l. l ++ 44 ∷ []) c.loop-i.invariant)
          ∙ append_assoc (c.args.list.now.items ++ layer_items (take i texts)) (44 ∷ []) (layer_item (text_of_layer (layer_at c.args.layers.now.each i)))
          ∙ append_assoc c.args.list.now.items (layer_items (take i texts)) (44 ∷ layer_item (text_of_layer (layer_at c.args.layers.now.each i)))
          ∙ ap (λ l. c.args.list.now.items ++ l) (sym next)
      | else-i-gt0 w ↦
          let first = first_of texts i (omega (arith, w.if-i-gt0.false)) (omega (arith, size)) ∙ ap (λ t. layer_items (take i texts) ++ layer_item t) here in
          c.in_ok-push_layer.ensures ∙ ap (λ l. l ++ layer_item (text_of_layer (layer_at c.args.layers.now.each i))) (ap (λ l. l.items) w.list-is ∙ c.loop-i.invariant)
          ∙ append_assoc c.args.list.now.items (layer_items (take i texts)) (layer_item (text_of_layer (layer_at c.args.layers.now.each i)))
          ∙ ap (λ l. c.args.list.now.items ++ l) (sym first)
    ]

pub returns : goal.returns
returns c =
    let size = length-map-range_with_len (λ i. text_of_layer (layer_at c.args.layers.now.each i)) 0 c.args.layers.now.count in
    c.loop-i.invariant ∙ ap (λ t. c.args.list.now.items ++ layer_items t) (take_all c.loop-i.i (layer_texts c.args.layers.now) (omega (arith, size)))

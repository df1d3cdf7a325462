use Rattle.std.proofs.Common.{◌≡◌, ap, ◌∙◌, arith, inl, inr}
use Rattle.ec_model.specs.Lrc.{layer_text, mark_count}
use Rattle.ec_code.specs.LrcFaults.{layer_texts}
use Rattle.ec_code.proofs.RefusalLemmas.{untrue}
use Rattle.lrc_layers.proofs.CheckLemmas.{short_layer, layer_is_short, marked_below}
use Rattle.lrc_layers.proofs.checks.lacks_output.Goals as goal

pub count_of-requires : goal.count_of-requires
count_of-requires c =
    let e : c.layer_of-layer.result.len ≡ c.args.mapping.now.len =
    short_layer c.args.mapping.now c.args.layers.now c.args.i c.layer_of-layer.result c.layer_of-layer.ensures c.requires.i c.requires.lengths in
    omega (arith, e, c.requires.few)

pub returns : goal.returns
returns c = (
  λ e. absurd (untrue e),
  λ lacks. absurd (elim lacks [
    | inl few ↦ omega (arith, few, c.if-count_of-lt1.false, c.count_of.ensures.value ∙ ap (λ t. mark_count 99 t) c.layer_of-layer.ensures)
    | inr output ↦
        let short = layer_is_short c.args.mapping.now c.args.layers.now c.args.i c.requires.i c.requires.lengths c.requires.few in
        let below = marked_below (layer_text (layer_texts c.args.layers.now) c.args.i) output.0 99 16 (omega arith) short output.1 in
        c.loop-p.invariant output.0 (omega (arith, below, c.loop-p-test.false)) output.1 output.2
  ]),
)

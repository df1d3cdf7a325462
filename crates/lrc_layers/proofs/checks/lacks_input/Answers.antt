use Rattle.std.proofs.Common.{◌≡◌, ap, ◌∙◌, arith, inl, inr}
use Rattle.std.specs.Prelude.{slice_index}
use Rattle.ec_model.specs.Lrc.{layer_text, mark_count, IsData, IsMadeBefore}
use Rattle.ec_code.specs.LrcFaults.{text_of_layer, layer_texts}
use Rattle.ec_code.proofs.RefusalLemmas.{untrue}
use Rattle.lrc_layers.proofs.CheckLemmas.{up_to_next, short_layer, layer_is_short, marked_below}
use Rattle.lrc_layers.proofs.checks.lacks_input.Goals.{else-mark_at-eq-DATA-via-then-mark_at-eq-DATA+else-not-is_made_before, else-mark_at-eq-DATA-via-else-mark_at-eq-DATA}
use Rattle.lrc_layers.proofs.checks.lacks_input.Goals as goal

pub count_of-requires : goal.count_of-requires
count_of-requires c =
    let e : c.layer_of-layer.result.len ≡ c.args.mapping.now.len =
    short_layer c.args.mapping.now c.args.layers.now c.args.i c.layer_of-layer.result c.layer_of-layer.ensures c.requires.i c.requires.lengths in
    omega (arith, e, c.requires.few)

pub loop-p-preserved : goal.loop-p-preserved
loop-p-preserved c =
    up_to_next (λ q. IsData (layer_text (layer_texts c.args.layers.now) c.args.i) q → IsMadeBefore (text_of_layer c.args.mapping.now) (layer_texts c.args.layers.now) c.args.i q)
    c.loop-p.p c.loop-p.invariant (elim c.else-mark_at-eq-DATA.branch [
      | else-mark_at-eq-DATA-via-then-mark_at-eq-DATA+else-not-is_made_before w ↦ λ _. w.is_made_before.ensures.0 w.if-not-is_made_before.false
      | else-mark_at-eq-DATA-via-else-mark_at-eq-DATA w ↦ λ is. absurd (w.if-mark_at-eq-DATA.false (c.mark_at.ensures ∙ ap (λ t. slice_index t c.loop-p.p) c.layer_of-layer.ensures ∙ is))
    ])

pub returns : goal.returns
returns c = (
  λ e. absurd (untrue e),
  λ lacks. absurd (elim lacks [
    | inl few ↦ omega (arith, few, c.if-count_of-lt2.false, c.count_of.ensures.value ∙ ap (λ t. mark_count 68 t) c.layer_of-layer.ensures)
    | inr input ↦
        let short = layer_is_short c.args.mapping.now c.args.layers.now c.args.i c.requires.i c.requires.lengths c.requires.few in
        let below = marked_below (layer_text (layer_texts c.args.layers.now) c.args.i) input.0 68 16 (omega arith) short input.1 in
        input.2 (c.loop-p.invariant input.0 (omega (arith, below, c.loop-p-test.false)) input.1)
  ]),
)

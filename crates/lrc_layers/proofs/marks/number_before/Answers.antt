use Rattle.std.proofs.Common.{◌≡◌, ◌+◌, length, ap, sym, ◌∙◌, arith}
use Rattle.ec_code.specs.LrcFaults.{text_of_layer}
use Rattle.ec_code.proofs.LayoutLemmas.{length_of_text}
use Rattle.lrc_layers.proofs.TextLemmas.{more_marks, no_more_marks}
use Rattle.lrc_layers.proofs.marks.number_before.Goals as goal
use Rattle.lrc_layers.proofs.marks.number_before.Goals.{then-mark_at-mark, else-mark_at-mark}

pub loop-q-preserved : goal.loop-q-preserved
loop-q-preserved c =
    let long : length (text_of_layer c.args.text.now) ≡ c.args.text.now.len = length_of_text c.args.text.now.first c.args.text.now.len in
    elim c.if-mark_at-mark.branch [
      | then-mark_at-mark w ↦ (
        w.count-is ∙ ap (λ t. t + 1) c.loop-q.invariant.0
            ∙ sym (more_marks c.args.mark (text_of_layer c.args.text.now) c.loop-q.q (omega (arith, long)) (sym c.mark_at.ensures ∙ w.if-mark_at-mark.true)),
        omega (arith, w.count-is),
      )
      | else-mark_at-mark w ↦ (
        w.count-is ∙ c.loop-q.invariant.0
            ∙ sym (no_more_marks c.args.mark (text_of_layer c.args.text.now) c.loop-q.q (omega (arith, long)) (λ e. w.if-mark_at-mark.false (c.mark_at.ensures ∙ e))),
        omega (arith, w.count-is),
      )
    ]

use Rattle.std.proofs.Common.{◌≡◌, length, ap, sym, subst, ◌∙◌, arith, lit<}
use Rattle.std.specs.Prelude.{slice_index}
use Rattle.ec_model.specs.Rows.{entry_at}
use Rattle.ec_model.specs.Lrc.{IsCoding, IsMadeBy}
use Rattle.ec_code.specs.LrcFaults.{text_of_layer}
use Rattle.ec_code.proofs.LayoutLemmas.{length_of_text}
use Rattle.lrc_layers.proofs.CheckLemmas.{marked_below, up_to_next}
use Rattle.lrc_layers.proofs.RowLemmas.{entry_set_other, made_here, made_already}
use Rattle.lrc_layers.proofs.rows.add_layer.Goals as goal
use Rattle.lrc_layers.proofs.rows.add_layer.Goals.{then-mark_at-eq-CODING, else-mark_at-eq-CODING}

pub loop-p-preserved : goal.loop-p-preserved
loop-p-preserved c =
    let text = text_of_layer c.args.layer.now in
    let long : length text ≡ c.args.layer.now.len = length_of_text c.args.layer.now.first c.args.layer.now.len in
    elim c.if-mark_at-eq-CODING.branch [
      | then-mark_at-eq-CODING w ↦ (
          let coding : IsCoding text c.loop-p.p = sym c.mark_at.ensures ∙ w.if-mark_at-eq-CODING.true in (
            c.if-mark_at-eq-CODING.array_long,
            λ q j other.
                ap (λ t. entry_at t q j) w.rows-is
                ∙ entry_set_other c.loop-p.rows w.combined.result c.loop-p.p q j (λ e. other (ap (λ t. slice_index text t) e ∙ coding))
                ∙ c.loop-p.invariant.1 q j other,
            up_to_next (λ q. IsCoding text q → IsMadeBy text c.if-mark_at-eq-CODING.rows 16 q) c.loop-p.p
                (λ q lt is. subst (λ t. IsMadeBy text t 16 q) (sym w.rows-is)
                (made_already text w.combined.result c.loop-p.rows c.loop-p.p q (λ e. omega (arith, e, lt)) coding (c.loop-p.invariant.2 q lt is)))
                (λ is. subst (λ t. IsMadeBy text t 16 c.loop-p.p) (sym w.rows-is)
                (made_here text w.coefficients_of.result w.combined.result c.loop-p.rows c.args.layer.now.len c.loop-p.p c.loop-p.invariant.0
                (omega (arith, c.loop-p-test.true, c.requires)) coding (sym long) w.coefficients_of.ensures w.combined.ensures)),
          )
          )
      | else-mark_at-eq-CODING w ↦ (
        c.if-mark_at-eq-CODING.array_long,
        λ q j other. ap (λ t. entry_at t q j) w.rows-is ∙ c.loop-p.invariant.1 q j other,
        up_to_next (λ q. IsCoding text q → IsMadeBy text c.if-mark_at-eq-CODING.rows 16 q) c.loop-p.p
            (λ q lt is. subst (λ t. IsMadeBy text t 16 q) (sym w.rows-is) (c.loop-p.invariant.2 q lt is))
            (λ is. absurd (w.if-mark_at-eq-CODING.false (c.mark_at.ensures ∙ is))),
      )
    ]

pub returns-clause-made : goal.returns-clause-made
returns-clause-made c = λ p is.
    let below = marked_below (text_of_layer c.args.layer.now) p 99 c.args.layer.now.len (lit< tt)
    (omega (arith, length_of_text c.args.layer.now.first c.args.layer.now.len)) is in
    c.loop-p.invariant.2 p (omega (arith, below, c.loop-p-test.false)) is

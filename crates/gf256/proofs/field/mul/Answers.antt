use Rattle.std.proofs.Common.{◌∙◌, sym, arith, ◌≡◌, ◌%◌}
use Rattle.gf256.proofs.FieldLemmas.{field_product-zero}
use Rattle.gf256.proofs.InverseLemmas.{field_product-one}
use Rattle.gf256.proofs.StepLemmas.{next_term, next_sum_with, next_sum_without}
use Rattle.gf256.proofs.field.mul.Goals as goal
use Rattle.gf256.proofs.field.mul.Goals.{then-b-i-eq1, else-b-i-eq1}

pub loop-i-init : goal.loop-i-init
loop-i-init c = (λ _. sym (field_product-one c.args.a c.ranges.a.fits), let e : c.args.b % 1 ≡ 0 = omega arith in rw e (sym (field_product-zero c.args.a)))

pub loop-i-preserved : goal.loop-i-preserved
loop-i-preserved c = (
  λ lt. c.doubled-term.ensures ∙ next_term c.args.a c.loop-i.i c.loop-i.term c.ranges.a.fits c.loop-i.invariant.0 lt,
  elim c.if-b-i-eq1.branch [
    | then-b-i-eq1 w ↦ w.sum-is ∙ next_sum_with c.args.a c.args.b c.loop-i.i c.loop-i.term c.loop-i.sum (c.loop-i.invariant.0 (omega arith)) c.loop-i.invariant.1 w.if-b-i-eq1.true
    | else-b-i-eq1 w ↦ w.sum-is ∙ next_sum_without c.args.a c.args.b c.loop-i.i c.loop-i.sum c.loop-i.invariant.1 w.if-b-i-eq1.false
  ],
)

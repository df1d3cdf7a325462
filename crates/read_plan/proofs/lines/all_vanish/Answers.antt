use Rattle.ec_model.specs.Field.{field_product}
use Rattle.ec_model.specs.Rows.{entry_at}
use Rattle.std.proofs.Common.{ap, ◌∙◌, bit_xor, slice_index, ◌≡◌, true, false, refl, arith, rules}
use Rattle.read_plan.proofs.SettlingLemmas.{vanished, not_vanished}
use Rattle.read_plan.proofs.lines.all_vanish.Goals as goal

pub returns-then-is_some : goal.returns-then-is_some
returns-then-is_some c = λ left less. (
  λ e. absurd (never e),
  λ settles. absurd (not_vanished c.args.rows.now left c.args.row.now c.reduced.result c.args.lead c.args.by c.args.set.0 c.loop-p.p c.lead_of.result less
      c.loop-p-test.true (search rules) (λ j lj. c.reduced.ensures.value j lj
      ∙ ap (λ t. bit_xor (entry_at c.args.rows.now c.loop-p.p j) (field_product t (slice_index c.args.row.now j))) c.mul-times.ensures) c.if-is_some.ensures c.lead_of.ensures.place c.lead_of.ensures.nonzero c.lead_of.ensures.byte settles),
)
  where
    never : false ≡ true → ⊥
    never e = cc

pub returns : goal.returns
returns c = λ left less. (
  λ _. vanished c.args.rows.now left c.args.row.now c.args.lead c.args.by c.args.set.0 less (λ p lt. c.loop-p.invariant p (omega (arith, c.loop-p-test.false))),
  λ _. refl,
)

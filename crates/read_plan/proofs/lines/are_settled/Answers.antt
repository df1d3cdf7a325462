use Rattle.std.proofs.Common.{◌≡◌, true, false, refl, arith, rules}
use Rattle.read_plan.proofs.SettlingLemmas.{settled_by_nothing, unsettled_row}
use Rattle.read_plan.proofs.lines.are_settled.Goals as goal

pub returns-then-is_some : goal.returns-then-is_some
returns-then-is_some c = (
  λ e. absurd (never e),
  λ settles. absurd (unsettled_row c.args.rows.now c.args.set.0 c.loop-p.p c.lead_of.result c.if-is_some.ensures c.lead_of.ensures.place c.lead_of.ensures.nonzero c.lead_of.ensures.byte
      c.loop-p-test.true (search rules) settles),
)
  where
    never : false ≡ true → ⊥
    never e = cc

pub returns : goal.returns
returns c = (
  λ _. settled_by_nothing c.args.rows.now c.args.set.0 (λ p j lt. c.loop-p.invariant p j (omega (arith, c.loop-p-test.false))),
  λ _. refl,
)

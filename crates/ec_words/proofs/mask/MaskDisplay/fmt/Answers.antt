use Rattle.std.proofs.Common.{◌≡◌, ◌∙◌, sym, ap, refl, arith, rules}
use Rattle.std.specs.Int.{bit_at}
use Rattle.std.proofs.lemmas.Bool.{both_ways}
use Rattle.std.proofs.Output.{has_written_append, has_written_of_eq}
use Rattle.ec_words.specs.Masks.{positions_below}
use Rattle.ec_words.proofs.MaskLemmas.{separator, is_empty-with, is_empty-without, joined-with, joined-without, text_of_some, text_of_none}
use Rattle.ec_words.proofs.mask.MaskDisplay.fmt.Goals as goal
use Rattle.ec_words.proofs.mask.MaskDisplay.fmt.Goals.{then-has+in_ok-write, then-first, else-first, else-has}

pub loop-p-init : goal.loop-p-init
unfolding positions_below
loop-p-init g c = search rules

pub loop-p-preserved : goal.loop-p-preserved
loop-p-preserved g c = elim c.if-has.branch [
  | then-has+in_ok-write w ↦
      let bit = c.has.ensures.0 w.if-has.true in
      let before : w.if-first.separator.now ≡ separator c.loop-p.first = elim w.if-first.branch [
        | then-first s ↦ ap (λ t. t.now) s.separator-is ∙ sym (ap separator s.if-first.true)
        | else-first s ↦ ap (λ t. t.now) s.separator-is ∙ sym (ap separator s.if-first.false)
      ] in (
        w.first-is ∙ sym (is_empty-with c.loop-p.p-counter c.args.self.now.0 bit),
        λ plain. rw w.f-is (has_written_of_eq _ _ _ _ _ (joined-with c.loop-p.p-counter c.args.self.now.0 c.loop-p.first w.if-first.separator.now bit c.loop-p.invariant.0 before)
            (has_written_append _ _ _ _ _ _ (c.loop-p.invariant.1 plain) (w.in_ok-write.ensures.writes (c.loop-p.invariant.1 plain).plain refl))),
      )
  | else-has w ↦
      let out : (bit_at c.args.self.now.0 c.loop-p.p-counter ≡ 1 → ⊥) = λ bit. both_ways c.has.result w.if-has.false (c.has.ensures.1 bit) in (
        w.first-is ∙ c.loop-p.invariant.0 ∙ sym (is_empty-without c.loop-p.p-counter c.args.self.now.0 out),
        λ plain. rw w.f-is (has_written_of_eq _ _ _ _ _ (joined-without c.loop-p.p-counter c.args.self.now.0 out) (c.loop-p.invariant.1 plain)),
      )
]

pub returns-in_ok-write-2-clause-writes : goal.returns-in_ok-write-2-clause-writes
returns-in_ok-write-2-clause-writes g c = λ plain _.
    has_written_of_eq _ _ _ _ _ (text_of_none c.loop-p.p-counter c.args.self.now.0 c.loop-p.first (omega (arith, c.loop-p-test.false, c.loop-p.auto.p-counter-end)) c.loop-p.invariant.0 c.if-first-2.true)
    (has_written_append _ _ _ _ _ _ (c.loop-p.invariant.1 plain) (c.in_ok-write-2.ensures.writes (c.loop-p.invariant.1 plain).plain refl))

pub returns-else-first-2-clause-writes : goal.returns-else-first-2-clause-writes
returns-else-first-2-clause-writes g c = λ plain _.
    has_written_of_eq _ _ _ _ _ (text_of_some c.loop-p.p-counter c.args.self.now.0 c.loop-p.first (omega (arith, c.loop-p-test.false, c.loop-p.auto.p-counter-end)) c.loop-p.invariant.0 c.if-first-2.false)
    (c.loop-p.invariant.1 plain)

use Rattle.std.proofs.Common.{◌≡◌, ◌+◌, ◌-◌, rules, sym, ap, ◌∙◌, Err, arith}
use Rattle.shard_model.specs.StepReading.{read_pairs, and_then}
use Rattle.ec_words.specs.Readers.{read_byte}
use Rattle.shard_steps.specs.declared.fault.Unread.TheVariants.{NoStep}
use Rattle.shard_steps.proofs.PairLemmas.{after_front, pair_more, no_pair_more}
use Rattle.shard_steps.proofs.reading.StepReader.attrs.Goals as goal

pub returns-in_err-attr-clause-no_step : goal.returns-in_err-attr-clause-no_step
returns-in_err-attr-clause-no_step c = λ e.
    let fault : c.pair.result ≡ Err NoStep = search rules in
    ap (λ text. and_then (read_byte text) read_pairs) (sym c.self.view_is)
    ∙ ap (λ o. and_then o read_pairs) c.in_ok-count.ensures.value
    ∙ c.loop.invariant.1
    ∙ no_pair_more c.in_ok-count.count c.loop.counter c.loop.list.items c.loop.self (omega (arith, c.loop-test.true)) (c.pair.ensures.no_step fault)

pub loop-preserved : goal.loop-preserved
loop-preserved c = (
  omega (arith, c.loop-test.true),
  c.loop.invariant.1
      ∙ pair_more c.in_ok-count.count c.loop.counter c.loop.list.items c.loop.self c.pair.new.self c.in_ok-attr.attr (omega (arith, c.loop-test.true)) c.in_ok-attr.ensures.value
      ∙ ap (λ xs. after_front xs (read_pairs (c.in_ok-count.count - (c.loop.counter + 1)) c.pair.new.self)) (sym c.in_ok-push_pair.ensures.ok),
)

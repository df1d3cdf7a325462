use Rattle.std.proofs.Common.{sym, ◌∙◌, arith}
use Rattle.shard_state.proofs.LogLemmas.{front_on, rest_on, front_ends, rest_ends}
use Rattle.shard_state.proofs.log.front_len.Goals as goal

pub returns-then-not-is_up_to-clause-front : goal.returns-then-not-is_up_to-clause-front
returns-then-not-is_up_to-clause-front c =
    front_ends c.args.version.now c.args.log.now.items c.loop-i.i c.index-record.result.now (omega (arith, c.loop-i-test.true, c.len-i-end.ensures)) c.index-record.ensures (sym c.is_up_to.ensures ∙ c.if-not-is_up_to.true) ∙ c.loop-i.invariant.front

pub returns-then-not-is_up_to-clause-rest : goal.returns-then-not-is_up_to-clause-rest
returns-then-not-is_up_to-clause-rest c =
    rest_ends c.args.version.now c.args.log.now.items c.loop-i.i c.index-record.result.now (omega (arith, c.loop-i-test.true, c.len-i-end.ensures)) c.index-record.ensures (sym c.is_up_to.ensures ∙ c.if-not-is_up_to.true) ∙ c.loop-i.invariant.rest

pub loop-i-preserved : goal.loop-i-preserved
loop-i-preserved c = record {
  front = front_on c.args.version.now c.args.log.now.items c.loop-i.i c.index-record.result.now (omega (arith, c.loop-i-test.true, c.len-i-end.ensures)) c.index-record.ensures (sym c.is_up_to.ensures ∙ c.if-not-is_up_to.false) ∙ c.loop-i.invariant.front;
  rest = rest_on c.args.version.now c.args.log.now.items c.loop-i.i c.index-record.result.now (omega (arith, c.loop-i-test.true, c.len-i-end.ensures)) c.index-record.ensures (sym c.is_up_to.ensures ∙ c.if-not-is_up_to.false) ∙ c.loop-i.invariant.rest;
}

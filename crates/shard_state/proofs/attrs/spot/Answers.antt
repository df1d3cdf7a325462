use Rattle.std.proofs.Common.{sym, arith}
use Rattle.shard_state.proofs.SpotLemmas.{spot_there, spot_before}
use Rattle.shard_state.proofs.attrs.spot.Goals as goal

pub returns-in-Equal : goal.returns-in-Equal
returns-in-Equal c =
    spot_there c.args.name.now c.args.list.now.items c.loop-i.i c.index-pair.result.now c.loop-i.invariant (omega (arith, c.loop-i-test.true, c.len-i-end.ensures)) c.index-pair.ensures (sym c.in-Equal.ensures)

pub returns-in-Less : goal.returns-in-Less
returns-in-Less c =
    spot_before c.args.name.now c.args.list.now.items c.loop-i.i c.index-pair.result.now c.loop-i.invariant (omega (arith, c.loop-i-test.true, c.len-i-end.ensures)) c.index-pair.ensures (sym c.in-Less.ensures)

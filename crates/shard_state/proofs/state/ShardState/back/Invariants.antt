use Rattle.std.proofs.Common.{length}
use Rattle.shard_state.specs.Ways.{IsPartWay}
use Rattle.shard_state.proofs.state.ShardState.back.Given as goal

abbrev pub invariant-loop-self : goal.invariant-loop-self
invariant-loop-self l = IsPartWay l.cut l.fn.self l.self

abbrev pub decreases-loop-self : goal.decreases-loop-self
decreases-loop-self l = length l.self.state.log

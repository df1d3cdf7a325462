use Rattle.std.proofs.Common.{map, rules}
use Rattle.shard_state.specs.Records.{recorded}
use Rattle.shard_state.specs.Sound.{settled_in}
use Rattle.shard_state.proofs.LogLemmas.{settle_step}
use Rattle.shard_state.proofs.log.settle_to.Goals as goal

pub loop-i-preserved : goal.loop-i-preserved
loop-i-preserved c =
    settle_step (settled_in c.args.version.now) c.loop-i.log.items (map recorded c.args.log.now.items) c.loop-i.i c.index_mut.result.now c.settle_one.new.record
    (search rules) c.index_mut.ensures.value c.settle_one.ensures c.loop-i.invariant

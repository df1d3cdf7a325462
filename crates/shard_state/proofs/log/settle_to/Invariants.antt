use Rattle.std.proofs.Common.{◌≡◌, ◌++◌, map, take, drop}
use Rattle.shard_state.specs.Records.{recorded}
use Rattle.shard_state.specs.Sound.{settled_in}
use Rattle.shard_state.proofs.log.settle_to.Given as goal

-- the entries so far are settled, the others are as they were
abbrev pub invariant-loop-i : goal.invariant-loop-i
invariant-loop-i l = map recorded l.log.items ≡ map (settled_in l.fn.version) (take l.i (map recorded l.fn.log.items)) ++ drop l.i (map recorded l.fn.log.items)

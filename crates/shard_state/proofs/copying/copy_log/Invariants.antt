use Rattle.std.proofs.Common.{map, take}
use Rattle.shard_state.specs.Copies.{AreCopies}
use Rattle.shard_state.specs.Records.{recorded}
use Rattle.shard_state.proofs.copying.copy_log.Given as goal

-- the entries so far
abbrev pub invariant-loop-i : goal.invariant-loop-i
invariant-loop-i l = AreCopies (map recorded (take l.i l.log)) (map recorded l.copy.items)

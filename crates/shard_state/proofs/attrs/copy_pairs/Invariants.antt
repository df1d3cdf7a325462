use Rattle.std.proofs.Common.{◌≡◌, take}
use Rattle.shard_state.proofs.attrs.copy_pairs.Given as goal

-- the pairs so far
abbrev pub invariant-loop-i : goal.invariant-loop-i
invariant-loop-i l = l.copy.items ≡ take l.i l.list

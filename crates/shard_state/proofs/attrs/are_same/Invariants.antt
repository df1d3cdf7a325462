use Rattle.std.proofs.Common.{◌≡◌, take}
use Rattle.shard_state.proofs.attrs.are_same.Given as goal

-- the pairs so far are equal
abbrev pub invariant-loop-i : goal.invariant-loop-i
invariant-loop-i l = take l.i l.left ≡ take l.i l.right

use Rattle.std.proofs.Common.{◌≡◌, ◌-◌, ◌≤◌, drop}
use Rattle.std.specs.Ordering.{nat_cmp}
use Rattle.std.specs.Cmp.Lexicographic.{slice_cmp}
use Rattle.std.specs.FinMap as map
use Rattle.shard_state.proofs.fit.ascend.Given as goal

-- the names so far ascend
abbrev pub invariant-loop-i : goal.invariant-loop-i
invariant-loop-i l = (1 ≤ l.i) × (map.is_sorted (slice_cmp nat_cmp) l.attrs ≡ map.is_sorted (slice_cmp nat_cmp) (drop (l.i - 1) l.attrs))

use Rattle.std.proofs.Common.{◌≡◌, drop, length, nat_le}
use Rattle.std.specs.List.{list_all}
use Rattle.shard_model.specs.Limits.{max_value}
use Rattle.shard_state.proofs.fit.are_short.Given as goal

-- none of the values so far is too long
abbrev pub invariant-loop-i : goal.invariant-loop-i
invariant-loop-i l = list_all (λ attr. nat_le (length attr.1) max_value) (drop l.i l.attrs) ≡ list_all (λ attr. nat_le (length attr.1) max_value) l.attrs

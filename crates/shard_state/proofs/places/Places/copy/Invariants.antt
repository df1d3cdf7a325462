use Rattle.std.proofs.Common.{◌≡◌, ◌++◌}
use Rattle.shard_state.proofs.places.Places.copy.Given as goal

-- the places so far and those that are left are all
abbrev pub invariant-loop-name : goal.invariant-loop-name
invariant-loop-name l =
    (goal.iterator-loop-name).can_next l.name-iterator ×
    (goal.iterator-loop-name).is_finite l.name-iterator ×
    (l.slots.entries ++ l.name-iterator ≡ l.initial.name-iterator)

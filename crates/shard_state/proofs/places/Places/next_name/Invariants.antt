use Rattle.std.proofs.Common.{◌≡◌}
use Rattle.shard_state.specs.Totals.{full}
use Rattle.shard_state.proofs.places.Places.next_name.Given as goal

-- what lies in the places that are left is what lay in all of them
abbrev pub invariant-loop-name : goal.invariant-loop-name
invariant-loop-name l =
    (goal.iterator-loop-name).can_next l.name-iterator ×
    (goal.iterator-loop-name).is_finite l.name-iterator ×
    (full l.name-iterator ≡ full l.initial.name-iterator)

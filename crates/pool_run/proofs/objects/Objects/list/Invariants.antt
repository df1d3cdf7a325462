use Rattle.std.proofs.Common.{◌≡◌, ◌++◌, map}
use Rattle.pool_run.proofs.ListingLemmas.{sized}
use Rattle.pool_run.proofs.objects.Objects.list.Given as goal

-- the entries so far and those that are left are all
abbrev pub invariant-loop-name : goal.invariant-loop-name
invariant-loop-name l =
    (goal.iterator-loop-name).can_next l.name-iterator ×
    (goal.iterator-loop-name).is_finite l.name-iterator ×
    (l.entries.items ++ map sized l.name-iterator ≡ map sized l.initial.name-iterator)

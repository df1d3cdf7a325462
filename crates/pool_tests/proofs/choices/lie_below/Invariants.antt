use Rattle.std.proofs.Common.{◌≡◌, ◌<◌, ℕ, Some, slice_get}
use Rattle.ec_model.specs.Codes.{LiesBelow}
use Rattle.ec_model.specs.Versions.{Version}
use Rattle.ec_words.specs.Intervals.{Interval}
use Rattle.pool_tests.proofs.choices.lie_below.Given as goal

abbrev pub invariant-loop-interval : goal.invariant-loop-interval
invariant-loop-interval l =
    (i : ℕ) (interval : Interval) → i < l.interval-index → slice_get l.intervals i ≡ Some interval
    → (joined : ℕ) (base : Version) → interval.alive ≡ Some (joined, base) → LiesBelow l.n joined

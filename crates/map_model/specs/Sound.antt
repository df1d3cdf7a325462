-- What holds of the intervals and the marks of every map. Source: this project.
use Rattle.std.specs.Prelude.{◌≡◌, ◌<◌, ◌+◌, ℕ, true, slice_get, Some}
use Rattle.ec_model.specs.Codes.{LiesBelow}
use Rattle.ec_model.specs.Versions.{Version}
use Rattle.ec_words.specs.Intervals.{Interval}
use Rattle.map_model.specs.States.{MapState, is_inside, epoch_limit}

-- an interval of a pool of n positions: its epoch is below the limit, the slots that are up lie below n, and if it went alive, some
-- of them joined it and no others did
pub record IsOfPool (n : ℕ) (interval : Interval) : Type 0 where
  pub early : interval.epoch < epoch_limit
  pub up : LiesBelow n interval.up
  pub some : (joined : ℕ) (base : Version) → interval.alive ≡ Some (joined, base) → 0 < joined
  pub inside : (joined : ℕ) (base : Version) → interval.alive ≡ Some (joined, base) → is_inside joined interval.up ≡ true

-- the intervals and the marks of a pool of n positions: the epochs ascend by one from 1, and the marks lie below n
pub record IsSound (n : ℕ) (state : MapState) : Type 0 where
  pub each : (i : ℕ) (interval : Interval) → slice_get state.intervals i ≡ Some interval → IsOfPool n interval
  pub dated : (i : ℕ) (interval : Interval) → slice_get state.intervals i ≡ Some interval → interval.epoch ≡ i + 1
  pub marked : LiesBelow n state.marks

-- Intervals of a pool. Source: this project.
use Rattle.std.specs.Prelude.{◌≡◌, ℕ, List, [], ◌∷◌, Some, slice_get}
use Rattle.std.specs.declared.option.Option.{Option}
use Rattle.ec_model.specs.Codes.{LiesBelow}
use Rattle.ec_model.specs.Versions.{Version}

-- the time from one choice of the slots that are up to the next: its epoch, the mask of these slots, and, if it went alive,
-- the mask of the slots that joined it and the version that it began with
pub record Interval : Type 0 where
  pub epoch : ℕ
  pub up : ℕ
  pub alive : Option (ℕ × Version)

-- an interval that went alive with this joined set and this base
abbrev pub went_alive : ℕ → Version → Interval → Interval
went_alive joined base interval = record { epoch = interval.epoch; up = interval.up; alive = Some (joined, base) }

-- the intervals after the last one went alive; the others stay
unfoldable pub with_last_alive : ℕ → Version → List Interval → List Interval
with_last_alive joined base [] = []
with_last_alive joined base (last ∷ []) = went_alive joined base last ∷ []
with_last_alive joined base (interval ∷ (next ∷ rest)) = interval ∷ with_last_alive joined base (next ∷ rest)

-- some interval of a list has this epoch and went alive, with this joined set
pub record WentAlive (intervals : List Interval) (epoch joined : ℕ) : Type 0 where
  pub place : ℕ
  pub interval : Interval
  pub base : Version
  pub there : slice_get intervals place ≡ Some interval
  pub dated : interval.epoch ≡ epoch
  pub alive : interval.alive ≡ Some (joined, base)

-- the joined sets of intervals lie below n
abbrev pub JoinedLieBelow : ℕ → List Interval → Type 0
JoinedLieBelow n intervals = (epoch joined : ℕ) → WentAlive intervals epoch joined → LiesBelow n joined

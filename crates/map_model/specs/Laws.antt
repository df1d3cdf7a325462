-- Laws of the states of maps. Source: this project.
use Rattle.std.specs.Prelude.{◌≡◌, ◌≢◌, ◌↔◌, ◌⊎◌, ◌<◌, ◌≤◌, ◌+◌, ℕ, true, List, [], ◌∷◌, ◌++◌, length, slice_get, Some, None}
use Rattle.ec_model.specs.Codes.{HasPosition}
use Rattle.ec_model.specs.Versions.{Version}
use Rattle.ec_words.specs.Intervals.{Interval, went_alive, WentAlive, JoinedLieBelow}
use Rattle.map_model.specs.States.{MapState, new_state, last_of, last_epoch, fits, state_after, replay, kept, is_inside, with_mark}
use Rattle.map_model.specs.Sound.{IsSound}
use Rattle.map_model.specs.Steps.{MapStep, Alive}

-- the last of some intervals with one more is that one
abbrev pub LastIsTheAdded : Type 0
LastIsTheAdded = (intervals : List Interval) (last : Interval) → last_of (intervals ++ last ∷ []) ≡ Some last

-- the last epoch is the number of the intervals
abbrev pub LastEpochIsTheCount : Type 0
LastEpochIsTheCount = (n : ℕ) (state : MapState) → IsSound n state → last_epoch state.intervals ≡ length state.intervals

-- an interval that goes alive is the last one: it was not alive, and of all that are alive then it has the greatest epoch
pub record GoesAlive (state : MapState) (epoch joined : ℕ) (base : Version) : Type 0 where
  pub last : Interval
  pub was : last_of state.intervals ≡ Some last
  pub dated : last.epoch ≡ epoch
  pub unalive : last.alive ≡ None
  pub is : last_of (state_after state (Alive epoch joined base)).intervals ≡ Some (went_alive joined base last)
  pub alive : WentAlive (state_after state (Alive epoch joined base)).intervals epoch joined
  pub based : alive.base ≡ base
  pub newest : (other members : ℕ) → WentAlive (state_after state (Alive epoch joined base)).intervals other members → other ≤ epoch

abbrev pub TheNewestGoesAlive : Type 0
TheNewestGoesAlive = (n : ℕ) (state : MapState) (epoch joined : ℕ) (base : Version) → IsSound n state → fits n state (Alive epoch joined base) ≡ true
    → GoesAlive state epoch joined base

-- right behind an Alive step no other one fits
abbrev pub AliveComesOnce : Type 0
AliveComesOnce = (n : ℕ) (state : MapState) (epoch joined : ℕ) (base : Version) (later members : ℕ) (from : Version)
    → fits n (state_after state (Alive epoch joined base)) (Alive later members from) ≡ true → ⊥

-- an interval that went alive is older than the last one, if that one did not
abbrev pub AliveAreOlder : Type 0
AliveAreOlder = (n : ℕ) (state : MapState) (last : Interval) → IsSound n state → last_of state.intervals ≡ Some last → last.alive ≡ None
    → (epoch joined : ℕ) → WentAlive state.intervals epoch joined → epoch < last.epoch

-- a state is sound at its start, a step that fits keeps it so, and so do all that fit one after another
abbrev pub NewStatesAreSound : Type 0
NewStatesAreSound = (n format : ℕ) → IsSound n (new_state format)

abbrev pub StepsKeepSound : Type 0
StepsKeepSound = (n : ℕ) (state : MapState) (step : MapStep) → IsSound n state → fits n state step ≡ true → IsSound n (state_after state step)

abbrev pub ReplaysKeepSound : Type 0
ReplaysKeepSound = (n : ℕ) (steps : List MapStep) (state later : MapState) → IsSound n state → replay n steps state ≡ Some later → IsSound n later

-- an interval is kept just if it is one of the intervals and its epoch is the last clean one or a later one
pub record KeptByPlaces (state : MapState) (interval : Interval) : Type 0 where
  pub from : (i : ℕ) → slice_get (kept state) i ≡ Some interval → (state.clean ≤ interval.epoch) × ((j : ℕ) × (slice_get state.intervals j ≡ Some interval))
  pub to : (j : ℕ) → slice_get state.intervals j ≡ Some interval → state.clean ≤ interval.epoch → (i : ℕ) × (slice_get (kept state) i ≡ Some interval)

abbrev pub KeptAreByPlaces : Type 0
KeptAreByPlaces = (state : MapState) (interval : Interval) → KeptByPlaces state interval

-- the joined sets of a sound state lie below n, as a choice asks, and so do those of the kept intervals
abbrev pub JoinedSetsLieBelow : Type 0
JoinedSetsLieBelow = (n : ℕ) (state : MapState) → IsSound n state → JoinedLieBelow n state.intervals × JoinedLieBelow n (kept state)

-- a mask is inside another exactly if each of its positions is one of the other
abbrev pub InsideByPositions : Type 0
InsideByPositions = (mask other : ℕ) → (is_inside mask other ≡ true) ↔ ((p : ℕ) → HasPosition mask p → HasPosition other p)

-- a mark adds a position to a mask, and taking it away leaves all others
pub record MarksByPositions (slot marks p : ℕ) : Type 0 where
  pub down : HasPosition (with_mark slot 1 marks) p ↔ ((p ≡ slot) ⊎ HasPosition marks p)
  pub up : HasPosition (with_mark slot 0 marks) p ↔ ((p ≢ slot) × HasPosition marks p)

abbrev pub MarksAreByPositions : Type 0
MarksAreByPositions = (slot marks p : ℕ) → MarksByPositions slot marks p

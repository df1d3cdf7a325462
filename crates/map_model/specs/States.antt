-- What the steps of a pool's map come to. Source: this project; epochs, up sets and intervals after Ceph's past intervals.
use Rattle.std.specs.Prelude.{bit_and, bit_or, bit_xor, is_some, ◌==◌, ◌&&◌, ◌+◌, ◌-◌, ◌^◌, nat_le, nat_lt, ℕ, Bool, false, if◌then◌else◌, not, List, [], ◌∷◌, ◌++◌, filter, Some, None}
use Rattle.std.specs.declared.option.Option.{Option}
use Rattle.ec_words.specs.Intervals.{Interval, with_last_alive}
use Rattle.map_model.specs.Steps.{MapStep, Profile, Begin, Alive, Mark}

-- the format of the map's text, the last clean epoch, the intervals so far, and the mask of the slots that are marked as down
pub record MapState : Type 0 where
  pub format : ℕ
  pub clean : ℕ
  pub intervals : List Interval
  pub marks : ℕ

-- the state that the steps of a text of this format begin with
abbrev pub new_state : ℕ → MapState
new_state format = record { format = format; clean = 1; intervals = []; marks = 0 }

-- the same state with other intervals, and with other marks
abbrev pub with_intervals : MapState → List Interval → MapState
with_intervals state intervals = record { format = state.format; clean = state.clean; intervals = intervals; marks = state.marks }

abbrev pub with_marks : MapState → ℕ → MapState
with_marks state marks = record { format = state.format; clean = state.clean; intervals = state.intervals; marks = marks }

-- the last of some intervals
unfoldable pub last_of : List Interval → Option Interval
last_of [] = None
last_of (last ∷ []) = Some last
last_of (interval ∷ (next ∷ rest)) = last_of (next ∷ rest)

-- its epoch; before the first interval 0
abbrev pub epoch_of : Option Interval → ℕ
epoch_of None = 0
epoch_of (Some last) = last.epoch

abbrev pub last_epoch : List Interval → ℕ
last_epoch intervals = epoch_of (last_of intervals)

-- no epoch is as great as this
abbrev pub epoch_limit : ℕ
epoch_limit = 2 ^ 32 - 1

-- an interval that begins
abbrev pub begun : ℕ → ℕ → Interval
begun epoch up = record { epoch = epoch; up = up; alive = None }

-- each position of a mask is one of another
abbrev pub is_inside : ℕ → ℕ → Bool
is_inside mask other = bit_and mask other == mask

-- the last interval has this epoch, is not alive, and has all these slots up, and there is at least one of them
abbrev pub may_join : ℕ → ℕ → Option Interval → Bool
may_join epoch joined None = false
may_join epoch joined (Some last) = (last.epoch == epoch) && (not (is_some last.alive) && (is_inside joined last.up && nat_lt 0 joined))

-- there is a last interval, and it is not alive
abbrev pub awaits_alive : Option Interval → Bool
awaits_alive None = false
awaits_alive (Some last) = not (is_some last.alive)

-- a mask with or without a position
abbrev pub with_mark : ℕ → ℕ → ℕ → ℕ
with_mark slot down marks = if down == 1 then bit_or marks (2 ^ slot) else bit_xor (bit_or marks (2 ^ slot)) (2 ^ slot)

-- a step fits a pool of n positions, behind the profile
abbrev pub fits : ℕ → MapState → MapStep → Bool
fits n state (Profile lines) = false
fits n state (Begin epoch up) = (epoch == last_epoch state.intervals + 1) && (nat_lt epoch epoch_limit && nat_lt up (2 ^ n))
fits n state (Alive epoch joined base) = may_join epoch joined (last_of state.intervals)
fits n state (Mark slot down) = nat_lt slot n && nat_le down 1

-- what comes after a step
abbrev pub state_after : MapState → MapStep → MapState
state_after state (Profile lines) = state
state_after state (Begin epoch up) = with_intervals state (state.intervals ++ begun epoch up ∷ [])
state_after state (Alive epoch joined base) = with_intervals state (with_last_alive joined base state.intervals)
state_after state (Mark slot down) = with_marks state (with_mark slot down state.marks)

-- what comes after some steps, each of which fits
unfoldable pub replay : ℕ → List MapStep → MapState → Option MapState
replay n [] state = Some state
replay n (s ∷ steps) state = if fits n state s then replay n steps (state_after state s) else None

-- the intervals that are kept: those from the last clean epoch on
abbrev pub kept : MapState → List Interval
kept state = filter (λ i. nat_le state.clean i.epoch) state.intervals

-- the map of a pool of n positions without its profile
pub record MapImage : Type 0 where
  pub n : ℕ
  pub state : MapState

-- the map after one step more
abbrev pub image_after : MapImage → MapStep → MapImage
image_after m step = record { n = m.n; state = state_after m.state step }

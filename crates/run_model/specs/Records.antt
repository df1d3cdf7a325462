-- The record that a run keeps of itself: its lines and its intervals, in order. Source: this project.
-- A turn is an interval that the pool began in the run.
use Rattle.std.specs.Prelude.{◌≡◌, ℕ, ◌+◌, Bool, ◌==◌, if◌then◌else◌, cond, List, [], ◌∷◌, ◌++◌, take, map, Some, None}
use Rattle.std.specs.declared.option.Option.{Option}
use Rattle.std.specs.List.{flat_map}
use Rattle.ec_model.specs.Codes.{CodeRows, count_below}
use Rattle.ec_model.specs.Versions.{Version}
use Rattle.ec_words.specs.Intervals.{Interval}
use Rattle.auth_log.specs.Choice.{Info, PeeringInput, Survey, IsSurvey, said_in}
use Rattle.auth_log.specs.States as states
use Rattle.auth_log.specs.States.{State, IsState}
use Rattle.map_model.specs.States.{MapImage, kept, with_intervals}
use Rattle.run_model.specs.Replies.{Serving, Serves, IsShort, IsDown}
use Rattle.run_model.specs.Scripts.{ScriptLine}

-- the number of lines that were answered before the turn, and of accepted changes that waited for it; its epoch; the masks of the
-- slots that were here, marked as down, failed and up; what the shards that are up said, and which of them held the version that
-- was chosen; whether the map has it as alive, and after how many lines each joined slot had started it
pub record Turn : Type 0 where
  pub line : ℕ
  pub waiting : ℕ
  pub epoch : ℕ
  pub here : ℕ
  pub marked : ℕ
  pub failed : ℕ
  pub up : ℕ
  pub infos : List (Option Info)
  pub holds : ℕ
  pub alive : Bool
  pub finished : Option ℕ

-- the number of lines that were answered; the turns; by slot, after how many answered lines it first failed
pub record RunRecord : Type 0 where
  pub lines : ℕ
  pub turns : List Turn
  pub fell : List (Option ℕ)

-- a turn with what its shards make of the pool: its state, and the version that is chosen
pub record KnownTurn : Type 0 where
  pub turn : Turn
  pub state : State
  pub version : Version

-- the mask of the slots that joined
abbrev pub joined_in : State → ℕ
joined_in (states.Down epoch eligible) = 0
joined_in (states.Short joined min) = joined
joined_in (states.Active joined) = joined

-- the interval as the map has it
abbrev pub interval_of : KnownTurn → Interval
interval_of known = record {
  epoch = known.turn.epoch;
  up = known.turn.up;
  alive = cond known.turn.alive (Some (joined_in known.state, known.version)) None;
}

-- the map with the intervals that some turns began
abbrev pub map_with : MapImage → List KnownTurn → MapImage
map_with m known = record { n = m.n; state = with_intervals m.state (m.state.intervals ++ map interval_of known) }

-- what a turn's choice rests on: the intervals before it that are kept, and what its shards said
abbrev pub peers_at : MapImage → Turn → PeeringInput
peers_at m turn = record { kept = kept m.state; said = said_in turn.infos; up = turn.up }

-- a turn's state and version are those of its shards, in a pool with this map before the turn; it serves with `min` slots or more
pub record IsKnown (code : CodeRows) (min : ℕ) (m : MapImage) (known : KnownTurn) : Type 0 where
  pub survey : Survey
  pub surveyed : IsSurvey (peers_at m known.turn) survey
  pub version : known.version ≡ survey.version
  pub state : IsState code (peers_at m known.turn) min known.turn.holds known.state

-- so are those of each turn, with the turns before it in the map
abbrev pub AreKnown : CodeRows → ℕ → MapImage → List KnownTurn → Type 0
AreKnown code min m [] = Unit {0}
AreKnown code min m (known ∷ later) = IsKnown code min m known × AreKnown code min (map_with m (known ∷ [])) later

-- how a pool of n slots serves in a state of this epoch
abbrev pub serving_in : ℕ → ℕ → State → Serving
serving_in n epoch (states.Down from eligible) = IsDown from eligible
serving_in n epoch (states.Short joined min) = IsShort (count_below joined n) min
serving_in n epoch (states.Active joined) = Serves epoch joined

-- what stays of a turn whatever becomes of it later: its epoch, the number of changes that waited for it, the mask of the slots
-- that are up, what the shards make of the pool, and the version that is chosen
pub record Begun : Type 0 where
  pub epoch : ℕ
  pub waiting : ℕ
  pub up : ℕ
  pub state : State
  pub version : Version

abbrev pub begun_of : KnownTurn → Begun
begun_of known = record {
  epoch = known.turn.epoch;
  waiting = known.turn.waiting;
  up = known.turn.up;
  state = known.state;
  version = known.version;
}

-- ---- the entries of a record, in their order

-- a line comes; an interval begins; each slot that joined it has started it
pub data Entry : Type 0 where
  LineComes : (line : ScriptLine) → Entry
  IntervalBegins : (begun : Begun) → Entry
  IntervalActivates : Entry

-- an entry at its number of lines, and none elsewhere
abbrev pub at_count : ℕ → ℕ → Entry → List Entry
at_count count its entry = if its == count then entry ∷ [] else []

abbrev pub at_end : ℕ → Option ℕ → Entry → List Entry
at_end count None entry = []
at_end count (Some its) entry = at_count count its entry

-- what is recorded of a turn after `count` answered lines
abbrev pub entries_of : ℕ → KnownTurn → List Entry
entries_of count known =
    at_count count known.turn.line (IntervalBegins (begun_of known)) ++ at_end count known.turn.finished IntervalActivates

-- what stands between one line and the next
abbrev pub entries_between : ℕ → List KnownTurn → List Entry
entries_between count known = flat_map (entries_of count) known

-- lines and turns in their order, from a number of answered lines on
abbrev pub entries_from : ℕ → List ScriptLine → List KnownTurn → List Entry
entries_from count [] known = entries_between count known
entries_from count (line ∷ lines) known = entries_between count known ++ LineComes line ∷ entries_from (count + 1) lines known

-- the entries of a record: the first lines of the script that were answered, and the turns
abbrev pub entries : List ScriptLine → RunRecord → List KnownTurn → List Entry
entries lines so_far known = entries_from 0 (take so_far.lines lines) known

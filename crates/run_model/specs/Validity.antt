-- When a record is that of a run: what each of its turns has to do with the script, the slots, the map and the images.
-- Source: this project. Lines count from 0: line i is the one that comes after i answered lines.
use Rattle.std.specs.Prelude.{◌≡◌, ◌⊎◌, ◌↔◌, ◌<◌, ◌≤◌, ◌+◌, ℕ, Bool, true, false, List, [], ◌∷◌, ◌++◌, length, map, take, slice_get, slice_index_or, is_some, Some, None}
use Rattle.ec_model.specs.Codes.{HasPosition}
use Rattle.ec_words.specs.Intervals.{Interval}
use Rattle.auth_log.specs.Choice.{said_in}
use Rattle.auth_log.specs.States.{State, Down, Short, Active}
use Rattle.shard_model.specs.Replays.{Replay}
use Rattle.pool_history.specs.Images.{StoredPool, Holds, info_of}
use Rattle.map_model.specs.States.{MapImage, last_epoch, is_inside, with_mark}
use Rattle.run_model.specs.Items.{Run, script_of, start_of, without, items_of, all_events, BeginsInTree}
use Rattle.run_model.specs.Records.{AreKnown, RunRecord, KnownTurn, interval_of, joined_in}
use Rattle.run_model.specs.Scripts.{ScriptLine, Operator, Operation, MarkUp, MarkDown, Recover, Rebuild}

-- what a call of `run` ended on: the map as it then reads, and whether its slot failed in the call; the masks of the slots that
-- failed in it and of those that are here
pub record Ended : Type 0 where
  pub map : MapImage
  pub map_failed : Bool
  pub failed : ℕ
  pub here : ℕ

-- a run's record is read: each turn with the state and the version that its shards make
pub record IsRead (run : Run) (kept : RunRecord) (known : List KnownTurn) : Type 0 where
  pub turns : map (λ k. k.turn) known ≡ kept.turns
  pub each : AreKnown run.layout.code run.min_size run.map known

-- the turn of a place, and the line of a number
abbrev pub TurnAt : List KnownTurn → ℕ → KnownTurn → Type 0
TurnAt known place turn = slice_get known place ≡ Some turn

abbrev pub LineAt : Run → ℕ → ScriptLine → Type 0
LineAt run i line = slice_get (script_of run) i ≡ Some line

-- the turn that stands when line i is answered
pub record StandsAt (known : List KnownTurn) (i : ℕ) (turn : KnownTurn) : Type 0 where
  pub place : ℕ
  pub there : TurnAt known place turn
  pub begun : turn.turn.line ≤ i
  pub last : (later : ℕ) (other : KnownTurn) → TurnAt known later other → place < later → i < other.turn.line

-- the turn that line i finds: the last one before those that it begins
pub record IsFoundBy (known : List KnownTurn) (i : ℕ) (turn : KnownTurn) : Type 0 where
  pub place : ℕ
  pub there : TurnAt known place turn
  pub earlier : (turn.turn.line < i) ⊎ (place ≡ 0)
  pub last : (later : ℕ) (other : KnownTurn) → TurnAt known later other → place < later → i ≤ other.turn.line

-- ---- the map

-- two lists of intervals are the same, but perhaps for the last one of each
pub record AgreeButLast (one other : List Interval) : Type 0 where
  pub common : List Interval
  pub one_rest : List Interval
  pub other_rest : List Interval
  pub one_is : one ≡ common ++ one_rest
  pub other_is : other ≡ common ++ other_rest
  pub one_few : length one_rest ≤ 1
  pub other_few : length other_rest ≤ 1

-- the map's further intervals are those of the turns; if the map's slot failed, its last step is left open
pub record MapHasTurns (run : Run) (known : List KnownTurn) (ended : Ended) : Type 0 where
  pub read : ended.map_failed ≡ false → ended.map.state.intervals ≡ run.map.state.intervals ++ map interval_of known
  pub failed : ended.map_failed ≡ true → AgreeButLast ended.map.state.intervals (run.map.state.intervals ++ map interval_of known)

-- ---- alive and active

-- lines that fill slots
pub data Fills : ScriptLine → Type 0 where
  ByRecover : Fills (Operator Recover)
  ByRebuild : (slot : ℕ) → Fills (Operator (Rebuild slot))

-- a turn is active, or short and worked on by a line that fills slots and stands after it and before the next turn
pub data MayGoAlive (run : Run) (known : List KnownTurn) (place : ℕ) : State → Type 0 where
  AsActive : (joined : ℕ) → MayGoAlive run known place (Active joined)
  AsShort : (joined min i : ℕ) (line : ScriptLine) → LineAt run i line → Fills line
      → ((turn : KnownTurn) → TurnAt known place turn → turn.turn.line ≤ i)
      → ((next : KnownTurn) → TurnAt known (place + 1) next → i ≤ next.turn.line) → MayGoAlive run known place (Short joined min)

-- an active turn answers lines only after each joined slot has started it
abbrev pub AnswersWhenFinished : RunRecord → List KnownTurn → Type 0
AnswersWhenFinished kept known = (i joined : ℕ) (turn : KnownTurn) → i < kept.lines → StandsAt known i turn → turn.state ≡ Active joined
    → (f : ℕ) × ((turn.turn.finished ≡ Some f) × (f ≤ i))

-- ---- why a turn begins, and what it sees

-- the next line is an operator's
pub record OperatorIsNext (run : Run) (i : ℕ) : Type 0 where
  pub operation : Operation
  pub next : LineAt run i (Operator operation)

-- a later turn begins for an operator's line, or as a slot has failed since
abbrev pub HasCause : Run → List KnownTurn → Type 0
HasCause run known = (place : ℕ) (turn next : KnownTurn) → TurnAt known place turn → TurnAt known (place + 1) next
    → OperatorIsNext run next.turn.line
    ⊎ ((p : ℕ) × (HasPosition next.turn.failed p × (HasPosition turn.turn.failed p → ⊥)))

-- from turn to turn lines go on, and slots only fail and only come
pub record Grows (turn next : KnownTurn) : Type 0 where
  pub lines : turn.turn.line ≤ next.turn.line
  pub finish : (f : ℕ) → turn.turn.finished ≡ Some f → f ≤ next.turn.line
  pub failed : is_inside turn.turn.failed next.turn.failed ≡ true
  pub here : is_inside turn.turn.here next.turn.here ≡ true

-- the marks after some answered lines
abbrev pub mark_by : ScriptLine → ℕ → ℕ
mark_by (Operator (MarkUp slot)) marks = with_mark slot 0 marks
mark_by (Operator (MarkDown slot)) marks = with_mark slot 1 marks
mark_by line marks = marks

abbrev pub marks_after : ℕ → List ScriptLine → ℕ
marks_after marks [] = marks
marks_after marks (line ∷ lines) = marks_after (mark_by line marks) lines

abbrev pub marks_at : Run → ℕ → ℕ
marks_at run count = marks_after run.map.state.marks (take count (script_of run))

-- a turn has the marks of the lines before it, or already that of the next line; the one that stands at a line has its mark
pub record HasMarks (run : Run) (kept : RunRecord) (known : List KnownTurn) : Type 0 where
  pub each : (place : ℕ) (turn : KnownTurn) → TurnAt known place turn
      → (turn.turn.marked ≡ marks_at run turn.turn.line) ⊎ (turn.turn.marked ≡ marks_at run (turn.turn.line + 1))
  pub done : (i : ℕ) (turn : KnownTurn) → i < kept.lines → StandsAt known i turn → turn.turn.marked ≡ marks_at run (i + 1)

-- a slot's first failure in the run is kept exactly if it failed, and turns see no other
pub record KeepsFailures (run : Run) (kept : RunRecord) (known : List KnownTurn) (ended : Ended) : Type 0 where
  pub fell : (p : ℕ) → p < run.layout.code.n → (is_some (slice_index_or kept.fell p None) ≡ true) ↔ HasPosition ended.failed p
  pub seen : (place : ℕ) (turn : KnownTurn) → TurnAt known place turn → is_inside turn.turn.failed ended.failed ≡ true

-- the slots that are here at the start are here in each turn, and those that are here in a turn are here at the end
abbrev pub SeesSlots : Run → List KnownTurn → Ended → Type 0
SeesSlots run known ended = (place : ℕ) (turn : KnownTurn) → TurnAt known place turn
    → (is_inside run.here turn.turn.here ≡ true) × (is_inside turn.turn.here ended.here ≡ true)

-- the slots that are up are here, and neither marked nor failed
abbrev pub UpIsLeft : List KnownTurn → Type 0
UpIsLeft known = (place : ℕ) (turn : KnownTurn) → TurnAt known place turn
    → is_inside turn.turn.up (without (without turn.turn.here turn.turn.marked) turn.turn.failed) ≡ true

-- ---- what stood on the slots

-- the rebuild line that a turn stands in
abbrev pub IsRebuilt : Run → KnownTurn → ℕ → Type 0
IsRebuilt run turn p = LineAt run turn.turn.line (Operator (Rebuild p))

-- a shard of a slot that is up is the turn's, and it holds the turn's version exactly if the turn says so
pub record IsTurns (run : Run) (turn : KnownTurn) (p : ℕ) (s : Replay) : Type 0 where
  pub info : said_in turn.turn.infos p ≡ Some (info_of s)
  pub holds : HasPosition turn.turn.holds p ↔ Holds run.layout s turn.version

-- an image is one that a turn may have seen
pub record IsSeen (run : Run) (turn : KnownTurn) (image : StoredPool) : Type 0 where
  pub up : (p : ℕ) → HasPosition turn.turn.up p → (s : Replay) × ((image.shards p ≡ Some s) × IsTurns run turn p s)
  pub empty : (p : ℕ) → HasPosition turn.turn.here p
      → (HasPosition turn.turn.up p → ⊥) → (HasPosition turn.turn.marked p → ⊥) → (HasPosition turn.turn.failed p → ⊥)
      → (IsRebuilt run turn p → ⊥) → image.shards p ≡ None

-- instants of the call, in the turns' order, at which each image is one that the turn may have seen
pub record HasInstants (run : Run) (known : List KnownTurn) (first last : ℕ) (images : ℕ → StoredPool → Type 0) : Type 0 where
  pub instant : ℕ → ℕ
  pub ascend : (one other : ℕ) → one ≤ other → instant one ≤ instant other
  pub within : (place : ℕ) → (first ≤ instant place) × (instant place ≤ last)
  pub seen : (place : ℕ) (turn : KnownTurn) (image : StoredPool) → TurnAt known place turn → images (instant place) image → IsSeen run turn image

-- ---- what operators get

-- no slot failed in line i
abbrev pub NoneFellIn : Run → RunRecord → ℕ → Type 0
NoneFellIn run kept i = (p : ℕ) → p < run.layout.code.n → slice_index_or kept.fell p None ≡ Some i → ⊥

abbrev pub IsDownState : State → Type 0
IsDownState state = (epoch : ℕ) × ((eligible : ℕ) × (state ≡ Down epoch eligible))

-- an answered `recover` that found the pool active or short, with no slot failed in it, leaves every slot that is up joined
abbrev pub RecoverJoins : Run → RunRecord → List KnownTurn → Type 0
RecoverJoins run kept known = (i : ℕ) (found left : KnownTurn) → i < kept.lines → LineAt run i (Operator Recover) → NoneFellIn run kept i
    → IsFoundBy known i found → (IsDownState found.state → ⊥) → StandsAt known i left
    → joined_in left.state ≡ left.turn.up

-- a turn of line i without a slot is down
pub record IsDownWithout (known : List KnownTurn) (i slot : ℕ) : Type 0 where
  pub place : ℕ
  pub turn : KnownTurn
  pub there : TurnAt known place turn
  pub in_line : turn.turn.line ≡ i
  pub left_out : HasPosition turn.turn.up slot → ⊥
  pub down : IsDownState turn.state

-- so does an answered `rebuild` for its slot, if that has not failed and is not marked, and the pool is not down without it
abbrev pub RebuildJoins : Run → RunRecord → List KnownTurn → Type 0
RebuildJoins run kept known = (i slot : ℕ) (found left : KnownTurn) → i < kept.lines → LineAt run i (Operator (Rebuild slot)) → NoneFellIn run kept i
    → ((f : ℕ) → slice_index_or kept.fell slot None ≡ Some f → i < f)
    → IsFoundBy known i found → (IsDownState found.state → ⊥) → StandsAt known i left
    → (HasPosition left.turn.marked slot → ⊥) → (IsDownWithout known i slot → ⊥)
    → HasPosition (joined_in left.state) slot

-- ---- a record is that of a run

pub record IsRecordOf (run : Run) (kept : RunRecord) (known : List KnownTurn) (ended : Ended)
    (first last : ℕ) (images : ℕ → StoredPool → Type 0) : Type 0 where
  -- the turns' states and versions are those of their shards, and their epochs go on from the map's
  pub is_read : IsRead run kept known
  pub epochs_go_on : (place : ℕ) (turn : KnownTurn) → TurnAt known place turn → turn.turn.epoch ≡ last_epoch run.map.state.intervals + 1 + place
  pub map_has_turns : MapHasTurns run known ended
  -- a finished turn is alive, an alive one may be so, and an active one answers no line before it is finished
  pub finished_is_alive : (place f : ℕ) (turn : KnownTurn) → TurnAt known place turn → turn.turn.finished ≡ Some f → turn.turn.alive ≡ true
  pub alive_may_be : (place : ℕ) (turn : KnownTurn) → TurnAt known place turn → turn.turn.alive ≡ true → MayGoAlive run known place turn.state
  pub answers_when_finished : AnswersWhenFinished kept known
  -- why each turn begins, and what it sees of the slots
  pub has_cause : HasCause run known
  pub only_grows : (place : ℕ) (turn next : KnownTurn) → TurnAt known place turn → TurnAt known (place + 1) next → Grows turn next
  pub sees_slots : SeesSlots run known ended
  pub keeps_failures : KeepsFailures run kept known ended
  pub has_marks : HasMarks run kept known
  pub up_is_left : UpIsLeft known
  pub has_instants : HasInstants run known first last images
  -- what `recover` and `rebuild` come to
  pub recover_joins : RecoverJoins run kept known
  pub rebuild_joins : RebuildJoins run kept known
  -- the first active interval begins at a version of the history, each later one at the last accepted change
  pub goes_on : BeginsInTree (start_of run).now (all_events (items_of run kept known))
  -- no more lines are answered than the script has
  pub lines_are_there : kept.lines ≤ length (script_of run)

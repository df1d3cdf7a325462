-- What a run does, item by item, as its record tells it; and what the pool is after some items. Source: this project.
-- Read first: Replies.antt and Records.antt beside this, then pool_history's Histories.antt (`Growing`, `grown_by`).
use Rattle.std.specs.Prelude.{ℕ, ◌+◌, Bool, false, ◌&&◌, ◌||◌, ◌==◌, nat_lt, nat_le, zero, suc, is_none, if◌then◌else◌, cond, List, [], ◌∷◌, ◌++◌, take, ◌^◌, bit_and, bit_or, bit_xor, slice_index_or, Some, None}
use Rattle.std.specs.declared.option.Option.{Option}
use Rattle.std.specs.Int.{bit_at}
use Rattle.std.specs.List.{flat_map}
use Rattle.ec_positions.specs.Objects.{Objects}
use Rattle.ec_positions.specs.Updates.{Update}
use Rattle.map_model.specs.States.{MapImage}
use Rattle.pool_history.specs.Histories as histories
use Rattle.pool_history.specs.Histories.{History, Event, ActivationComplete, ChangeAccepted, CommitPoint, Growing, PoolChange, IsInTree, MayGrow, next_change, grown_by, extended_by, objects_of}
use Rattle.pool_history.specs.Layouts.{Layout}
use Rattle.run_model.specs.Scripts.{ScriptLine, Operator, Recover, Rebuild, lines_of}
use Rattle.run_model.specs.Replies.{Serving, IsDown, Answer, Standing, answer_to_line, update_in}
use Rattle.run_model.specs.Records.{Begun, RunRecord, KnownTurn, Entry, LineComes, IntervalBegins, IntervalActivates, joined_in, serving_in, entries}

-- a line and its answer; an interval begins; each slot that joined it has started it; the accepted changes are on all of them
pub data Item : Type 0 where
  Answered : (line : ScriptLine) (answer : Answer) → Item
  IntervalBegun : (begun : Begun) → Item
  IntervalActive : Item
  Committed : Item

-- an accepted update as an event, if there is one
abbrev pub accepts : Option Update → List Event
accepts None = []
accepts (Some update) = ChangeAccepted update ∷ []

-- what an item does to the pool's history
abbrev pub events_in : Item → List Event
events_in (Answered line answer) = accepts (update_in line answer)
events_in (IntervalBegun begun) = histories.IntervalBegun begun.epoch begun.version ∷ []
events_in IntervalActive = ActivationComplete ∷ []
events_in Committed = CommitPoint ∷ []

-- what a call of `run` began on: how the pool's objects lie on its slots, and the least number of slots that it serves with; the
-- script and the depth of the queue; a history that each image agrees with, and the map; the mask of the slots that are here, that
-- of the slots that have a whole shard in each image, and what was said before
pub record Run : Type 0 where
  pub layout : Layout
  pub min_size : ℕ
  pub script : List ℕ
  pub depth : ℕ
  pub history : History
  pub map : MapImage
  pub here : ℕ
  pub stood : ℕ
  pub said : List ℕ

-- the lines of a run's script
abbrev pub script_of : Run → List ScriptLine
script_of run = lines_of run.layout.code.n run.script

-- ---- what a pool is after some items

-- its history and head; the last interval that the last answered line saw and those begun since, the newest first; the number of
-- accepted changes that wait for a flush, and of those that are neither committed nor on the base of an active interval; the mask
-- of the slots whose shard an operator's line may have taken away; the number of answered lines
pub record Progress : Type 0 where
  pub now : Growing
  pub recent : List Begun
  pub queued : ℕ
  pub unsettled : ℕ
  pub excused : ℕ
  pub answered : ℕ

-- the positions of one mask that another lacks
abbrev pub without : ℕ → ℕ → ℕ
without mask other = bit_xor mask (bit_and mask other)

-- the slots that are up and have not joined, in any of some intervals
abbrev pub left_outside : List Begun → ℕ
left_outside [] = 0
left_outside (begun ∷ older) = bit_or (without begun.up (joined_in begun.state)) (left_outside older)

-- the slots whose shard a line may take away: `recover` those that it finds outside the joined set, `rebuild` its own
abbrev pub excused_by : List Begun → ScriptLine → ℕ
excused_by recent (Operator Recover) = left_outside recent
excused_by recent (Operator (Rebuild slot)) = 2 ^ slot
excused_by recent line = 0

abbrev pub one_if_some : Option Update → ℕ
one_if_some None = 0
one_if_some (Some update) = 1

-- what the pool is after an item
abbrev pub after_item : Progress → Item → Progress
after_item before (Answered line answer) = record {
  now = extended_by before.now (accepts (update_in line answer));
  recent = take 1 before.recent;
  queued = before.queued + one_if_some (update_in line answer);
  unsettled = before.unsettled + one_if_some (update_in line answer);
  excused = bit_or before.excused (excused_by before.recent line);
  answered = before.answered + 1;
}
after_item before (IntervalBegun begun) = record {
  now = grown_by before.now (histories.IntervalBegun begun.epoch begun.version);
  recent = begun ∷ before.recent;
  queued = if begun.waiting == before.queued then 0 else before.queued;
  unsettled = before.unsettled;
  excused = before.excused;
  answered = before.answered;
}
after_item before IntervalActive = record {
  now = grown_by before.now ActivationComplete;
  recent = before.recent;
  queued = before.queued;
  unsettled = 0;
  excused = before.excused;
  answered = before.answered;
}
after_item before Committed = record {
  now = grown_by before.now CommitPoint;
  recent = before.recent;
  queued = 0;
  unsettled = 0;
  excused = before.excused;
  answered = before.answered;
}

-- and after some
abbrev pub after_items : Progress → List Item → Progress
after_items before [] = before
after_items before (item ∷ items) = after_items (after_item before item) items

-- ---- what the pool is to the next line

-- how the pool serves by its last interval; before the first one no line is answered
abbrev pub serving_by : Run → List Begun → Serving
serving_by run [] = IsDown 0 0
serving_by run (begun ∷ older) = serving_in run.layout.code.n begun.epoch begun.state

-- that of the last interval without a slot, if it is down; else how the pool serves
abbrev pub if_down : Serving → Serving → Serving
if_down (IsDown epoch slots) serving = IsDown epoch slots
if_down others serving = serving

abbrev pub serving_without : Run → ℕ → List Begun → Serving → Serving
serving_without run slot [] serving = serving
serving_without run slot (begun ∷ older) serving =
    if bit_at begun.up slot == 0 then if_down (serving_by run (begun ∷ [])) serving else serving_without run slot older serving

-- a slot failed after fewer than `count` answered lines
abbrev pub fell_before : Option ℕ → ℕ → Bool
fell_before None count = false
fell_before (Some its) count = nat_lt its count

-- the objects at the head
abbrev pub objects_now : Progress → Objects
objects_now now = objects_of now.now.history.changes now.now.head

-- what the pool is to the line that comes after `answered` lines, beside its objects
abbrev pub standing_at : Run → List (Option ℕ) → List Begun → ℕ → Standing
standing_at run fell recent answered = record {
  serving = serving_by run recent;
  rebuilt = λ slot. serving_without run slot recent (serving_by run recent);
  failed = λ slot. fell_before (slice_index_or fell slot None) (answered + 1);
}

-- and what it is after some items
abbrev pub standing : Run → List (Option ℕ) → Progress → Standing
standing run fell now = standing_at run fell now.recent now.answered

-- the answer to the line that comes next
abbrev pub answer_to : Run → List (Option ℕ) → Progress → ScriptLine → Answer
answer_to run fell now line = answer_to_line (standing run fell now) (objects_now now) line

-- ---- the items of a record

-- with changes queued a flush comes: before a line that is no accepted change, before a turn that no change waits for, and if the
-- queue is full, but not before a turn that changes wait for
abbrev pub is_flushed_before : Run → List (Option ℕ) → Progress → Entry → Bool
is_flushed_before run fell now (LineComes line) =
    is_none (update_in line (answer_to run fell now line)) || nat_le run.depth now.queued
is_flushed_before run fell now (IntervalBegins begun) = begun.waiting == 0
is_flushed_before run fell now IntervalActivates = nat_le run.depth now.queued

abbrev pub commit_if : Bool → List Item
commit_if due = cond due (Committed ∷ []) []

abbrev pub item_of : Run → List (Option ℕ) → Progress → Entry → Item
item_of run fell now (LineComes line) = Answered line (answer_to run fell now line)
item_of run fell now (IntervalBegins begun) = IntervalBegun begun
item_of run fell now IntervalActivates = IntervalActive

-- the items that an entry adds
abbrev pub items_for : Run → List (Option ℕ) → Progress → Entry → List Item
items_for run fell now entry =
    commit_if (nat_lt 0 now.queued && is_flushed_before run fell now entry) ++ item_of run fell now entry ∷ []

-- a run at its start; the first interval that goes active says what the head is
abbrev pub start_of : Run → Progress
start_of run = record {
  now = record { history = run.history; epoch = 0; chosen = run.history.committed; head = run.history.committed };
  recent = [];
  queued = 0;
  unsettled = 0;
  excused = 0;
  answered = 0;
}

-- what the pool is after some items of a run
abbrev pub progress : Run → List Item → Progress
progress run done = after_items (start_of run) done

abbrev pub history_after : Run → List Item → History
history_after run done = (progress run done).now.history

-- the items with those of one entry more, and of some
abbrev pub with_entry : Run → List (Option ℕ) → List Item → Entry → List Item
with_entry run fell done entry = done ++ items_for run fell (progress run done) entry

abbrev pub with_entries : Run → List (Option ℕ) → List Item → List Entry → List Item
with_entries run fell done [] = done
with_entries run fell done (entry ∷ entries) = with_entries run fell (with_entry run fell done entry) entries

-- the items so far of a record whose turns are known
abbrev pub items_so_far : Run → RunRecord → List KnownTurn → List Item
items_so_far run kept known = with_entries run kept.fell [] (entries (script_of run) kept known)

-- and with the flush at the run's end
abbrev pub with_last_flush : Run → List Item → List Item
with_last_flush run done = done ++ commit_if (nat_lt 0 (progress run done).queued)

abbrev pub items_of : Run → RunRecord → List KnownTurn → List Item
items_of run kept known = with_last_flush run (items_so_far run kept known)

-- ---- what is read off items

abbrev pub answer_in : Item → List Answer
answer_in (Answered line answer) = answer ∷ []
answer_in others = []

-- the answers, in order
abbrev pub answers_in : List Item → List Answer
answers_in items = flat_map answer_in items

-- the number of accepted changes among the first `count` lines
abbrev pub accepted_among : ℕ → List Item → ℕ
accepted_among zero items = 0
accepted_among (suc count) [] = 0
accepted_among (suc count) (Answered line answer ∷ items) = one_if_some (update_in line answer) + accepted_among count items
accepted_among (suc count) (others ∷ items) = accepted_among (suc count) items

-- what items do to the pool's history
abbrev pub all_events : List Item → List Event
all_events items = flat_map events_in items

-- the changes that are accepted in some events, under their versions, in order
abbrev pub made_in : Growing → List Event → List PoolChange
made_in now [] = []
made_in now (ChangeAccepted update ∷ events) = next_change now update ∷ made_in (grown_by now (ChangeAccepted update)) events
made_in now (histories.IntervalBegun epoch version ∷ events) = made_in (grown_by now (histories.IntervalBegun epoch version)) events
made_in now (ActivationComplete ∷ events) = made_in (grown_by now ActivationComplete) events
made_in now (CommitPoint ∷ events) = made_in (grown_by now CommitPoint) events

-- the changes that a run accepted, under their versions, in order
abbrev pub accepted_changes : Run → List Item → List PoolChange
accepted_changes run done = made_in (start_of run).now (all_events done)

-- before the first interval of a run goes active no change is accepted; it begins at a version of the tree, and the run goes on
-- from there
abbrev pub BeginsInTree : Growing → List Event → Type 0
BeginsInTree now [] = Unit {0}
BeginsInTree now (histories.IntervalBegun epoch version ∷ events) = BeginsInTree (grown_by now (histories.IntervalBegun epoch version)) events
BeginsInTree now (ChangeAccepted update ∷ events) = ⊥
BeginsInTree now (CommitPoint ∷ events) = BeginsInTree (grown_by now CommitPoint) events
BeginsInTree now (ActivationComplete ∷ events) =
    IsInTree now.history.changes now.chosen × MayGrow (grown_by now ActivationComplete) events

-- Laws of runs. Source: this project.
use Rattle.std.specs.Prelude.{◌≡◌, ◌↔◌, ◌≤◌, ◌+◌, slice_index_or, ℕ, List, [], ◌∷◌, ◌++◌, length, map, take, Some, None}
use Rattle.std.specs.declared.option.Option.{Option}
use Rattle.ec_model.specs.Versions.{Version}
use Rattle.ec_words.specs.Fields.{fields}
use Rattle.ec_positions.specs.Commands.{Command}
use Rattle.ec_positions.specs.Objects.{Objects}
use Rattle.pool_history.specs.Choices.{Chooses}
use Rattle.pool_history.specs.Consistency.{Agrees}
use Rattle.pool_history.specs.Histories.{IsTree, extended_by}
use Rattle.pool_history.specs.Images.{StoredPool, IsStoredPool}
use Rattle.run_model.specs.Answers.{AreTold, IsReadAs}
use Rattle.run_model.specs.Grammar.{Spells, IsForm}
use Rattle.run_model.specs.Headline.{ShowsAll}
use Rattle.run_model.specs.Items.{Item, Run, Progress, start_of, after_items, history_after, all_events, fell_before, serving_by, standing_at, objects_now, answers_in, items_of, progress, with_entries, BeginsInTree}
use Rattle.run_model.specs.Pieces.{Piece, AreWholeAndAPart}
use Rattle.run_model.specs.Records.{Begun, Entry, KnownTurn, RunRecord, begun_of, IntervalBegins, LineComes, IntervalActivates, entries_from, entries_between}
use Rattle.run_model.specs.Replies.{Standing, Serves, answer_to_line, in_memory, objects_after_line, objects_with, replies_in, update_in}
use Rattle.run_model.specs.Scripts.{ScriptLine, LongLine, BadLine, Client, line_of_fields}

-- some items are first ones of others
pub record IsFirstOf (items longer : List Item) : Type 0 where
  pub more : List Item
  pub is : longer ≡ items ++ more

-- further entries add items, and change none
abbrev pub EntriesAddItems : Type 0
EntriesAddItems = (run : Run) (fell : List (Option ℕ)) (done : List Item) (entries more : List Entry)
    → IsFirstOf (with_entries run fell done entries) (with_entries run fell done (entries ++ more))

-- the number of lines among some entries
abbrev pub one_line : Entry → ℕ
one_line (LineComes line) = 1
one_line others = 0

abbrev pub count_lines : List Entry → ℕ
count_lines [] = 0
count_lines (entry ∷ entries) = one_line entry + count_lines entries

-- the slots that failed before each of the first lines are the same
abbrev pub FailAlike : List (Option ℕ) → List (Option ℕ) → ℕ → Type 0
FailAlike fell other count = (slot i : ℕ) → i ≤ count
    → fell_before (slice_index_or fell slot None) i ≡ fell_before (slice_index_or other slot None) i

-- a slot that fails later changes no item so far
abbrev pub FailuresComeLater : Type 0
FailuresComeLater = (run : Run) (fell other : List (Option ℕ)) (done : List Item) (entries : List Entry)
    → FailAlike fell other ((progress run done).answered + count_lines entries)
    → with_entries run fell done entries ≡ with_entries run other done entries

-- a line more adds its entry at the end
abbrev pub LinesAddEntries : Type 0
LinesAddEntries = (count : ℕ) (lines : List ScriptLine) (line : ScriptLine) (known : List KnownTurn)
    → entries_from count (lines ++ line ∷ []) known
    ≡ entries_from count lines known ++ LineComes line ∷ entries_between (count + length lines + 1) known

-- a turn more, begun after the last line, adds its entry at the end
abbrev pub TurnsAddEntries : Type 0
TurnsAddEntries = (count : ℕ) (lines : List ScriptLine) (known : List KnownTurn) (turn : KnownTurn)
    → turn.turn.line ≡ count + length lines → turn.turn.finished ≡ None
    → entries_from count lines (known ++ turn ∷ []) ≡ entries_from count lines known ++ IntervalBegins (begun_of turn) ∷ []

-- a turn that becomes active after the last line, and is the same else
pub record BecomesActive (count : ℕ) (turn later : KnownTurn) : Type 0 where
  pub begun : begun_of later ≡ begun_of turn
  pub line : later.turn.line ≡ turn.turn.line
  pub before : turn.turn.finished ≡ None
  pub after : later.turn.finished ≡ Some count

-- then this adds its entry at the end
abbrev pub ActivationsAddEntries : Type 0
ActivationsAddEntries = (count : ℕ) (lines : List ScriptLine) (known : List KnownTurn) (turn later : KnownTurn)
    → BecomesActive (count + length lines) turn later
    → entries_from count lines (known ++ later ∷ []) ≡ entries_from count lines (known ++ turn ∷ []) ++ IntervalActivates ∷ []

-- the history of a run is what its items' events make of it
abbrev pub ItemsGrowHistory : Type 0
ItemsGrowHistory = (start : Progress) (items : List Item) → (after_items start items).now ≡ extended_by start.now (all_events items)

-- if an image agrees with the history that has grown, what sufficient slots show follows
abbrev pub AgreementIsEnough : Type 0
AgreementIsEnough = (run : Run) (done : List Item) (image : StoredPool) (up joined : ℕ) (version : Version)
    → IsStoredPool run.layout image → IsTree run.history.changes → BeginsInTree (start_of run).now (all_events done)
    → Agrees run.layout image (history_after run done) → Chooses run.layout image up joined version
    → ShowsAll run done image joined version

-- the objects after a line are those with the update that its answer says
abbrev pub AnswersTellUpdates : Type 0
AnswersTellUpdates = (pool : Standing) (objects : Objects) (line : ScriptLine)
    → objects_after_line pool objects line ≡ objects_with objects (update_in line (answer_to_line pool objects line))

-- some lines between which no interval begins, each with what the pool is when it comes
abbrev pub lines_at : Run → List (Option ℕ) → List Begun → ℕ → List ScriptLine → List (Standing × ScriptLine)
lines_at run fell recent answered [] = []
lines_at run fell recent answered (line ∷ lines) =
    (standing_at run fell recent answered, line) ∷ lines_at run fell (take 1 recent) (answered + 1) lines

-- a run answers them by the fold over lines, from the objects that it has
abbrev pub LinesAreAnsweredInOrder : Type 0
LinesAreAnsweredInOrder = (run : Run) (fell : List (Option ℕ)) (done : List Item) (lines : List ScriptLine)
    → let now = progress run done in
    answers_in (with_entries run fell done (map LineComes lines))
    ≡ answers_in done ++ replies_in (lines_at run fell now.recent now.answered lines) (objects_now now)

-- a line of a client, or no line at all
pub data IsOfClient : ScriptLine → Type 0 where
  IsLong : IsOfClient LongLine
  HasNoForm : IsOfClient BadLine
  Asks : (command : Command) → IsOfClient (Client command)

abbrev pub AreOfClients : List ScriptLine → Type 0
AreOfClients [] = Unit {0}
AreOfClients (line ∷ lines) = IsOfClient line × AreOfClients lines

-- lines for objects in memory
abbrev pub lines_in_memory : List ScriptLine → List (Standing × ScriptLine)
lines_in_memory lines = map (λ line. (in_memory, line)) lines

-- a pool that serves answers clients as objects in memory do, from the objects that it has
abbrev pub ServingPoolsAnswerAsMemory : Type 0
ServingPoolsAnswerAsMemory = (run : Run) (fell : List (Option ℕ)) (done : List Item) (epoch joined : ℕ) (lines : List ScriptLine)
    → serving_by run (progress run done).recent ≡ Serves epoch joined → AreOfClients lines
    → answers_in (with_entries run fell done (map LineComes lines))
    ≡ answers_in done ++ replies_in (lines_in_memory lines) (objects_now (progress run done))

-- whatever first bytes of pieces were said, they are whole pieces and a part of the next one
abbrev pub FrontsAreWholePieces : Type 0
FrontsAreWholePieces = (pieces : List Piece) (bytes : ℕ) → AreWholeAndAPart pieces bytes

-- the answers of a run say what became of their lines
abbrev pub AnswersAreTold : Type 0
AnswersAreTold = (run : Run) (kept : RunRecord) (known : List KnownTurn) (done rest : List Item)
    → items_of run kept known ≡ done ++ rest → AreTold (answers_in done)

-- what a run has said is read in one way
abbrev pub SaidIsReadOnce : Type 0
SaidIsReadOnce = (now : Progress) (done : List Item) (said : List ℕ) (one other : List Piece) → AreTold (answers_in done)
    → IsReadAs now done said one → IsReadAs now done said other → one ≡ other

-- a text spells a line, by its words, names, numbers and digits, exactly if its fields are read as that line
abbrev pub LinesAreSpelled : Type 0
LinesAreSpelled = (text : List ℕ) (line : ScriptLine) → IsForm line → Spells text line ↔ (line_of_fields (fields text) ≡ line)

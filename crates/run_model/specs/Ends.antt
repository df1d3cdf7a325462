-- How a run of lines ends: what its status says of its answers. Source: this project.
-- Of the counts of faults that statuses 8, 9 and 10 rest on, and of the numbers of status 11, nothing is said here.
use Rattle.std.specs.Prelude.{◌≡◌, ◌⊎◌, ◌<◌, ◌≤◌, ℕ, true, false, List, [], ◌∷◌, length, map, take, slice_index_or, Some, None}
use Rattle.std.specs.List.{list_all}
use Rattle.ec_model.specs.Codes.{HasPosition}
use Rattle.ec_words.specs.Numbers.{OneOf}
use Rattle.auth_log.specs.States.{Active}
use Rattle.run_model.specs.Answers.{worn_line, too_long_line, without_notes}
use Rattle.run_model.specs.Items.{Run, answers_in, items_of, script_of}
use Rattle.run_model.specs.Notes.{HasItsNotes}
use Rattle.run_model.specs.Pieces.{Piece, Answered, LastLine, pieces_text}
use Rattle.run_model.specs.Records.{KnownTurn, RunRecord}
use Rattle.run_model.specs.Replies.{Unsure, is_good}
use Rattle.run_model.specs.Validity.{TurnAt}

-- a piece is one of some
abbrev pub IsPiece : List Piece → Piece → Type 0
IsPiece [] piece = ⊥
IsPiece (first ∷ rest) piece = (first ≡ piece) ⊎ IsPiece rest piece

-- each line of the script is answered, as the record has it, and nothing else is said but notes
pub record IsComplete (run : Run) (kept : RunRecord) (known : List KnownTurn) (pieces : List Piece) : Type 0 where
  pub lines : kept.lines ≡ length (script_of run)
  pub answers : without_notes pieces ≡ map Answered (answers_in (items_of run kept known))

-- a slot that joined the last active interval failed after that began, so the changes that were queued then may be on too few slots
pub record LosesJoined (kept : RunRecord) (known : List KnownTurn) : Type 0 where
  pub place : ℕ
  pub turn : KnownTurn
  pub joined : ℕ
  pub there : TurnAt known place turn
  pub active : turn.state ≡ Active joined
  pub last : (later others : ℕ) (other : KnownTurn) → TurnAt known later other → place < later → other.state ≡ Active others → ⊥
  pub slot : ℕ
  pub member : HasPosition joined slot
  pub count : ℕ
  pub fell : slice_index_or kept.fell slot None ≡ Some count
  pub since : turn.turn.line ≤ count

-- a run of lines ends with a status, after it has said these pieces
pub record EndsWith (run : Run) (kept : RunRecord) (known : List KnownTurn) (status : ℕ) (pieces : List Piece) : Type 0 where
  pub statuses : OneOf status (0 ∷ 1 ∷ 7 ∷ 8 ∷ 9 ∷ 10 ∷ 11 ∷ 12 ∷ 13 ∷ [])
  -- with status 0 or 1 all lines are answered: with 0 each answer begins with `ok`, `clean` or `state`, with 1 some does not
  pub complete : OneOf status (0 ∷ 1 ∷ []) → IsComplete run kept known pieces
  pub all_done : status ≡ 0 → list_all is_good (answers_in (items_of run kept known)) ≡ true
  pub some_refused : status ≡ 1 → list_all is_good (answers_in (items_of run kept known)) ≡ false
  -- `unsure` is said, and status 7 comes, only if a joined slot failed and no interval went active since
  pub unsure : IsPiece pieces (Answered Unsure) → LosesJoined kept known
  pub lost : status ≡ 7 → LosesJoined kept known
  pub sure : OneOf status (8 ∷ 12 ∷ []) → IsPiece pieces (Answered Unsure) → ⊥
  -- the line of a status stands last, and only with that status; if the output failed it may be cut off
  pub worn : IsPiece pieces (LastLine worn_line) → OneOf status (9 ∷ 11 ∷ [])
  pub says_worn : status ≡ 11 → IsPiece pieces (LastLine worn_line)
  pub too_long : IsPiece pieces (LastLine too_long_line) → OneOf status (9 ∷ 12 ∷ [])
  pub says_too_long : status ≡ 12 → IsPiece pieces (LastLine too_long_line)
  -- unless the output failed, each slot that was lost has its note
  pub notes : (status ≡ 9 → ⊥) → HasItsNotes run kept known pieces

-- what was said in all: the text of some pieces that the run may end with. If the output failed it is some first bytes of it
pub record SaysAll (run : Run) (kept : RunRecord) (known : List KnownTurn) (status : ℕ) (said : List ℕ) : Type 0 where
  pub pieces : List Piece
  pub ends : EndsWith run kept known status pieces
  pub whole : (status ≡ 9 → ⊥) → said ≡ pieces_text pieces
  pub front : (count : ℕ) × (said ≡ take count (pieces_text pieces))

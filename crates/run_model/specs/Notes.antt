-- Which slots a run loses, and where the notes of them stand in what it says. Source: this project.
-- A slot is lost if it failed, or if it was here, was not marked as down, and had no shard. A note stands before the first line that is
-- said after the loss, so its place is the number of answers that were said before.
use Rattle.std.specs.Prelude.{◌≡◌, ◌↔◌, ◌⊎◌, ◌<◌, ◌≤◌, ◌+◌, ◌-◌, ℕ, min, List, [], ◌∷◌, slice_index_or, Some, None}
use Rattle.ec_model.specs.Codes.{HasPosition}
use Rattle.run_model.specs.Items.{Run, progress, items_so_far}
use Rattle.run_model.specs.Pieces.{Piece, Answered, Note, LastLine}
use Rattle.run_model.specs.Records.{KnownTurn, RunRecord}
use Rattle.run_model.specs.Validity.{IsRebuilt, TurnAt}

-- a note's slot, and the number of answers before it
pub record Noted : Type 0 where
  pub slot : ℕ
  pub place : ℕ

-- the notes among some pieces, after `count` answers
abbrev pub notes_after : ℕ → List Piece → List Noted
notes_after count [] = []
notes_after count (Note slot ∷ pieces) = record { slot = slot; place = count } ∷ notes_after count pieces
notes_after count (Answered answer ∷ pieces) = notes_after (count + 1) pieces
notes_after count (LastLine line ∷ pieces) = notes_after count pieces

abbrev pub notes_in : List Piece → List Noted
notes_in pieces = notes_after 0 pieces

-- a note is one of some
abbrev pub IsNote : List Noted → Noted → Type 0
IsNote [] note = ⊥
IsNote (first ∷ rest) note = (first ≡ note) ⊎ IsNote rest note

-- one note stands before another: at an earlier place, or at the same place with a lesser slot
abbrev pub StandsBefore : Noted → Noted → Type 0
StandsBefore one other = (one.place < other.place) ⊎ ((one.place ≡ other.place) × (one.slot < other.slot))

abbrev pub AreInOrder : List Noted → Type 0
AreInOrder [] = Unit {0}
AreInOrder (only ∷ []) = Unit {0}
AreInOrder (one ∷ (next ∷ rest)) = StandsBefore one next × AreInOrder (next ∷ rest)

-- ---- the slots that are lost

-- of a turn, the number of answers that are said before it: those to the lines before, but for the changes that wait for it
abbrev pub said_before : KnownTurn → ℕ
said_before turn = turn.turn.line - turn.turn.waiting

-- the first turn that has a slot as failed
pub record SeesFailure (known : List KnownTurn) (slot : ℕ) (turn : KnownTurn) : Type 0 where
  pub place : ℕ
  pub there : TurnAt known place turn
  pub failed : HasPosition turn.turn.failed slot
  pub first : (earlier : ℕ) (other : KnownTurn) → TurnAt known earlier other → earlier < place → HasPosition other.turn.failed slot → ⊥

-- no turn has it so: the run ended, or goes on without an interval more
abbrev pub NoneSees : List KnownTurn → ℕ → Type 0
NoneSees known slot = (place : ℕ) (turn : KnownTurn) → TurnAt known place turn → HasPosition turn.turn.failed slot → ⊥

-- a turn finds a slot that is here and not marked, has not failed, and has no shard; it is not the slot that a line rebuilds
pub record FindsNoShard (run : Run) (turn : KnownTurn) (slot : ℕ) : Type 0 where
  pub here : HasPosition turn.turn.here slot
  pub unmarked : HasPosition turn.turn.marked slot → ⊥
  pub unfailed : HasPosition turn.turn.failed slot → ⊥
  pub not_up : HasPosition turn.turn.up slot → ⊥
  pub not_rebuilt : IsRebuilt run turn slot → ⊥

-- a slot is lost after a number of answers. A slot that fails while changes wait is lost before their answers
pub data IsLostAfter (run : Run) (kept : RunRecord) (known : List KnownTurn) (slot : ℕ) : ℕ → Type 0 where
  FailedBefore : (count : ℕ) (turn : KnownTurn) → slice_index_or kept.fell slot None ≡ Some count → SeesFailure known slot turn
      → IsLostAfter run kept known slot (min count (said_before turn))
  FailedLast : (count : ℕ) → slice_index_or kept.fell slot None ≡ Some count → NoneSees known slot
      → IsLostAfter run kept known slot (min count (kept.lines - (progress run (items_so_far run kept known)).queued))
  WasEmpty : (place : ℕ) (turn : KnownTurn) → TurnAt known place turn → FindsNoShard run turn slot
      → IsLostAfter run kept known slot (said_before turn)

-- a slot is lost first at a place
pub record IsFirstLost (run : Run) (kept : RunRecord) (known : List KnownTurn) (note : Noted) : Type 0 where
  pub slot : note.slot < run.layout.code.n
  pub lost : IsLostAfter run kept known note.slot note.place
  pub first : (place : ℕ) → IsLostAfter run kept known note.slot place → note.place ≤ place

-- the notes of a run that ended: one of each slot that was lost, where it was lost, those at one place by their slots
pub record HasItsNotes (run : Run) (kept : RunRecord) (known : List KnownTurn) (pieces : List Piece) : Type 0 where
  pub exactly : (note : Noted) → IsNote (notes_in pieces) note ↔ IsFirstLost run kept known note
  pub in_order : AreInOrder (notes_in pieces)

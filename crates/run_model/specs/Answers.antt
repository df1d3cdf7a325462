-- What a run has said, in the order of its lines, and which changes it has acknowledged. Source: this project.
use Rattle.std.specs.Prelude.{◌≡◌, ℕ, ◌+◌, ◌<◌, ◌≤◌, suc, List, [], ◌∷◌, ◌++◌, length, map, take, replicate, codes}
use Rattle.run_model.specs.Items.{Item, Progress, answers_in, accepted_among}
use Rattle.run_model.specs.Pieces.{Piece, Answered, Note, LastLine, piece_text, pieces_text}
use Rattle.run_model.specs.Replies.{Answer, Unsure}

-- without the notes
abbrev pub without_notes : List Piece → List Piece
without_notes [] = []
without_notes (Note slot ∷ pieces) = without_notes pieces
without_notes (other ∷ pieces) = other ∷ without_notes pieces

-- the number of answers that say what became of a line
abbrev pub count_answers : List Piece → ℕ
count_answers [] = 0
count_answers (Answered Unsure ∷ pieces) = count_answers pieces
count_answers (Answered answer ∷ pieces) = suc (count_answers pieces)
count_answers (other ∷ pieces) = count_answers pieces

abbrev pub worn_line : List ℕ
worn_line = codes "worn\n"

abbrev pub too_long_line : List ℕ
too_long_line = codes "too long\n"

-- the line of a status that may end a run of lines
pub data IsLastLine : List Piece → Type 0 where
  NoneYet : IsLastLine []
  IsWorn : IsLastLine (LastLine worn_line ∷ [])
  IsTooLong : IsLastLine (LastLine too_long_line ∷ [])

-- first the answers to the lines, some or all of them; then perhaps `unsure`, once for each of some changes that were accepted
-- and are neither committed nor in an active interval, if all other lines are answered; then perhaps the line of a status
pub record IsInOrder (now : Progress) (done : List Item) (pieces : List Piece) : Type 0 where
  pub count : ℕ
  pub unsure : ℕ
  pub last : List Piece
  pub are : without_notes pieces ≡ map Answered (take count (answers_in done)) ++ (replicate unsure (Answered Unsure) ++ last)
  pub few : unsure ≤ now.unsettled
  pub others_first : 0 < unsure → count + now.unsettled ≡ length (answers_in done)
  pub is_last : IsLastLine last

-- the bytes are some whole pieces and then a part of one more, which is not all of it and may be nothing
pub record IsSaid (whole : List Piece) (next : Piece) (said : List ℕ) : Type 0 where
  pub part : ℕ
  pub cut : part < length (piece_text next)
  pub is : said ≡ pieces_text whole ++ take part (piece_text next)

-- each note is of a slot
abbrev pub NotesAreOfSlots : List Piece → Type 0
NotesAreOfSlots [] = Unit {0}
NotesAreOfSlots (Note slot ∷ pieces) = (slot < 16) × NotesAreOfSlots pieces
NotesAreOfSlots (other ∷ pieces) = NotesAreOfSlots pieces

-- the bytes that a run has said are read as these whole pieces, and a part of one more
pub record IsReadAs (now : Progress) (done : List Item) (said : List ℕ) (whole : List Piece) : Type 0 where
  pub next : Piece
  pub bytes : IsSaid whole next said
  pub in_order : IsInOrder now done (whole ++ next ∷ [])
  pub notes : NotesAreOfSlots (whole ++ next ∷ [])

-- an answer says what became of its line
abbrev pub IsTold : Answer → Type 0
IsTold Unsure = ⊥
IsTold others = Unit {0}

abbrev pub AreTold : List Answer → Type 0
AreTold [] = Unit {0}
AreTold (answer ∷ answers) = IsTold answer × AreTold answers

-- the number of accepted changes that have their whole answer among these pieces
abbrev pub acknowledged : List Item → List Piece → ℕ
acknowledged done whole = accepted_among (count_answers whole) done

-- What a run says, piece by piece. Source: this project.
use Rattle.std.specs.Prelude.{◌≡◌, ◌⊎◌, ◌<◌, ℕ, List, [], ◌∷◌, ◌++◌, length, take, drop, codes}
use Rattle.std.specs.Fmt.{decimal}
use Rattle.std.specs.List.{flat_map}
use Rattle.run_model.specs.Replies.{Answer, answer_text}

-- an answer to a line, a note that a slot was lost, or the line of the run's status
pub data Piece : Type 0 where
  Answered : (answer : Answer) → Piece
  Note : (slot : ℕ) → Piece
  LastLine : (line : List ℕ) → Piece

abbrev pub piece_text : Piece → List ℕ
piece_text (Answered answer) = answer_text answer
piece_text (Note slot) = codes "lost " ++ (decimal slot ++ 10 ∷ [])
piece_text (LastLine line) = line

-- some pieces, one after another
abbrev pub pieces_text : List Piece → List ℕ
pieces_text pieces = flat_map piece_text pieces

-- the text of the first of some pieces, if there is one
abbrev pub first_text : List Piece → List ℕ
first_text [] = []
first_text (piece ∷ pieces) = piece_text piece

-- some first bytes of pieces are some whole ones, and a part of the next one: nothing, or not all of it
pub record AreWholeAndAPart (pieces : List Piece) (bytes : ℕ) : Type 0 where
  pub count : ℕ
  pub part : ℕ
  pub are : take bytes (pieces_text pieces) ≡ pieces_text (take count pieces) ++ take part (first_text (drop count pieces))
  pub cut : (part ≡ 0) ⊎ (part < length (first_text (drop count pieces)))

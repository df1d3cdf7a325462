-- Fields of a line. Source: this project.
use Rattle.std.specs.Prelude.{◌≡◌, ◌≢◌, ◌≤◌, ◌==◌, ℕ, List, [], ◌∷◌, length}
use Rattle.std.specs.List.{slice_split, join_with_byte, All, AllByRecursion}

-- the pieces between single spaces; there is always one more of them than there are spaces
abbrev pub fields : List ℕ → List (List ℕ)
fields line = slice_split (λ b. b == 32) line

-- no byte of a piece is a space
abbrev pub HasNoSpace : List ℕ → Type 0
HasNoSpace piece = All (λ b. b ≢ 32) piece

-- pieces without a space that are the line if a space is put between each two
pub record StandApart (line : List ℕ) (pieces : List (List ℕ)) : Type 0 where
  pub some : 1 ≤ length pieces
  pub unbroken : AllByRecursion HasNoSpace pieces
  pub whole : join_with_byte 32 pieces ≡ line

-- a field and the space before it, or nothing if the field is left out
abbrev pub optional_field : List ℕ → List ℕ
optional_field [] = []
optional_field (b ∷ bytes) = 32 ∷ b ∷ bytes

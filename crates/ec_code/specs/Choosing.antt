-- The rows of a set of positions. Source: this project.
use Rattle.std.specs.Prelude.{◌≡◌, ◌<◌, ◌≤◌, ℕ, List, length, slice_index}
use Rattle.ec_model.specs.Rows.{entry_at}
use Rattle.ec_model.specs.Codes.{CodeRows, HasPosition}
use Rattle.ec_matrix.specs.Matrix.{Matrix, HasSize}

-- the rows of those of the first `count` positions that the set has, and zeros elsewhere
pub record ChoosesBelow (code : CodeRows) (from count : ℕ) (m : Matrix) : Type 0 where
  pub size : HasSize m code.n code.k
  pub inside : (q j : ℕ) → q < count → j < code.k → HasPosition from q → entry_at m.rows q j ≡ entry_at code.rows q j
  pub outside : (q j : ℕ) → (HasPosition from q → ⊥) → entry_at m.rows q j ≡ 0
  pub above : (q j : ℕ) → count ≤ q → entry_at m.rows q j ≡ 0

-- a matrix of n rows of k bytes: the rows of a set at their places, and zeros elsewhere
abbrev pub IsChosen : CodeRows → ℕ → Matrix → Type 0
IsChosen code from m = ChoosesBelow code from code.n m

-- 16 coefficients on a set, and 0 elsewhere
pub record IsMasked (from : ℕ) (coefficients kept : List ℕ) : Type 0 where
  pub long : length kept ≡ 16
  pub inside : (q : ℕ) → q < 16 → HasPosition from q → slice_index kept q ≡ slice_index coefficients q
  pub outside : (q : ℕ) → q < 16 → (HasPosition from q → ⊥) → slice_index kept q ≡ 0

-- Rows and columns of 16 bytes. Source: this project.
use Rattle.std.specs.Prelude.{◌≡◌, ◌<◌, ◌≤◌, ◌^◌, ℕ, List, length, slice_index}

-- the first bytes of a line, and 0 past them
pub record IsFront (line front : List ℕ) (count : ℕ) : Type 0 where
  pub long : length front ≡ 16
  pub bytes : (j : ℕ) → slice_index front j < 2 ^ 8
  pub first : (j : ℕ) → j < count → slice_index front j ≡ slice_index line j
  pub past : (j : ℕ) → count ≤ j → slice_index front j ≡ 0

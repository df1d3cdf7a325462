-- Matrices over the field of 256 elements. Source: this project. An entry is a byte.
use Rattle.std.specs.Prelude.{◌≡◌, ◌^◌, ◌<◌, ◌≤◌, ℕ, List, length}
use Rattle.ec_model.specs.Rows.{row_at, entry_at}

-- a matrix: the number of its rows, the number of its columns, and 16 rows of 16 bytes
pub record Matrix : Type 0 where
  pub height : ℕ
  pub width : ℕ
  pub rows : List (List ℕ)

-- what holds of each matrix: past its rows and its columns the entries are 0
pub record IsMatrix (m : Matrix) : Type 0 where
  pub low : m.height ≤ 16
  pub narrow : m.width ≤ 16
  pub count : length m.rows ≡ 16
  pub long : (r : ℕ) → r < 16 → length (row_at m.rows r) ≡ 16
  pub bytes : (r c : ℕ) → entry_at m.rows r c < 2 ^ 8
  pub below : (r c : ℕ) → m.height ≤ r → entry_at m.rows r c ≡ 0
  pub beside : (r c : ℕ) → m.width ≤ c → entry_at m.rows r c ≡ 0

-- the numbers of rows and of columns
pub record HasSize (m : Matrix) (height width : ℕ) : Type 0 where
  pub high : m.height ≡ height
  pub wide : m.width ≡ width

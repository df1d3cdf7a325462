-- Whether some rows make another row. Source: this project. Coefficients, rows and columns are lists of 16 bytes.
use Rattle.std.specs.Prelude.{◌≡◌, ◌≢◌, ◌<◌, ◌≤◌, ◌^◌, ℕ, List, length, slice_index}
use Rattle.ec_model.specs.Field.{field_product}
use Rattle.ec_model.specs.Rows.{dot, sum_below, row_at, entry_at}
use Rattle.ec_matrix.specs.Matrix.{Matrix}

-- entry j of the sum of the first `count` rows, each times its coefficient
abbrev pub combined_entry : List (List ℕ) → ℕ → List ℕ → ℕ → ℕ
combined_entry rows count coefficients j =
    sum_below count (λ r. field_product (slice_index coefficients r) (entry_at rows r j))

-- 16 coefficients, 0 past the rows, by which the rows of a matrix sum up to the wanted row
pub record CombinesTo (m : Matrix) (wanted coefficients : List ℕ) : Type 0 where
  pub long : length coefficients ≡ 16
  pub bytes : (r : ℕ) → slice_index coefficients r < 2 ^ 8
  pub past : (r : ℕ) → m.height ≤ r → slice_index coefficients r ≡ 0
  pub makes : (j : ℕ) → j < m.width → combined_entry m.rows m.height coefficients j ≡ slice_index wanted j

-- a column of 16 bytes, 0 past the width, that is 0 on each row of a matrix and not 0 on the wanted row
pub record TellsApart (m : Matrix) (wanted column : List ℕ) : Type 0 where
  pub long : length column ≡ 16
  pub bytes : (j : ℕ) → slice_index column j < 2 ^ 8
  pub past : (j : ℕ) → m.width ≤ j → slice_index column j ≡ 0
  pub zero : (r : ℕ) → r < m.height → dot m.width (row_at m.rows r) column ≡ 0
  pub nonzero : dot m.width wanted column ≢ 0

-- 16 coefficients, 0 from `count` on, by which the first rows sum up to a row of 16 bytes
pub record Makes (rows : List (List ℕ)) (count : ℕ) (wanted coefficients : List ℕ) : Type 0 where
  pub long : length coefficients ≡ 16
  pub bytes : (r : ℕ) → slice_index coefficients r < 2 ^ 8
  pub past : (r : ℕ) → count ≤ r → slice_index coefficients r ≡ 0
  pub makes : (j : ℕ) → j < 16 → combined_entry rows count coefficients j ≡ slice_index wanted j

-- Codes that are tables. Source: this project.
use Rattle.std.specs.Prelude.{◌≡◌, ◌<◌, ◌^◌, ℕ, List, length}
use Rattle.ec_model.specs.Rows.{row_at, entry_at}
use Rattle.ec_model.specs.Codes.{CodeRows}

-- the code of some rows and data positions
abbrev pub code_of : ℕ → ℕ → ℕ → List (List ℕ) → List ℕ → CodeRows
code_of k n lead rows places = record { k = k; n = n; lead = lead; rows = rows; places = places }

-- 16 rows of 16 bytes
pub record AreFullRows (rows : List (List ℕ)) : Type 0 where
  pub count : length rows ≡ 16
  pub long : (p : ℕ) → p < 16 → length (row_at rows p) ≡ 16
  pub bytes : (p j : ℕ) → entry_at rows p j < 2 ^ 8

-- Codes that are alike. Source: this project.
use Rattle.std.specs.Prelude.{◌≡◌, ◌<◌, ℕ, slice_index}
use Rattle.ec_model.specs.Rows.{entry_at}
use Rattle.ec_model.specs.Codes.{CodeRows}

-- two codes have the same numbers, the same rows and the same data positions
pub record AreAlike (one other : CodeRows) : Type 0 where
  pub data_chunks : one.k ≡ other.k
  pub positions : one.n ≡ other.n
  pub divisor : one.lead ≡ other.lead
  pub rows : (p j : ℕ) → p < one.n → j < one.k → entry_at one.rows p j ≡ entry_at other.rows p j
  pub places : (j : ℕ) → j < one.k → slice_index one.places j ≡ slice_index other.places j

-- The code shec. Source: Ceph's plugin shec with its technique single: the rows of reed_sol_van, but each coding row leaves some
-- data chunks out. The columns that it leaves out are a window. The window goes round from the last column to column 0.
use Rattle.std.specs.Prelude.{◌≡◌, ◌⊎◌, ◌+◌, ◌*◌, ◌/◌, ◌%◌, ◌<◌, ◌≤◌, ℕ, slice_index}
use Rattle.ec_model.specs.Rows.{entry_at, unit_entry}
use Rattle.ec_model.specs.Codes.{CodeRows}
use Rattle.ec_model.specs.ReedSolVan.{IsCodingEntry}

-- column j lies in the window from `start` up to `end`, `end` excluded; if both are equal no column does
abbrev pub IsInWindow : ℕ → ℕ → ℕ → Type 0
IsInWindow start end j = ((start ≤ j) × (j < end)) ⊎ ((end < start) × ((start ≤ j) ⊎ (j < end)))

-- the column where the window of coding row r begins, of k columns and m coding rows with the number c, and the column where it ends
abbrev pub window_start : ℕ → ℕ → ℕ → ℕ → ℕ
window_start k m c r = ((r + c) * k / m) % k

abbrev pub window_end : ℕ → ℕ → ℕ → ℕ
window_end k m r = (r * k / m) % k

-- coding row r leaves data chunk j out
abbrev pub IsLeftOut : ℕ → ℕ → ℕ → ℕ → ℕ → Type 0
IsLeftOut k m c r j = IsInWindow (window_start k m c r) (window_end k m r) j

-- e is the entry of coding row r at column j: 0 if the row leaves it out, else that of reed_sol_van
pub record IsShecEntry (k m c r j e : ℕ) : Type 0 where
  pub left_out : IsLeftOut k m c r j → e ≡ 0
  pub others : (IsLeftOut k m c r j → ⊥) → IsCodingEntry k m r j e

-- the code with k data chunks, m coding chunks and the number c; the data chunks stand first
pub record IsShec (k m c : ℕ) (code : CodeRows) : Type 0 where
  pub data_chunks : code.k ≡ k
  pub positions : code.n ≡ k + m
  pub divisor : code.lead ≡ k
  pub places : (j : ℕ) → j < k → slice_index code.places j ≡ j
  pub units : (i j : ℕ) → i < k → j < k → entry_at code.rows i j ≡ unit_entry i j
  pub coding : (r j : ℕ) → r < m → j < k → IsShecEntry k m c r j (entry_at code.rows (k + r) j)

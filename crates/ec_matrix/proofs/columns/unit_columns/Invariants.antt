use Rattle.std.proofs.Common.{◌≡◌, ℕ, ◌<◌, get_or, length}
use Rattle.ec_matrix.specs.Columns.{column_at}
use Rattle.ec_model.specs.Rows.{unit_entry}
use Rattle.ec_matrix.proofs.columns.unit_columns.Given as goal

abbrev pub invariant-loop-i : goal.invariant-loop-i
invariant-loop-i l = (length l.columns ≡ 16) × ((i j : ℕ) → i < l.i → j < 16 → get_or (column_at l.columns i) j 0 ≡ unit_entry i j)

use Rattle.std.proofs.Common.{◌≡◌, ℕ, ◌<◌, get_or, length}
use Rattle.ec_model.specs.Rows.{unit_entry}
use Rattle.ec_matrix.proofs.lines.unit_column.Given as goal

abbrev pub invariant-loop-j : goal.invariant-loop-j
invariant-loop-j l = (length l.column ≡ 16) × ((j : ℕ) → j < l.j → get_or l.column j 0 ≡ unit_entry l.i j)

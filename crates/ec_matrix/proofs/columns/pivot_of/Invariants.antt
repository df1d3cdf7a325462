use Rattle.std.proofs.Common.{◌≡◌, ℕ, ◌<◌, None}
use Rattle.ec_model.specs.Rows.{dot}
use Rattle.ec_matrix.specs.Columns.{column_at, owner}
use Rattle.ec_matrix.proofs.columns.pivot_of.Given as goal

abbrev pub invariant-loop-i : goal.invariant-loop-i
invariant-loop-i l = (i : ℕ) → i < l.i → owner l.owners i ≡ None → dot 16 l.row (column_at l.columns i) ≡ 0

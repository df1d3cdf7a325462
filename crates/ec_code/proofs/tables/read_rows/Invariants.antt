use Rattle.std.proofs.Common.{◌≡◌, ◌<◌, ◌^◌, ℕ, length}
use Rattle.ec_model.specs.Rows.{row_at, entry_at}
use Rattle.ec_code.proofs.tables.read_rows.Given as goal

abbrev pub invariant-loop-p : goal.invariant-loop-p
invariant-loop-p l = ((p : ℕ) → p < l.p → length (row_at l.rows p) ≡ 16) × ((p j : ℕ) → p < l.p → entry_at l.rows p j < 2 ^ 8)

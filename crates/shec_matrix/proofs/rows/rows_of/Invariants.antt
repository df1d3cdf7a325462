use Rattle.std.proofs.Common.{◌≡◌, ◌<◌, ◌+◌, ℕ, length}
use Rattle.ec_model.specs.Rows.{unit_entry, entry_at}
use Rattle.ec_model.specs.Shec.{IsShecEntry}
use Rattle.shec_matrix.proofs.rows.rows_of.Given as goal

abbrev pub invariant-loop-r : goal.invariant-loop-r
invariant-loop-r l = (length l.rows ≡ 16) × ((i j : ℕ) → i < l.k → j < l.k → entry_at l.rows i j ≡ unit_entry i j)
    × ((r j : ℕ) → r < l.r → j < l.k → IsShecEntry l.k l.m l.c r j (entry_at l.rows (l.k + r) j))

use Rattle.std.proofs.Common.{◌≡◌, ◌<◌, ◌+◌, ℕ, length}
use Rattle.ec_model.specs.Rows.{unit_entry, entry_at}
use Rattle.ec_model.specs.ReedSolVan.{IsCodingEntry}
use Rattle.rs_van.proofs.rows.rows_of.Given as goal

abbrev pub invariant-loop-r : goal.invariant-loop-r
invariant-loop-r l = (length l.rows ≡ 16) × ((i j : ℕ) → i < l.k → j < l.k → entry_at l.rows i j ≡ unit_entry i j)
    × ((r j : ℕ) → r < l.r → j < l.k → IsCodingEntry l.k l.m r j (entry_at l.rows (l.k + r) j))

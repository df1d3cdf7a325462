use Rattle.std.proofs.Common.{◌≡◌, ◌<◌, ℕ, get_or}
use Rattle.ec_model.specs.Rows.{unit_entry, entry_at}
use Rattle.table_code.proofs.table.is_code.Given as goal

abbrev pub invariant-loop-i : goal.invariant-loop-i
invariant-loop-i l =
    (i : ℕ) → i < l.i → (get_or l.places i 0 < l.shape.n) × ((j : ℕ) → j < l.shape.k → entry_at l.rows (get_or l.places i 0) j ≡ unit_entry i j)

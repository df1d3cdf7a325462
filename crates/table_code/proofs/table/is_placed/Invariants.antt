use Rattle.std.proofs.Common.{◌≡◌, ◌<◌, ℕ, get_or}
use Rattle.ec_model.specs.Rows.{unit_entry}
use Rattle.table_code.proofs.table.is_placed.Given as goal

abbrev pub invariant-loop-j : goal.invariant-loop-j
invariant-loop-j l = (j : ℕ) → j < l.j → get_or l.row j 0 ≡ unit_entry l.i j

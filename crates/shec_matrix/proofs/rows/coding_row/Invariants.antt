use Rattle.std.proofs.Common.{◌≡◌, ◌<◌, ℕ, length, get_or}
use Rattle.ec_model.specs.Shec.{IsShecEntry}
use Rattle.shec_matrix.proofs.rows.coding_row.Given as goal

abbrev pub invariant-loop-j : goal.invariant-loop-j
invariant-loop-j l = (length l.row ≡ 16) × ((j : ℕ) → j < l.j → IsShecEntry l.k l.m l.c l.r j (get_or l.row j 0))

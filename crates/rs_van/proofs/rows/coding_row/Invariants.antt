use Rattle.std.proofs.Common.{◌≡◌, ◌<◌, ℕ, length, get_or}
use Rattle.ec_model.specs.ReedSolVan.{IsCodingEntry}
use Rattle.rs_van.proofs.rows.coding_row.Given as goal

abbrev pub invariant-loop-j : goal.invariant-loop-j
invariant-loop-j l = (length l.row ≡ 16) × ((j : ℕ) → j < l.j → IsCodingEntry l.k l.m l.r j (get_or l.row j 0))

use Rattle.std.proofs.Common.{◌≡◌, ◌<◌, ℕ, length, slice_index}
use Rattle.ec_model.specs.Codes.{Combines}
use Rattle.ec_model.specs.Rows.{row_at}
use Rattle.stripe_map.proofs.combining.data_rows.Given as goal

abbrev pub invariant-loop-j : goal.invariant-loop-j
invariant-loop-j g l =
    let code = (goal.Code-dyn g l.code.now).meaning l.code.now.1 in
    (length l.rows ≡ 16) × ((j : ℕ) → j < l.j → Combines code l.from.0 (slice_index code.places j) (row_at l.rows j))

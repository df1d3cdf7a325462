use Rattle.std.proofs.Common.{◌≡◌, ◌≢◌, ℕ, ◌<◌, ◌≤◌, List, bit_xor}
use Rattle.ec_model.specs.Field.{field_product}
use Rattle.ec_model.specs.Rows.{dot}
use Rattle.ec_matrix.specs.Columns.{column_at}
use Rattle.ec_matrix.proofs.columns.clear.Given as goal

abbrev pub invariant-loop-i : goal.invariant-loop-i
invariant-loop-i l =
    (column_at l.columns l.pivot ≡ column_at l.fn.columns l.pivot)
    × ((k : ℕ) → l.i ≤ k → column_at l.columns k ≡ column_at l.fn.columns k)
    × ((k : ℕ) (x : List ℕ) → k < l.i → k ≢ l.pivot → dot 16 x (column_at l.columns k)
    ≡ bit_xor (dot 16 x (column_at l.fn.columns k)) (field_product (dot 16 l.row (column_at l.fn.columns k)) (dot 16 x (column_at l.fn.columns l.pivot))))

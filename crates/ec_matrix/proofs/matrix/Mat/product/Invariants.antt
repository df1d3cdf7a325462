use Rattle.std.proofs.Common.{◌≡◌, ℕ, ◌<◌, length}
use Rattle.ec_model.specs.Field.{field_product}
use Rattle.ec_model.specs.Rows.{sum_below, row_at, entry_at}
use Rattle.ec_matrix.proofs.matrix.Mat.product.Given as goal

abbrev pub invariant-loop-r : goal.invariant-loop-r
invariant-loop-r l =
    record {
      count : length l.rows ≡ 16;
      long : (r : ℕ) → r < l.r → length (row_at l.rows r) ≡ 16;
      sums : (r c : ℕ) → r < l.r → c < 16 → entry_at l.rows r c
          ≡ sum_below 16 (λ j. field_product (entry_at l.self-inside.rows r j) (entry_at l.other-inside.rows j c));
    }

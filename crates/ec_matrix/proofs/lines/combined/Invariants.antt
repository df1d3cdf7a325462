use Rattle.std.proofs.Common.{◌≡◌, ℕ, ◌<◌, get_or, length}
use Rattle.ec_model.specs.Field.{field_product}
use Rattle.ec_model.specs.Rows.{sum_below, entry_at}
use Rattle.ec_matrix.proofs.lines.combined.Given as goal

abbrev pub invariant-loop-t : goal.invariant-loop-t
invariant-loop-t l =
    (length l.sum ≡ 16)
    × ((k : ℕ) → k < 16 → get_or l.sum k 0 ≡ sum_below l.t (λ t. field_product (get_or l.coefficients t 0) (entry_at l.rows t k)))

use Rattle.std.proofs.Common.{◌≡◌, ◌<◌, ℕ, length, get_or}
use Rattle.ec_model.specs.Field.{field_product}
use Rattle.ec_model.specs.Rows.{sum_below, entry_at}
use Rattle.lrc_layers.proofs.rows.combined.Given as goal

abbrev pub invariant-loop-j : goal.invariant-loop-j
invariant-loop-j l =
    (length l.sum ≡ 16)
    × ((i : ℕ) → i < l.j → get_or l.sum i 0 ≡ sum_below l.n (λ q. field_product (get_or l.coefficients q 0) (entry_at l.rows q i)))

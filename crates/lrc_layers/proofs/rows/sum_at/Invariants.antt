use Rattle.std.proofs.Common.{◌≡◌, get_or}
use Rattle.ec_model.specs.Field.{field_product}
use Rattle.ec_model.specs.Rows.{sum_below, entry_at}
use Rattle.lrc_layers.proofs.rows.sum_at.Given as goal

abbrev pub invariant-loop-q : goal.invariant-loop-q
invariant-loop-q l =
    l.sum ≡ sum_below l.q (λ q. field_product (get_or l.coefficients q 0) (entry_at l.rows q l.j))

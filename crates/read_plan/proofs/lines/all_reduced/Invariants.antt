use Rattle.std.proofs.Common.{◌≡◌, ℕ, ◌<◌, length, get_or, bit_xor}
use Rattle.ec_model.specs.Field.{field_product}
use Rattle.ec_model.specs.Rows.{entry_at}
use Rattle.ec_model.specs.Codes.{HasPosition}
use Rattle.read_plan.proofs.lines.all_reduced.Given as goal

abbrev pub invariant-loop-p : goal.invariant-loop-p
invariant-loop-p l =
    (length l.left ≡ 16)
    × ((p j : ℕ) → p < l.p → j < 16 → HasPosition l.needed.0 p → entry_at l.left p j ≡ bit_xor (entry_at l.rows p j) (field_product (entry_at l.rows p l.lead) (get_or l.row j 0)))

use Rattle.std.proofs.Common.{◌≡◌, ℕ, ◌<◌, ◌%◌, get_or, length}
use Rattle.ec_model.specs.Field.{field_product}
use Rattle.gf256.proofs.lanes.table_of.Given as goal

abbrev pub invariant-loop-i : goal.invariant-loop-i
invariant-loop-i l = (length l.all ≡ 32) × ((k : ℕ) → k < l.i → get_or l.all k 0 ≡ field_product l.factor (k % 16))

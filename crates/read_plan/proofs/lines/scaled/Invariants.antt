use Rattle.std.proofs.Common.{◌≡◌, ℕ, ◌<◌, get_or, length}
use Rattle.ec_model.specs.Field.{field_product}
use Rattle.read_plan.proofs.lines.scaled.Given as goal

abbrev pub invariant-loop-j : goal.invariant-loop-j
invariant-loop-j l = (length l.multiple ≡ 16) × ((k : ℕ) → k < l.j → get_or l.multiple k 0 ≡ field_product l.by (get_or l.row k 0))

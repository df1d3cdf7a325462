use Rattle.std.proofs.Common.{◌≡◌, ℕ, ◌<◌, ◌≤◌, get_or, length}
use Rattle.ec_model.specs.Field.{field_product}
use Rattle.ec_matrix.proofs.lines.scale.Given as goal

abbrev pub invariant-loop-j : goal.invariant-loop-j
invariant-loop-j l =
    (length l.column ≡ 16) × ((k : ℕ) → k < l.j → get_or l.column k 0 ≡ field_product l.by (get_or l.fn.column k 0))
    × ((k : ℕ) → l.j ≤ k → get_or l.column k 0 ≡ get_or l.fn.column k 0)

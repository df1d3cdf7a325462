use Rattle.std.proofs.Common.{◌≡◌, ℕ, ◌<◌, ◌≤◌, get_or, length, bit_xor}
use Rattle.ec_model.specs.Field.{field_product}
use Rattle.read_plan.proofs.lines.add_times.Given as goal

abbrev pub invariant-loop-j : goal.invariant-loop-j
invariant-loop-j l =
    (length l.line ≡ 16) × ((k : ℕ) → k < l.j → get_or l.line k 0 ≡ bit_xor (get_or l.fn.line k 0) (field_product l.by (get_or l.row k 0)))
    × ((k : ℕ) → l.j ≤ k → get_or l.line k 0 ≡ get_or l.fn.line k 0)

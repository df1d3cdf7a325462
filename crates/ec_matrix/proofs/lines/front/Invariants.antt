use Rattle.std.proofs.Common.{◌≡◌, ℕ, ◌<◌, ◌≤◌, ◌^◌, get_or, length}
use Rattle.ec_matrix.proofs.lines.front.Given as goal

abbrev pub invariant-loop-j : goal.invariant-loop-j
invariant-loop-j l =
    (length l.copy ≡ 16) × ((k : ℕ) → get_or l.copy k 0 < 2 ^ 8) × ((k : ℕ) → k < l.j → get_or l.copy k 0 ≡ get_or l.line k 0)
    × ((k : ℕ) → l.j ≤ k → get_or l.copy k 0 ≡ 0)

use Rattle.std.proofs.Common.{◌≡◌, ◌<◌, ◌≤◌, ℕ, length, get_or}
use Rattle.ec_code.proofs.layouts.front.Given as goal

abbrev pub invariant-loop-i : goal.invariant-loop-i
invariant-loop-i l =
    (length l.first ≡ 16)
    × ((k : ℕ) → k < l.i → get_or l.first k 0 ≡ get_or l.text k 0)
    × ((k : ℕ) → l.i ≤ k → get_or l.first k 0 ≡ 0)

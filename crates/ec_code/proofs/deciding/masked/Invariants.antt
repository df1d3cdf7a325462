use Rattle.std.proofs.Common.{◌≡◌, ◌<◌, ◌≤◌, ℕ, length, get_or}
use Rattle.ec_model.specs.Codes.{HasPosition}
use Rattle.ec_code.proofs.deciding.masked.Given as goal

abbrev pub invariant-loop-q : goal.invariant-loop-q
invariant-loop-q l =
    (length l.kept ≡ 16)
    × ((q : ℕ) → q < l.q → HasPosition l.from.0 q → get_or l.kept q 0 ≡ get_or l.coefficients q 0)
    × ((q : ℕ) → (HasPosition l.from.0 q → ⊥) → get_or l.kept q 0 ≡ 0)
    × ((q : ℕ) → l.q ≤ q → get_or l.kept q 0 ≡ 0)

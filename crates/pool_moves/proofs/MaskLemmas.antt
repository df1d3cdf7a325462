-- Masks of positions.
use Rattle.std.proofs.Common.{◌≡◌, ◌<◌, ◌-◌, ◌^◌, ℕ, zero, suc, bit_and, refl, arith}
use Rattle.std.proofs.lemmas.Bool.{eqb-true}
use Rattle.std.proofs.lemmas.Nat.{and_le_r, pow_pos}
use Rattle.std.proofs.lemmas.Nat.Bits.{bit_at-zero, bit_at_ones}
use Rattle.ec_model.specs.Codes.{HasPosition, count_below}
use Rattle.map_model.proofs.PositionLemmas.{inside_by}

-- a mask whose positions all lie below n does so
pub positions_below : (mask n : ℕ) → ((p : ℕ) → HasPosition mask p → p < n) → mask < 2 ^ n
positions_below mask n below =
    let is = eqb-true (bit_and mask (2 ^ n - 1)) mask ((inside_by mask (2 ^ n - 1)).1 (λ p member. bit_at_ones n p (below p member))) in
    let le = and_le_r mask (2 ^ n - 1) in
    let some : 0 < 2 ^ n = pow_pos n in
    omega (arith, is, le, some)

none_counted : (n : ℕ) → count_below 0 n ≡ 0
none_counted zero = refl
none_counted (suc n) = let bit = bit_at-zero n in let rest = none_counted n in omega (arith, bit, rest)

-- a mask with a position is not 0
pub some_counted : (mask n : ℕ) → 0 < count_below mask n → 0 < mask
some_counted zero n some = let none = none_counted n in omega (arith, none, some)
some_counted (suc mask) n some = omega arith

-- Positions of masks.
use Rattle.std.proofs.Common.{◌≡◌, ◌↔◌, ◌≤◌, ◌<◌, ◌+◌, ◌^◌, ℕ, zero, suc, bit_and, ap, sym, ◌∙◌, arith}
use Rattle.std.specs.Int.{bit_at}
use Rattle.std.proofs.lemmas.Nat.{and_le_l}
use Rattle.std.proofs.lemmas.Nat.Bits.{bit_at-lt, bit_at_and}
use Rattle.ec_model.specs.Codes.{HasPosition, LiesBelow, count_below}

-- a position is in both of two masks
pub has_both : (one other p : ℕ) → HasPosition (bit_and one other) p ↔ (HasPosition one p × HasPosition other p)
has_both one other p =
    let both = bit_at_and one other p in
    let few = bit_at-lt one p in
    let less = bit_at-lt other p in
    (λ has. (omega (arith, both, few, less, has), omega (arith, both, few, less, has)), λ has. let a = has.0 in let b = has.1 in omega (arith, both, a, b))

pub both_below : (n one other : ℕ) → LiesBelow n one → LiesBelow n (bit_and one other)
both_below n one other below = let le = and_le_l one other in omega (arith, le, below)

-- one position more
pub one_counted : (mask p : ℕ) → count_below mask (p + 1) ≡ count_below mask p + bit_at mask p
one_counted mask p = let next : p + 1 ≡ suc p = omega arith in let is : count_below mask (p + 1) ≡ count_below mask (suc p) = ap (count_below mask) next in omega (arith, is)

pub few_counted : (mask n : ℕ) → count_below mask n ≤ n
few_counted mask zero = omega arith
few_counted mask (suc n) = let bit = bit_at-lt mask n in let rest = few_counted mask n in omega (arith, bit, rest)

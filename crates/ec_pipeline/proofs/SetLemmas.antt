-- Positions of a set.
use Rattle.std.proofs.Common.{◌≡◌, ℕ, ◌<◌, ◌≤◌, ◌^◌, inl, inr, arith, subst}
use Rattle.std.proofs.lemmas.Bool.{cases_eq, cases_lt}
use Rattle.std.proofs.lemmas.Nat.Bits.{bit_at_above}
use Rattle.std.proofs.Math.Pow.{pow-lt}
use Rattle.ec_model.specs.Codes.{HasPosition}

-- a set below 2 ^ n has positions below n only
pub position_below : (n set p : ℕ) → set < 2 ^ n → HasPosition set p → p < n
position_below n set p fits has = elim (cases_lt p n) [
  | inl lt ↦ lt
  | inr high ↦ absurd (omega (arith, has, bit_at_above set n p fits high))
]

-- a set of positions below n, if n is 16 at most
pub below_16 : (n set : ℕ) → n ≤ 16 → set < 2 ^ n → set < 2 ^ 16
below_16 n set few lt = elim (cases_eq n 16) [
  | inl e ↦ subst (λ k. set < 2 ^ k) e lt
  | inr ne ↦ let small : n < 16 = less ne in omega (arith, lt, pow-lt small)
]
  where
    less : (n ≡ 16 → ⊥) → n < 16
    less ne = grind arith

-- The set of the first values of a function, one value after another.
use Rattle.std.proofs.Common.{◌≡◌, ◌<◌, ◌+◌, ◌*◌, ◌%◌, ◌^◌, ◌↔◌, ℕ, bit_or, ap, sym, ◌∙◌, arith, inl, inr}
use Rattle.std.specs.Int.{bit_at, w16}
use Rattle.std.proofs.lemmas.Bool.{cases_eq}
use Rattle.std.proofs.lemmas.Nat.Bits.{bit_at-zero, bit_at_set_same, bit_at_set_other}
use Rattle.ec_model.specs.Codes.{HasPosition}

-- the first `count` values of a function as a set of positions
abbrev pub IsSetBelow : (ℕ → ℕ) → ℕ → ℕ → Type 0
IsSetBelow f count bits = (p : ℕ) → HasPosition bits p ↔ ((j : ℕ) × ((j < count) × (f j ≡ p)))

pub no_value : (f : ℕ → ℕ) → IsSetBelow f 0 0
no_value f p = (λ has. absurd (none p has), λ found. absurd (omega (arith, found.1.0))) where
  none : (q : ℕ) → HasPosition 0 q → ⊥
  none q has = let z = bit_at-zero q in omega arith

pub one_value_more : (f : ℕ → ℕ) (bits count p : ℕ) → p < 16 → p ≡ f count → IsSetBelow f count bits → IsSetBelow f (count + 1) (bit_or bits (1 * 2 ^ p % 2 ^ 16))
one_value_more f bits count p lt is so_far q = (there, has) where
  there : HasPosition (bit_or bits (1 * 2 ^ p % 2 ^ 16)) q → (j : ℕ) × ((j < count + 1) × (f j ≡ q))
  there has = elim (cases_eq q p) [
    | inl e ↦ (count, (omega arith, sym is ∙ sym e))
    | inr ne ↦ let old = (so_far q).0 (sym (bit_at_set_other w16 bits p lt q ne) ∙ has) in (old.0, (omega (arith, old.1.0), old.1.1))
  ]

  has : (j : ℕ) × ((j < count + 1) × (f j ≡ q)) → HasPosition (bit_or bits (1 * 2 ^ p % 2 ^ 16)) q
  has found = elim (cases_eq q p) [
    | inl e ↦ ap (bit_at (bit_or bits (1 * 2 ^ p % 2 ^ 16))) e ∙ bit_at_set_same w16 bits p lt
    | inr ne ↦
        let earlier : found.0 < count = elim (cases_eq found.0 count) [
          | inl e ↦ absurd (ne (sym found.1.1 ∙ ap f e ∙ sym is))
          | inr other ↦ below found.0 found.1.0 other
        ] in
        bit_at_set_other w16 bits p lt q ne ∙ (so_far q).1 (found.0, (earlier, found.1.1))
  ]
    where
      below : (k : ℕ) → k < count + 1 → (k ≡ count → ⊥) → k < count
      below k lk other = grind arith

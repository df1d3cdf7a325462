-- Sets of positions, one position after another.
use Rattle.std.proofs.Common.{◌≡◌, ◌<◌, ◌+◌, ◌*◌, ◌%◌, ◌^◌, ◌↔◌, ℕ, List, [], take, length, get_or, bit_or, ap, sym, ◌∙◌, arith, inl, inr}
use Rattle.std.specs.Int.{bit_at, w16}
use Rattle.std.proofs.lemmas.Bool.{cases_eq}
use Rattle.std.proofs.lemmas.List.{get_or-take, length-take-le}
use Rattle.std.proofs.lemmas.Nat.Bits.{bit_at-zero, bit_at_set_same, bit_at_set_other}
use Rattle.ec_model.specs.Codes.{HasPosition}
use Rattle.ec_files.specs.Chunks.{IsSetOf}

pub no_position : IsSetOf [] 0
no_position p = (λ has. absurd (none p has), λ found. absurd (omega arith)) where
  none : (q : ℕ) → HasPosition 0 q → ⊥
  none q has = let z = bit_at-zero q in omega arith

pub one_position_more : (positions : List ℕ) (bits i p : ℕ) → p < 16 → i < length positions → p ≡ get_or positions i 0 → IsSetOf (take i positions) bits
    → IsSetOf (take (i + 1) positions) (bit_or bits (1 * 2 ^ p % 2 ^ 16))
one_position_more positions bits i p lt inside is so_far q = (there, has) where
  long : length (take (i + 1) positions) ≡ i + 1
  long = length-take-le (i + 1) positions (omega arith)

  shorter : length (take i positions) ≡ i
  shorter = length-take-le i positions (omega arith)

  same : (k : ℕ) → k < i → get_or (take (i + 1) positions) k 0 ≡ get_or (take i positions) k 0
  same k lk = get_or-take (i + 1) positions k 0 (omega arith) ∙ sym (get_or-take i positions k 0 lk)

  last : get_or (take (i + 1) positions) i 0 ≡ p
  last = get_or-take (i + 1) positions i 0 (omega arith) ∙ sym is

  there : HasPosition (bit_or bits (1 * 2 ^ p % 2 ^ 16)) q → (k : ℕ) × ((k < length (take (i + 1) positions)) × (get_or (take (i + 1) positions) k 0 ≡ q))
  there has = elim (cases_eq q p) [
    | inl e ↦ (i, (omega (arith, long), last ∙ sym e))
    | inr ne ↦
        let old = (so_far q).0 (sym (bit_at_set_other w16 bits p lt q ne) ∙ has) in
        (old.0, (omega (arith, long, shorter, old.1.0), same old.0 (omega (arith, shorter, old.1.0)) ∙ old.1.1))
  ]

  has : (k : ℕ) × ((k < length (take (i + 1) positions)) × (get_or (take (i + 1) positions) k 0 ≡ q)) → HasPosition (bit_or bits (1 * 2 ^ p % 2 ^ 16)) q
  has found = elim (cases_eq q p) [
    | inl e ↦ ap (bit_at (bit_or bits (1 * 2 ^ p % 2 ^ 16))) e ∙ bit_at_set_same w16 bits p lt
    | inr ne ↦
        let earlier : found.0 < i = elim (cases_eq found.0 i) [
          | inl e ↦ absurd (ne (sym found.1.1 ∙ ap (λ k. get_or (take (i + 1) positions) k 0) e ∙ last))
          | inr other ↦ below found.0 (omega (arith, long, found.1.0)) other
        ] in
        bit_at_set_other w16 bits p lt q ne
        ∙ (so_far q).1 (found.0, (omega (arith, shorter, earlier), sym (same found.0 earlier) ∙ found.1.1))
  ]
    where
      below : (k : ℕ) → k < i + 1 → (k ≡ i → ⊥) → k < i
      below k lk other = grind arith

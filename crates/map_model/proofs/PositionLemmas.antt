-- Masks by their positions.
use Rattle.std.proofs.Common.{◌≡◌, ◌≢◌, ◌↔◌, ◌⊎◌, inl, inr, ⊎_elim, ◌==◌, ◌<◌, ◌^◌, ◌+◌, ◌*◌, ◌%◌, min, max, ℕ, true, bit_and, bit_or, bit_xor, refl, sym, ap, ◌∙◌, subst, arith}
use Rattle.std.specs.Int.{bit_at}
use Rattle.std.proofs.lemmas.Bool.{cases_eq, eqb-true}
use Rattle.std.proofs.lemmas.Bool.Decides.{nat_tests}
use Rattle.std.proofs.lemmas.Nat.Bits.{bit_at-lt, bit_at_and, bit_at_or, bit_at_xor, bit_at-pow_same, bit_at-pow_other}
use Rattle.ec_model.specs.Codes.{HasPosition}
use Rattle.ec_words.proofs.SetLemmas.{inside_by as inside_of}
use Rattle.map_model.specs.Laws.{MarksByPositions}
use Rattle.map_model.specs.States.{is_inside, with_mark}

-- a position of what two masks share is one of the second
in_second : (mask other p : ℕ) → HasPosition (bit_and mask other) p → HasPosition other p
in_second mask other p has =
    let both = bit_at_and mask other p in
    let few = bit_at-lt mask p in
    let less = bit_at-lt other p in
    omega (arith, both, few, less, has)

pub inside_by : (mask other : ℕ) → (is_inside mask other ≡ true) ↔ ((p : ℕ) → HasPosition mask p → HasPosition other p)
inside_by mask other = (
  λ inside p has. in_second mask other p (subst (λ m. HasPosition m p) (sym (eqb-true (bit_and mask other) mask inside)) has),
  λ each.
      let same = inside_of mask other each in
      grind (arith, nat_tests, same),
)

-- the mask with the slot
with_slot : (slot marks p : ℕ) → HasPosition (bit_or marks (2 ^ slot)) p ↔ ((p ≡ slot) ⊎ HasPosition marks p)
with_slot slot marks p =
    let both = bit_at_or marks (2 ^ slot) p in
    let few = bit_at-lt marks p in
    elim (cases_eq p slot) [
      | inl same ↦
          let bit : bit_at (2 ^ slot) p ≡ 1 = ap (bit_at (2 ^ slot)) same ∙ bit_at-pow_same slot in
          (λ has. inl same, λ any. omega (arith, both, bit, few))
      | inr other ↦
          let bit = bit_at-pow_other slot p other in
          (λ has. inr (omega (arith, both, bit, few, has)), λ any. ⊎_elim (λ same. absurd (other same)) (λ has. let h = has in omega (arith, both, bit, few, h)) any)
    ]

without_slot : (slot marks p : ℕ) → HasPosition (bit_xor (bit_or marks (2 ^ slot)) (2 ^ slot)) p ↔ ((p ≢ slot) × HasPosition marks p)
without_slot slot marks p =
    let whole = bit_at_xor (bit_or marks (2 ^ slot)) (2 ^ slot) p in
    let both = bit_at_or marks (2 ^ slot) p in
    let few = bit_at-lt marks p in
    elim (cases_eq p slot) [
      | inl same ↦
          let bit : bit_at (2 ^ slot) p ≡ 1 = ap (bit_at (2 ^ slot)) same ∙ bit_at-pow_same slot in
          (λ has. absurd (omega (arith, whole, both, bit, few, has)), λ found. absurd (found.0 same))
      | inr other ↦
          let bit = bit_at-pow_other slot p other in
          (λ has. (other, omega (arith, whole, both, bit, few, has)), λ found. let has = found.1 in omega (arith, whole, both, bit, few, has))
    ]

pub marks_by : (slot marks p : ℕ) → MarksByPositions slot marks p
marks_by slot marks p = record { down = with_slot slot marks p; up = without_slot slot marks p }

-- The mask of the positions that have a chunk, one position after another.
use Rattle.std.proofs.Common.{◌≡◌, ◌<◌, ◌+◌, ◌*◌, ◌%◌, ◌^◌, ◌↔◌, ℕ, List, Option, IsSome, is_some, Bool, true, false, get_or, length, ap, sym, subst, ◌∙◌, arith, inl, inr, bit_or}
use Rattle.std.specs.Int.{bit_at, w16}
use Rattle.std.proofs.lemmas.Bool.{cases_eq, cases_lt}
use Rattle.std.proofs.lemmas.List.{get_or_past, get_or_default}
use Rattle.std.proofs.lemmas.Nat.Bits.{bit_at-zero, bit_at_set_same, bit_at_set_other}
use Rattle.ec_model.specs.Codes.{HasPosition}
use Rattle.stripe_map.specs.Chunks.{chunk_of_position}

-- a mask has the positions below `count` that have a chunk, and no other
pub record HasBelow (chunks : List (Option (List ℕ))) (bits count : ℕ) : Type 0 where
  pub below : (q : ℕ) → HasPosition bits q → q < count
  pub some : (q : ℕ) → HasPosition bits q → IsSome (chunk_of_position chunks q)
  pub all : (q : ℕ) → q < count → IsSome (chunk_of_position chunks q) → HasPosition bits q

pub no_position : (chunks : List (Option (List ℕ))) → HasBelow chunks 0 0
no_position chunks = record {
  below = λ q has. absurd (none q has);
  some = λ q has. absurd (none q has);
  all = λ q lt _. absurd (omega arith);
} where
  none : (q : ℕ) → HasPosition 0 q → ⊥
  none q has = let z = bit_at-zero q in omega arith

pub one_position_more : (chunks : List (Option (List ℕ))) (bits p : ℕ) → p < 16 → IsSome (chunk_of_position chunks p) → HasBelow chunks bits p
    → HasBelow chunks (bit_or bits (1 * 2 ^ p % 2 ^ 16)) (p + 1)
one_position_more chunks bits p lt here so_far = record {
  below = λ q has. elim (cases_eq q p) [
    | inl e ↦ omega arith
    | inr ne ↦ let earlier = so_far.below q (other q ne has) in omega arith
  ];
  some = λ q has. elim (cases_eq q p) [
    | inl e ↦ subst (λ t. IsSome (chunk_of_position chunks t)) (sym e) here
    | inr ne ↦ so_far.some q (other q ne has)
  ];
  all = λ q lq is. elim (cases_eq q p) [
    | inl e ↦ ap (bit_at (bit_or bits (1 * 2 ^ p % 2 ^ 16))) e ∙ bit_at_set_same w16 bits p lt
    | inr ne ↦ bit_at_set_other w16 bits p lt q ne ∙ so_far.all q (earlier q lq ne) is
  ];
} where
  other : (q : ℕ) → (q ≡ p → ⊥) → HasPosition (bit_or bits (1 * 2 ^ p % 2 ^ 16)) q → HasPosition bits q
  other q ne has = sym (bit_at_set_other w16 bits p lt q ne) ∙ has

  earlier : (q : ℕ) → q < p + 1 → (q ≡ p → ⊥) → q < p
  earlier q lq ne = grind arith

pub no_position_more : (chunks : List (Option (List ℕ))) (bits p : ℕ) → is_some (chunk_of_position chunks p) ≡ false → HasBelow chunks bits p → HasBelow chunks bits (p + 1)
no_position_more chunks bits p here so_far = record {
  below = λ q has. let earlier = so_far.below q has in omega arith;
  some = so_far.some;
  all = λ q lq is. elim (cases_eq q p) [
    | inl e ↦ absurd (not_both (sym here ∙ ap (λ t. is_some (chunk_of_position chunks t)) (sym e) ∙ is))
    | inr ne ↦ so_far.all q (earlier q lq ne) is
  ];
} where
  earlier : (q : ℕ) → q < p + 1 → (q ≡ p → ⊥) → q < p
  earlier q lq ne = grind arith

  not_both : false ≡ true → ⊥
  not_both e = absurd (cc)

-- all positions are there
pub mask_of : (chunks : List (Option (List ℕ))) (bits count : ℕ) → length chunks ≡ count → HasBelow chunks bits count → (p : ℕ)
    → HasPosition bits p ↔ IsSome (chunk_of_position chunks p)
mask_of chunks bits count long has p = (
  has.some p,
  λ is. elim (cases_lt p count) [
    | inl lt ↦ has.all p lt is
    | inr ge ↦ absurd (none_there (sym (ap is_some (get_or_past chunks p _ (omega arith))) ∙ is))
  ],
)
  where
    none_there : false ≡ true → ⊥
    none_there e = absurd (cc)

-- the test of a read inside the list
pub some_there : (chunks : List (Option (List ℕ))) (p : ℕ) (d : Option (List ℕ)) (r b : Bool) → p < length chunks → r ≡ is_some (get_or chunks p d) → r ≡ b
    → is_some (chunk_of_position chunks p) ≡ b
some_there chunks p d r b lt is test = ap is_some (get_or_default chunks p _ d lt) ∙ sym is ∙ test

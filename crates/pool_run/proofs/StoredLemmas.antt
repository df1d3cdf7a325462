-- The chunks of an object's positions, as they are made and as they are read.
use Rattle.std.proofs.Common.{◌≡◌, ◌<◌, ◌+◌, ◌-◌, ◌^◌, ℕ, List, Option, Some, None, is_some, true, sym, ap, subst, ◌∙◌, arith, inl, inr}
use Rattle.std.proofs.lemmas.Bool.{cases_eq, cases_lt}
use Rattle.std.proofs.lemmas.Nat.{pow_pos}
use Rattle.std.proofs.lemmas.Nat.Bits.{bit_at_ones, bit_at_ones_above}
use Rattle.ec_model.specs.Codes.{CodeRows, IsCode, HasPosition, IsPositionList}
use Rattle.stripe_map.specs.Chunks.{chunk_of_position, KeepsOthers}
use Rattle.stripe_map.specs.Decoding.{IsMaskOf, HaveMaskBelow, DecideData, ArePositionLists}
use Rattle.pool_run.specs.Stored.{HaveChunksBelow}

-- the lists of exactly the positions below `count` are there
pub record ListsBelow (code : CodeRows) (unit : ℕ) (bytes : List ℕ) (chunks : List (Option (List ℕ))) (count : ℕ) : Type 0 where
  pub lists : ArePositionLists code unit chunks bytes
  pub positions : HaveChunksBelow chunks count

none_there : {X : Type 0} → is_some {T = List ℕ} None ≡ true → X
none_there e = absurd (cc)

pub no_lists : (code : CodeRows) (unit : ℕ) (bytes : List ℕ) (chunks : List (Option (List ℕ))) → ((p : ℕ) → chunk_of_position chunks p ≡ None) → ListsBelow code unit bytes chunks 0
no_lists code unit bytes chunks none = record {
  lists = λ p chunk _ here. none_there (sym (ap is_some (none p)) ∙ ap is_some here);
  positions = λ p. (λ here. none_there (sym (ap is_some (none p)) ∙ here), λ lt. absurd (omega arith));
}

-- one position more
pub one_list_more : (code : CodeRows) (unit : ℕ) (bytes : List ℕ) (old new : List (Option (List ℕ))) (p : ℕ) (chunk : List ℕ) → ListsBelow code unit bytes old p
    → chunk_of_position new p ≡ Some chunk → KeepsOthers old new p → IsPositionList code unit bytes p chunk → ListsBelow code unit bytes new (p + 1)
one_list_more code unit bytes old new p chunk so_far set others is = record {
  lists = λ q other lt here. elim (cases_eq q p) [
    | inl e ↦
        let same : Some chunk ≡ Some other = sym set ∙ ap (chunk_of_position new) (sym e) ∙ here in
        let one : chunk ≡ other = cc in
        subst (λ t. IsPositionList code unit bytes t other) (sym e) (subst (IsPositionList code unit bytes p) one is)
    | inr ne ↦ so_far.lists q other lt (sym (others q ne) ∙ here)
  ];
  positions = λ q. (
    λ here. elim (cases_eq q p) [
      | inl e ↦ omega arith
      | inr ne ↦ let before = (so_far.positions q).0 (ap is_some (sym (others q ne)) ∙ here) in omega arith
    ],
    λ lt. elim (cases_eq q p) [
      | inl e ↦ ap (λ t. is_some (chunk_of_position new t)) e ∙ ap is_some set
      | inr ne ↦ ap is_some (others q ne) ∙ (so_far.positions q).1 (earlier q lt ne)
    ],
  );
} where
  earlier : (q : ℕ) → q < p + 1 → (q ≡ p → ⊥) → q < p
  earlier q lt ne = grind arith

-- the mask of the positions below n
mask_of_all : (chunks : List (Option (List ℕ))) (n : ℕ) → HaveChunksBelow chunks n → IsMaskOf chunks (2 ^ n - 1)
mask_of_all chunks n all p = (λ has. (all p).1 (below has), λ here. bit_at_ones n p ((all p).0 here)) where
  below : HasPosition (2 ^ n - 1) p → p < n
  below has = elim (cases_lt p n) [
    | inl lt ↦ lt
    | inr ge ↦ let none = bit_at_ones_above n p ge in omega arith
  ]

pub mask_below : (chunks : List (Option (List ℕ))) (n : ℕ) → HaveChunksBelow chunks n → HaveMaskBelow chunks n
mask_below chunks n all = record { mask = 2 ^ n - 1; is_theirs = mask_of_all chunks n all; below = omega (arith, pow_pos n) }

-- all positions decide the data positions, since these are among them
pub data_decided : (code : CodeRows) (chunks : List (Option (List ℕ))) → IsCode code → HaveChunksBelow chunks code.n → DecideData code chunks
data_decided code chunks is all = record {
  mask = 2 ^ code.n - 1;
  is_theirs = mask_of_all chunks code.n all;
  decides = λ j lt. record { agree = λ one other _ _ same. same _ (is.placed j lt) (bit_at_ones code.n _ (is.placed j lt)) };
}

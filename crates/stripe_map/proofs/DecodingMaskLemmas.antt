-- Chunks have one mask, and data positions too.
use Rattle.std.proofs.Common.{◌≡◌, ◌<◌, ◌^◌, ◌↔◌, ℕ, List, Option, IsSome, refl, sym, subst, ◌∙◌, arith, inl, inr, ◌⊎◌}
use Rattle.std.specs.Int.{bit_at}
use Rattle.std.proofs.lemmas.Bool.{cases_eq}
use Rattle.std.proofs.lemmas.Nat.Bits.{bit_at-lt, same_from_bits}
use Rattle.ec_model.specs.Codes.{CodeRows, HasPosition, LiesBelow, DecidesOne}
use Rattle.stripe_map.specs.Chunks.{chunk_of_position}
use Rattle.stripe_map.specs.Decoding.{IsMaskOf, HaveMaskBelow, DecidesData, DecideData}
use Rattle.stripe_map.specs.DecodingLaws.{DataIsItsMask}

test : (mask p : ℕ) → HasPosition mask p ⊎ (HasPosition mask p → ⊥)
test mask p = cases_eq (bit_at mask p) 1

zero_bit : (mask p : ℕ) → (HasPosition mask p → ⊥) → bit_at mask p ≡ 0
zero_bit mask p out = let lt = bit_at-lt mask p in grind (arith, out)

-- two masks with the same positions are one
pub same_masks : (P : ℕ → Type 0) (one other : ℕ) → ((p : ℕ) → HasPosition one p ↔ P p) → ((p : ℕ) → HasPosition other p ↔ P p) → one ≡ other
same_masks P one other is also = same_from_bits one other (λ p. elim (test one p) [
  | inl has ↦ has ∙ sym ((also p).1 ((is p).0 has))
  | inr out ↦ zero_bit one p out ∙ sym (zero_bit other p (λ has. out ((is p).1 ((also p).0 has))))
])

one_mask : (chunks : List (Option (List ℕ))) (one other : ℕ) → IsMaskOf chunks one → IsMaskOf chunks other → one ≡ other
one_mask chunks one other is also = same_masks (λ p. IsSome (chunk_of_position chunks p)) one other is also

pub mask_below : (chunks : List (Option (List ℕ))) (n mask : ℕ) → IsMaskOf chunks mask → HaveMaskBelow chunks n → LiesBelow n mask
mask_below chunks n mask is have = subst (λ m. m < 2 ^ n) (one_mask chunks have.mask mask have.is_theirs is) have.below

pub decide_data : (code : CodeRows) (chunks : List (Option (List ℕ))) (mask : ℕ) → IsMaskOf chunks mask → DecidesData code mask ↔ DecideData code chunks
decide_data code chunks mask is = (
  λ decides. record { mask = mask; is_theirs = is; decides = decides },
  λ theirs. subst (DecidesData code) (one_mask chunks theirs.mask mask theirs.is_theirs is) theirs.decides,
)

pub data_is_its_mask : DataIsItsMask
data_is_its_mask code from mask is data_mask = (
  λ decides p _ has.
      let place = (data_mask p).0 has in
      subst (DecidesOne code from) place.1.1 (decides place.0 place.1.0),
  λ decides j lt. decides _ (is.placed j lt) ((data_mask _).1 (j, (lt, refl))),
)

-- What is left of the wanted row after the first columns' owners were taken away.
use Rattle.std.proofs.Common.{◌≡◌, ◌≢◌, ℕ, List, ◌+◌, ◌%◌, ◌^◌, ◌<◌, ◌≤◌, zero, suc, length, slice_index, bit_xor, refl, ap, sym, ◌∙◌, subst, arith, inl, inr, Some, None, get_or-set_same, get_or-set_other, length-set}
use Rattle.std.specs.declared.option.Option.{Option}
use Rattle.std.specs.Int.Bits.{xor_self, xor_zero_l, xor_zero_r, xor_assoc}
use Rattle.std.proofs.lemmas.Nat.{xor_of_8}
use Rattle.std.specs.Prelude.{replicate}
use Rattle.std.proofs.Math.ListN.{set}
use Rattle.std.proofs.Math.Nat.{mod-eq_of_lt}
use Rattle.std.proofs.lemmas.Bool.{cases_eq}
use Rattle.ec_model.specs.Field.{field_product}
use Rattle.gf256.proofs.FieldLemmas.{field_product-zero, field_product_comm, one-field_product, sum-field_product, zero-field_product, field_product-lt}
use Rattle.ec_model.specs.Rows.{dot, row_at}
use Rattle.ec_matrix.specs.Columns.{column_at, owner, IsReduced}
use Rattle.ec_matrix.specs.Solution.{combined_entry}
use Rattle.ec_matrix.proofs.SumLaws.{sum_below-change, sum_below-zero, sum_dot, dot-lt, sum_below-lt}

pub record IsLeft (rows columns : List (List ℕ)) (owners : List (Option ℕ)) (count : ℕ) (wanted coefficients left : List ℕ) (i : ℕ) : Type 0 where
  pub long : length coefficients ≡ 16
  pub bytes : (r : ℕ) → slice_index coefficients r < 2 ^ 8
  pub past : (r : ℕ) → count ≤ r → slice_index coefficients r ≡ 0
  pub sum : (j : ℕ) → j < 16 → slice_index left j ≡ bit_xor (slice_index wanted j) (combined_entry rows count coefficients j)
  pub taken : (k : ℕ) → k < 16 → k < i → dot 16 left (column_at columns k) ≡ 0
  pub free : (k : ℕ) → k < 16 → owner owners k ≡ None → dot 16 left (column_at columns k) ≡ 0

pub left_at_none : (rows columns : List (List ℕ)) (owners : List (Option ℕ)) (count : ℕ) (wanted coefficients left : List ℕ) (i : ℕ) →
    IsLeft rows columns owners count wanted coefficients left i → owner owners i ≡ None → IsLeft rows columns owners count wanted coefficients left (i + 1)
left_at_none rows columns owners count wanted coefficients left i h none = record {
  long = h.long;
  bytes = h.bytes;
  past = h.past;
  sum = h.sum;
  taken = λ k hk lt. elim (cases_eq k i) [ inl e ↦ h.free k hk (ap (λ t. owner owners t) e ∙ none) | inr ne ↦ h.taken k hk (below k lt ne) ];
  free = h.free;
} where
  below : (k : ℕ) → k < i + 1 → (k ≡ i → ⊥) → k < i
  below k lt ne = grind arith

pub left_at_some : (rows columns : List (List ℕ)) (owners : List (Option ℕ)) (count : ℕ) (wanted coefficients left next : List ℕ) (i q : ℕ) →
    IsReduced rows columns owners count → i < 16 → q < 16 →
    IsLeft rows columns owners count wanted coefficients left i → owner owners i ≡ Some q →
    ((j : ℕ) → j < 16 → slice_index next j ≡ bit_xor (slice_index left j) (field_product (dot 16 left (column_at columns i)) (slice_index (row_at rows q) j))) →
    IsLeft rows columns owners count wanted (set coefficients q (bit_xor (slice_index coefficients q) (dot 16 left (column_at columns i)))) next (i + 1)
left_at_some rows columns owners count wanted coefficients left next i q reduced hi hq h some step = record {
  long = length-set coefficients q (bit_xor (slice_index coefficients q) (dot 16 left (column_at columns i))) ∙ h.long;
  bytes = λ r. elim (cases_eq r q) [ inl e ↦ rw e bytes_at | inr ne ↦ let P : ℕ → Type 0 = λ n. n < 2 ^ 8 in subst P (sym (get_or-set_other coefficients q r (bit_xor (slice_index coefficients q) (dot 16 left (column_at columns i))) 0 ne)) (h.bytes r) ];
  past = λ r hr. get_or-set_other coefficients q r (bit_xor (slice_index coefficients q) (dot 16 left (column_at columns i))) 0 (apart r hr) ∙ h.past r hr;
  sum = λ j hj.
      step j hj ∙ ap (λ t. bit_xor t (field_product c (slice_index (row_at rows q) j))) (h.sum j hj)
      ∙ xor_assoc (slice_index wanted j) (combined_entry rows count coefficients j) (field_product c (slice_index (row_at rows q) j))
      ∙ ap (λ t. bit_xor (slice_index wanted j) t) (sym (changed j));
  taken = λ k hk lt. elim (cases_eq k i) [
    | inl e ↦ rw e (at_own)
    | inr ne ↦ elsewhere k hk ne ∙ h.taken k hk (below k lt ne)
  ];
  free = λ k hk none. elim (cases_eq k i) [
    | inl e ↦ absurd (never (sym some ∙ sym (ap (λ t. owner owners t) e) ∙ none))
    | inr ne ↦ elsewhere k hk ne ∙ h.free k hk none
  ];
} where
  c : ℕ
  c = dot 16 left (column_at columns i)

  moved : (k : ℕ) → dot 16 next (column_at columns k) ≡ bit_xor (dot 16 left (column_at columns k)) (field_product (dot 16 left (column_at columns i)) (dot 16 (row_at rows q) (column_at columns k)))
  moved k = sum_dot 16 (dot 16 left (column_at columns i)) (column_at columns k) left (row_at rows q) next step

  at_own : dot 16 next (column_at columns i) ≡ 0
  at_own =
      moved i ∙ ap (λ t. bit_xor (dot 16 left (column_at columns i)) (field_product (dot 16 left (column_at columns i)) t)) (reduced.own i q hi some)
      ∙ ap (λ t. bit_xor (dot 16 left (column_at columns i)) t) (field_product_comm (dot 16 left (column_at columns i)) 1 ∙ one-field_product (dot 16 left (column_at columns i)) ∙ mod-eq_of_lt (dot-lt 16 left (column_at columns i)))
      ∙ xor_self (dot 16 left (column_at columns i))

  elsewhere : (k : ℕ) → k < 16 → k ≢ i → dot 16 next (column_at columns k) ≡ dot 16 left (column_at columns k)
  elsewhere k hk ne =
      moved k ∙ ap (λ t. bit_xor (dot 16 left (column_at columns k)) (field_product (dot 16 left (column_at columns i)) t)) (reduced.others i k q hi hk ne some)
      ∙ ap (λ t. bit_xor (dot 16 left (column_at columns k)) t) (field_product-zero (dot 16 left (column_at columns i)))
      ∙ xor_zero_r (dot 16 left (column_at columns k))

  bytes_at : slice_index (set coefficients q (bit_xor (slice_index coefficients q) (dot 16 left (column_at columns i)))) q < 2 ^ 8
  bytes_at =
      let P : ℕ → Type 0 = λ n. n < 2 ^ 8 in
      subst P (sym (get_or-set_same coefficients q (bit_xor (slice_index coefficients q) (dot 16 left (column_at columns i))) 0 (omega (arith, h.long))))
      (xor_of_8 (slice_index coefficients q) (dot 16 left (column_at columns i)) (h.bytes q) (dot-lt 16 left (column_at columns i)))

  apart : (r : ℕ) → count ≤ r → r ≢ q
  apart r hr e = let lt = reduced.bound i q hi some in omega arith

  below : (k : ℕ) → k < i + 1 → (k ≡ i → ⊥) → k < i
  below k lt ne = grind arith

  never : (let n : Option ℕ = None in Some q ≡ n) → ⊥
  never e = cc

  changed : (j : ℕ) → combined_entry rows count (set coefficients q (bit_xor (slice_index coefficients q) (dot 16 left (column_at columns i)))) j
      ≡ bit_xor (combined_entry rows count coefficients j) (field_product (dot 16 left (column_at columns i)) (slice_index (row_at rows q) j))
  changed j =
      sum_below-change count q (field_product (dot 16 left (column_at columns i)) (slice_index (row_at rows q) j))
      (λ t. field_product (slice_index coefficients t) (slice_index (row_at rows t) j))
      (λ t. field_product (slice_index (set coefficients q (bit_xor (slice_index coefficients q) (dot 16 left (column_at columns i)))) t) (slice_index (row_at rows t) j))
      (reduced.bound i q hi some)
      (λ t lt ne. ap (λ z. field_product z (slice_index (row_at rows t) j)) (get_or-set_other coefficients q t (bit_xor (slice_index coefficients q) (dot 16 left (column_at columns i))) 0 ne))
      (ap (λ z. field_product z (slice_index (row_at rows q) j)) (get_or-set_same coefficients q (bit_xor (slice_index coefficients q) (dot 16 left (column_at columns i))) 0 (omega (arith, h.long)))
      ∙ sum-field_product (slice_index coefficients q) (dot 16 left (column_at columns i)) (slice_index (row_at rows q) j))

-- at first the whole row is left
pub left_at_first : (rows columns : List (List ℕ)) (owners : List (Option ℕ)) (count : ℕ) (wanted coefficients : List ℕ) → length coefficients ≡ 16 →
    ((r : ℕ) → slice_index coefficients r ≡ 0) → ((k : ℕ) → k < 16 → owner owners k ≡ None → dot 16 wanted (column_at columns k) ≡ 0) →
    IsLeft rows columns owners count wanted coefficients wanted 0
left_at_first rows columns owners count wanted coefficients long zeros free = record {
  long = long;
  bytes = λ r. let e = zeros r in omega arith;
  past = λ r hr. zeros r;
  sum = λ j hj. sym (ap (λ t. bit_xor (slice_index wanted j) t) (none j) ∙ xor_zero_r (slice_index wanted j));
  taken = λ k hk lt. absurd (omega arith);
  free = free;
} where
  none : (j : ℕ) → combined_entry rows count coefficients j ≡ 0
  none j = sum_below-zero count (λ r. field_product (slice_index coefficients r) (slice_index (row_at rows r) j))
      (λ r lt. ap (λ t. field_product t (slice_index (row_at rows r) j)) (zeros r) ∙ zero-field_product (slice_index (row_at rows r) j))

-- at last nothing is left
pub combined_at_last : (rows columns : List (List ℕ)) (owners : List (Option ℕ)) (count : ℕ) (wanted coefficients left : List ℕ) →
    IsReduced rows columns owners count → IsLeft rows columns owners count wanted coefficients left 16 →
    (j : ℕ) → j < 16 → slice_index left j < 2 ^ 8 → combined_entry rows count coefficients j ≡ slice_index wanted j
combined_at_last rows columns owners count wanted coefficients left r h j hj byte =
    let z : slice_index left j % 2 ^ 8 ≡ 0 = r.whole left (λ i hi. h.taken i hi hi) j hj in
    let nothing : bit_xor (slice_index wanted j) (combined_entry rows count coefficients j) ≡ 0 = sym (h.sum j hj) ∙ sym (mod-eq_of_lt byte) ∙ z in
    sym (equal (slice_index wanted j) (combined_entry rows count coefficients j) nothing)
  where
    equal : (a b : ℕ) → bit_xor a b ≡ 0 → a ≡ b
    equal a b e = sym (xor_zero_r a) ∙ ap (λ t. bit_xor a t) (sym (xor_self b)) ∙ sym (xor_assoc a b b) ∙ ap (λ t. bit_xor t b) e ∙ xor_zero_l b

pub zero_at : (n r : ℕ) → slice_index (replicate n 0) r ≡ 0
zero_at zero r = refl
zero_at (suc n) zero = refl
zero_at (suc n) (suc r) = zero_at n r

-- what is left is a byte
pub left_byte : (rows columns : List (List ℕ)) (owners : List (Option ℕ)) (count : ℕ) (wanted coefficients left : List ℕ) (i : ℕ) → IsLeft rows columns owners count wanted coefficients left i →
    (j : ℕ) → j < 16 → slice_index wanted j < 2 ^ 8 → slice_index left j < 2 ^ 8
left_byte rows columns owners count wanted coefficients left i h j hj byte =
    let P : ℕ → Type 0 = λ n. n < 2 ^ 8 in
    subst P (sym (h.sum j hj)) (xor_of_8 (slice_index wanted j) (combined_entry rows count coefficients j) byte
    (sum_below-lt count (λ r. field_product (slice_index coefficients r) (slice_index (row_at rows r) j)) (λ r. field_product-lt (slice_index coefficients r) (slice_index (row_at rows r) j))))

-- A mapping and layers without a fault have one code.
use Rattle.std.proofs.Common.{◌≡◌, ◌≢◌, ◌⊎◌, ℕ, List, ◌+◌, ◌<◌, ◌≤◌, ◌^◌, suc, zero, length, bit_xor, ap, sym, subst, ◌∙◌, arith, add-one, lit<, inl, inr}
use Rattle.std.specs.Prelude.{slice_index}
use Rattle.std.specs.Int.Bits.{xor_self, xor_zero_l, xor_zero_r, xor_assoc}
use Rattle.std.proofs.Math.Nat.{eq-zero-or-pos, mod-eq_of_lt}
use Rattle.std.proofs.lemmas.Nat.{xor_lt, xor_of_8}
use Rattle.ec_model.specs.Field.{field_product}
use Rattle.ec_model.specs.Rows.{entry_at}
use Rattle.ec_model.specs.Alike.{AreAlike}
use Rattle.ec_model.specs.Codes.{CodeRows}
use Rattle.ec_model.specs.ReedSolVan.{IsCodingEntry}
use Rattle.ec_model.specs.Lrc.{IsCoding, IsMadeBefore, AreCoefficients, IsLrc, data_count, coding_count, mark_number, layer_text}
use Rattle.gf256.proofs.CallerLemmas.{no_zero_divisor, field_product_comm, field_product-sum, field_product-lt, zero-field_product}
use Rattle.ec_matrix.proofs.CallerLemmas.{sum_below-same}
use Rattle.lrc_layers.specs.Layouts.{IsSound}
use Rattle.lrc_layers.proofs.CheckLemmas.{has_mark_or_not, made_or_not, made_earlier, same_length}
use Rattle.lrc_layers.proofs.MarkLemmas.{number_inside, counts_few}
use Rattle.lrc_layers.proofs.RowLemmas.{input_made}
use Rattle.lrc_layers.proofs.CodeLemmas.{place_of}

-- two numbers whose sum is 0 are equal
equal_from_sum : (a b : ℕ) → bit_xor a b ≡ 0 → a ≡ b
equal_from_sum a b e = sym (xor_zero_r a) ∙ ap (λ t. bit_xor a t) (sym (xor_self b)) ∙ sym (xor_assoc a b b) ∙ ap (λ t. bit_xor t b) e ∙ xor_zero_l b

-- two bytes with one product by a number other than 0 are equal
one_quotient : (e f d : ℕ) → d ≢ 0 → d < 2 ^ 8 → e < 2 ^ 8 → f < 2 ^ 8 → field_product e d ≡ field_product f d → e ≡ f
one_quotient e f d some small be bf same =
    equal_from_sum e f (sym (mod-eq_of_lt (xor_of_8 e f be bf)) ∙ no_zero_divisor d (bit_xor e f) some small
    (field_product-sum d e f ∙ ap (λ t. bit_xor t (field_product d f)) (field_product_comm d e ∙ same ∙ field_product_comm f d) ∙ xor_self (field_product d f)))

-- a product of bytes that are not 0 is not 0
product_some : (a b : ℕ) → a ≢ 0 → b ≢ 0 → a < 2 ^ 8 → b < 2 ^ 8 → field_product a b ≢ 0
product_some a b sa sb la lb e = sb (sym (mod-eq_of_lt lb) ∙ no_zero_divisor a b sa la e)

-- a coding entry is one number
one_entry : (k m r j e f : ℕ) → k + m ≤ 16 → r < m → j < k → IsCodingEntry k m r j e → IsCodingEntry k m r j f → e ≡ f
one_entry k m r j e f few lr lj one other = elim (eq-zero-or-pos r) [
  | inl first ↦ one.first first ∙ sym (other.first first)
  | inr later ↦ elim (last_or_not r m lr) [
    | inl last ↦
        one_quotient e f k (λ z. omega (arith, z, lj)) (omega (arith, few)) (one.last later last).byte (other.last later last).byte
        ((one.last later last).quotient ∙ sym (other.last later last).quotient)
    | inr between ↦
        one_quotient e f (field_product k (bit_xor (k + r) j))
        (product_some k (bit_xor (k + r) j) (λ z. omega (arith, z, lj)) (λ z. (let s = equal_from_sum (k + r) j z in omega (arith, s, lj))) (omega (arith, few)) (sum_small (omega (arith, few, lr)) (omega (arith, few, lj))))
        (field_product-lt k (bit_xor (k + r) j)) (one.between later between).byte (other.between later between).byte
        ((one.between later between).quotient ∙ sym (other.between later between).quotient)
  ]
] where
  last_or_not : (r m : ℕ) → r < m → (r + 1 ≡ m) ⊎ (r + 1 < m)
  last_or_not r m lt = grind arith

  sum_small : k + r < 2 ^ 8 → j < 2 ^ 8 → bit_xor (k + r) j < 2 ^ 8
  sum_small a b = xor_lt 8 (k + r) j a b

-- the coefficients of an output are one list, as far as its layer goes
one_coefficient : (layer : List ℕ) (p : ℕ) (ones others : List ℕ) → length layer ≤ 16 → IsCoding layer p → AreCoefficients layer (mark_number 99 layer p) ones
    → AreCoefficients layer (mark_number 99 layer p) others → (q : ℕ) → slice_index ones q ≡ slice_index others q
one_coefficient layer p ones others few coding one other q = elim (has_mark_or_not layer q 68) [
  | inl is ↦
      one_entry (data_count layer) (coding_count layer) (mark_number 99 layer p) (mark_number 68 layer q) (slice_index ones q) (slice_index others q)
      (omega (arith, few, counts_few layer)) (number_inside 99 layer p (lit< tt) coding) (number_inside 68 layer q (lit< tt) is) (one.inputs q is) (other.inputs q is)
  | inr no_input ↦ one.others q no_input ∙ sym (other.others q no_input)
]

-- the entries of two codes at a position that is made before a layer
one_row : (mapping : List ℕ) (layers : List (List ℕ)) (one other : CodeRows) → IsSound mapping layers → IsLrc mapping layers one → IsLrc mapping layers other
    → (i p j : ℕ) → i ≤ length layers → IsMadeBefore mapping layers i p → j < one.k → entry_at one.rows p j ≡ entry_at other.rows p j
one_row mapping layers one other sound a b zero p j le made lj = elim made [
  | inl is ↦ a.units p j is lj ∙ sym (b.units p j is (omega (arith, lj, a.data_chunks, b.data_chunks)))
  | inr earlier ↦ absurd (omega (arith, earlier.1))
]
one_row mapping layers one other sound a b (suc i) p j le made lj =
    let P : ℕ → Type 0 = λ t. IsMadeBefore mapping layers t p in
    elim (made_earlier mapping layers i p (subst P (sym (add-one i)) made)) [
      | inl before ↦ one_row mapping layers one other sound a b i p j (omega arith) before lj
      | inr coding ↦
          let layer = layer_text layers i in
          let x = a.outputs i p coding in
          let y = b.outputs i p coding in
          let short : length layer ≤ 16 = omega (arith, same_length mapping layers i (omega arith) sound.lengths, sound.whole.few) in
          x.sums j lj
          ∙ sum_below-same (length layer) (λ q. field_product (slice_index x.coefficients q) (entry_at one.rows q j)) (λ q. field_product (slice_index y.coefficients q) (entry_at other.rows q j))
          (λ q lt. elim (has_mark_or_not layer q 68) [
            | inl is ↦
                ap (λ t. field_product t (entry_at one.rows q j)) (one_coefficient layer p x.coefficients y.coefficients short coding x.are y.are q)
                ∙ ap (λ t. field_product (slice_index y.coefficients q) t)
                (one_row mapping layers one other sound a b i q j (omega arith) (input_made mapping layers i q (omega arith) sound.inputs is) lj)
            | inr no_input ↦
                ap (λ t. field_product t (entry_at one.rows q j)) (x.are.others q no_input) ∙ zero-field_product (entry_at one.rows q j)
                ∙ sym (ap (λ t. field_product t (entry_at other.rows q j)) (y.are.others q no_input) ∙ zero-field_product (entry_at other.rows q j))
          ])
          ∙ sym (y.sums j (omega (arith, lj, a.data_chunks, b.data_chunks)))
    ]

-- each position is made by all layers
all_made : (mapping : List ℕ) (layers : List (List ℕ)) (p : ℕ) → IsSound mapping layers → p < length mapping → IsMadeBefore mapping layers (length layers) p
all_made mapping layers p sound lt = elim (made_or_not mapping layers (length layers) p) [
  | inl made ↦ made
  | inr unmade ↦ absurd (sound.outputs (inr (p, lt, unmade)))
]

pub one_code : (mapping : List ℕ) (layers : List (List ℕ)) (one other : CodeRows) → IsSound mapping layers → IsLrc mapping layers one → IsLrc mapping layers other
    → AreAlike one other
one_code mapping layers one other sound a b = record {
  data_chunks = a.data_chunks ∙ sym b.data_chunks;
  positions = a.positions ∙ sym b.positions;
  divisor = a.divisor ∙ sym b.divisor;
  rows = λ p j lp lj.
      one_row mapping layers one other sound a b (length layers) p j (omega arith) (all_made mapping layers p sound (omega (arith, lp, a.positions))) lj;
  places = λ j lj.
      let at = place_of mapping one.k j a.data_chunks lj in
      ap (λ t. slice_index one.places t) (sym at.3) ∙ a.places at.0 at.2 ∙ sym (b.places at.0 at.2) ∙ ap (λ t. slice_index other.places t) at.3;
}

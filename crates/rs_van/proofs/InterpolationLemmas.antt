-- The polynomial with weights at the points 0, .., k - 1, and a code whose chunks are its values.
use Rattle.std.proofs.Common.{◌≡◌, ℕ, ◌%◌, ◌<◌, ◌≤◌, ◌^◌, zero, suc, bit_xor, refl, ap, sym, ◌∙◌, arith, inl, inr, ◌⊎◌, lit<}
use Rattle.std.specs.Int.Bits.{xor_self, xor_zero_l, xor_zero_r}
use Rattle.std.proofs.Math.Nat.{mod-eq_of_lt}
use Rattle.std.proofs.lemmas.Nat.{xor_lt, xor_of_8}
use Rattle.ec_model.specs.Field.{field_product}
use Rattle.gf256.proofs.CallerLemmas.{field_product-zero, zero-field_product, field_product_assoc, field_product_comm, field_product-sum, field_product-lt}
use Rattle.gf256.proofs.CallerLemmas.{no_zero_divisor}
use Rattle.ec_model.specs.Rows.{sum_below}
use Rattle.rs_van.proofs.PolynomialLemmas.{IsPolynomial, poly_sum, poly_times, poly_root, equal_from_sum, times_past}

-- the product of x + i over i below k
abbrev pub nodes : ℕ → ℕ → ℕ
nodes zero x = 1
nodes (suc i) x = field_product (bit_xor x i) (nodes i x)

-- the sum of d j times the product of x + i over the other i below k
abbrev pub through : (ℕ → ℕ) → ℕ → ℕ → ℕ
through d zero x = 0
through d (suc i) x = bit_xor (field_product (bit_xor x i) (through d i x)) (field_product (d i) (nodes i x))

poly_nodes : (k : ℕ) → IsPolynomial k 1 (λ x. nodes k x)
poly_nodes zero = λ x. refl
poly_nodes (suc k) = poly_root k 1 k (λ x. nodes k x) (poly_nodes k)

pub poly_through : (k : ℕ) (d : ℕ → ℕ) → IsPolynomial k (sum_below (suc k) (λ j. field_product (d j) 1)) (λ x. through d (suc k) x)
unfolding sum_below
poly_through zero d = λ x. ap (λ t. bit_xor t (field_product (d 0) 1)) (field_product-zero (bit_xor x 0))
poly_through (suc k) d =
    poly_sum (suc k) (sum_below (suc k) (λ j. field_product (d j) 1)) (field_product (d (suc k)) 1)
    (λ x. field_product (bit_xor x (suc k)) (through d (suc k) x)) (λ x. field_product (d (suc k)) (nodes (suc k) x))
    (poly_root k (sum_below (suc k) (λ j. field_product (d j) 1)) (suc k) (λ x. through d (suc k) x) (poly_through k d))
    (poly_times (suc k) 1 (d (suc k)) (λ x. nodes (suc k) x) (poly_nodes (suc k)))

-- a sum of fractions over x + j
pub through_fractions : (k c x : ℕ) (d w : ℕ → ℕ) → ((j : ℕ) → j < k → field_product (bit_xor x j) (w j) ≡ field_product c (d j)) →
    field_product (nodes k x) (sum_below k w) ≡ field_product c (through d k x)
unfolding sum_below
through_fractions zero c x d w e = field_product-zero 1 ∙ sym (field_product-zero c)
through_fractions (suc k) c x d w e =
    field_product-sum (field_product (bit_xor x k) (nodes k x)) (sum_below k w) (w k)
    ∙ ap (λ t. bit_xor t (field_product (field_product (bit_xor x k) (nodes k x)) (w k)))
    (field_product_assoc (bit_xor x k) (nodes k x) (sum_below k w)
    ∙ ap (λ t. field_product (bit_xor x k) t) (through_fractions k c x d w (λ j lt. e j (omega arith)))
    ∙ sym (times_past c (bit_xor x k) (through d k x)))
    ∙ ap (λ t. bit_xor (field_product c (field_product (bit_xor x k) (through d k x))) t)
    (ap (λ t. field_product t (w k)) (field_product_comm (bit_xor x k) (nodes k x))
    ∙ field_product_assoc (nodes k x) (bit_xor x k) (w k)
    ∙ ap (λ t. field_product (nodes k x) t) (e k (omega arith))
    ∙ sym (times_past c (nodes k x) (d k))
    ∙ ap (λ t. field_product c t) (field_product_comm (nodes k x) (d k)))
    ∙ sym (field_product-sum c (field_product (bit_xor x k) (through d k x)) (field_product (d k) (nodes k x)))

last_or_below : (p i : ℕ) → p < suc i → (p ≡ i) ⊎ (p < i)
last_or_below p i h = grind arith

nodes_zero : (i p : ℕ) → p < i → nodes i p ≡ 0
nodes_zero zero p lt = absurd (omega arith)
nodes_zero (suc i) p lt = elim (last_or_below p i lt) [
  | inl e ↦ ap (λ t. field_product (bit_xor t i) (nodes i p)) e ∙ ap (λ t. field_product t (nodes i p)) (xor_self i) ∙ zero-field_product (nodes i p)
  | inr below ↦ ap (λ t. field_product (bit_xor p i) t) (nodes_zero i p below) ∙ field_product-zero (bit_xor p i)
]

pub through_zero : (i p : ℕ) (d : ℕ → ℕ) → p < i → d p ≡ 0 → through d i p ≡ 0
through_zero zero p d lt z = absurd (omega arith)
through_zero (suc i) p d lt z = elim (last_or_below p i lt) [
  | inl e ↦
      ap (λ t. bit_xor t (field_product (d i) (nodes i p))) (ap (λ t. field_product (bit_xor t i) (through d i p)) e ∙ ap (λ t. field_product t (through d i p)) (xor_self i) ∙ zero-field_product (through d i p))
      ∙ xor_zero_l (field_product (d i) (nodes i p))
      ∙ ap (λ t. field_product t (nodes i p)) (sym (ap d e) ∙ z) ∙ zero-field_product (nodes i p)
  | inr below ↦
      ap (λ t. bit_xor t (field_product (d i) (nodes i p))) (ap (λ t. field_product (bit_xor p i) t) (through_zero i p d below z) ∙ field_product-zero (bit_xor p i))
      ∙ xor_zero_l (field_product (d i) (nodes i p))
      ∙ ap (λ t. field_product (d i) t) (nodes_zero i p below) ∙ field_product-zero (d i)
]

nodes-lt : (i x : ℕ) → nodes i x < 2 ^ 8
nodes-lt zero x = lit< tt
nodes-lt (suc i) x = field_product-lt (bit_xor x i) (nodes i x)

pub through-lt : (d : ℕ → ℕ) (i x : ℕ) → through d i x < 2 ^ 8
through-lt d zero x = lit< tt
through-lt d (suc i) x = xor_of_8 (field_product (bit_xor x i) (through d i x)) (field_product (d i) (nodes i x)) (field_product-lt (bit_xor x i) (through d i x)) (field_product-lt (d i) (nodes i x))

nodes_nonzero : (i x : ℕ) → i ≤ x → x < 2 ^ 8 → nodes i x ≡ 0 → ⊥
nodes_nonzero zero x le h e = omega (arith, e)
nodes_nonzero (suc i) x le h e =
    nodes_nonzero i x (omega arith) h
    (sym (mod-eq_of_lt (nodes-lt i x)) ∙ no_zero_divisor (bit_xor x i) (nodes i x) (λ z. apart (equal_from_sum x i z)) (xor_lt 8 x i h (omega arith)) e)
  where
    apart : x ≡ i → ⊥
    apart e = omega arith

pub through_back : (i p : ℕ) (d : ℕ → ℕ) → p < i → i ≤ 2 ^ 8 → through d i p ≡ 0 → d p % 2 ^ 8 ≡ 0
through_back zero p d lt room z = absurd (omega arith)
through_back (suc i) p d lt room z = elim (last_or_below p i lt) [
  | inl e ↦
      no_zero_divisor (nodes p p) (d p) (nodes_nonzero p p (omega arith) (omega arith)) (nodes-lt p p)
      (field_product_comm (nodes p p) (d p) ∙ at_own e)
  | inr below ↦
      through_back i p d below (omega arith)
      (sym (mod-eq_of_lt (through-lt d i p))
      ∙ no_zero_divisor (bit_xor p i) (through d i p) (λ q. apart below (equal_from_sum p i q)) (xor_lt 8 p i (omega arith) (omega arith)) (at_other below))
]
  where
    apart : p < i → p ≡ i → ⊥
    apart lt e = omega arith

    at_own : p ≡ i → field_product (d p) (nodes p p) ≡ 0
    at_own e =
        ap (λ t. field_product (d t) (nodes t p)) e
        ∙ sym (xor_zero_l (field_product (d i) (nodes i p)))
        ∙ ap (λ t. bit_xor t (field_product (d i) (nodes i p))) (sym (ap (λ t. field_product (bit_xor t i) (through d i p)) e ∙ ap (λ t. field_product t (through d i p)) (xor_self i) ∙ zero-field_product (through d i p)))
        ∙ z

    at_other : p < i → field_product (bit_xor p i) (through d i p) ≡ 0
    at_other below =
        sym (xor_zero_r (field_product (bit_xor p i) (through d i p)))
        ∙ ap (λ t. bit_xor (field_product (bit_xor p i) (through d i p)) t) (sym (ap (λ t. field_product (d i) t) (nodes_zero i p below) ∙ field_product-zero (d i)))
        ∙ z

-- A column whose chunks are 0 at k positions is 0.
use Rattle.std.proofs.Common.{◌≡◌, ℕ, ◌+◌, ◌-◌, ◌%◌, ◌<◌, ◌≤◌, ◌^◌, zero, suc, bit_xor, refl, ap, sym, ◌∙◌, subst, arith, inl, inr, ◌⊎◌}
use Rattle.std.specs.Int.{bit_at}
use Rattle.std.proofs.Math.Nat.{mod-eq_of_lt, eq-zero-or-pos}
use Rattle.std.proofs.lemmas.Nat.{xor_lt}
use Rattle.ec_model.specs.Field.{field_product}
use Rattle.gf256.proofs.CallerLemmas.{field_product-zero, field_product_assoc, field_product_comm, one-field_product, field_product-lt}
use Rattle.gf256.proofs.LinearLemmas.{bit_cases}
use Rattle.gf256.proofs.CallerLemmas.{no_zero_divisor}
use Rattle.ec_model.specs.Rows.{sum_below}
use Rattle.ec_matrix.proofs.CallerLemmas.{sum_below-same, sum_below-times}
use Rattle.ec_model.specs.ReedSolVan.{IsCodingEntry, IsBetween, IsLast}
use Rattle.ec_model.specs.Codes.{count_below}
use Rattle.rs_van.proofs.PolynomialLemmas.{IsPolynomial, poly_lower, few_roots, equal_from_sum}
use Rattle.rs_van.proofs.InterpolationLemmas.{nodes, through, poly_through, through_fractions, through_zero, through-lt, through_back}

-- the weight of column entry j
abbrev weight : ℕ → (ℕ → ℕ) → ℕ → ℕ
weight k column j = field_product (bit_xor k j) (column j)

-- the chunk at coding row r
abbrev pub coding_chunk : ℕ → (ℕ → ℕ → ℕ) → (ℕ → ℕ) → ℕ → ℕ
coding_chunk k e column r = sum_below k (λ j. field_product (e r j) (column j))

one_times : (a : ℕ) → a < 2 ^ 8 → field_product 1 a ≡ a
one_times a h = one-field_product a ∙ mod-eq_of_lt h

-- (a (b c)) d in another order
turned : (a b c d : ℕ) → field_product (field_product a (field_product b c)) d ≡ field_product c (field_product b (field_product a d))
turned a b c d =
    ap (λ t. field_product t d) (field_product_comm a (field_product b c))
    ∙ field_product_assoc (field_product b c) a d
    ∙ ap (λ t. field_product t (field_product a d)) (field_product_comm b c)
    ∙ field_product_assoc c b (field_product a d)

-- a chunk at a finite point is a value of the polynomial
root_at_first : (k : ℕ) (e : ℕ → ℕ → ℕ) (column : ℕ → ℕ) → ((j : ℕ) → j < k → e 0 j ≡ 1) → ((j : ℕ) → column j < 2 ^ 8) →
    coding_chunk k e column 0 ≡ 0 → through (weight k column) k k ≡ 0
root_at_first k e column ones bytes z =
    sym (one_times (through (weight k column) k k) (through-lt (weight k column) k k))
    ∙ sym (through_fractions k 1 k (weight k column) column (λ j lt. sym (one_times (weight k column j) (field_product-lt (bit_xor k j) (column j)))))
    ∙ ap (λ t. field_product (nodes k k) t)
    (sym (sum_below-same k (λ j. field_product (e 0 j) (column j)) column (λ j lt. ap (λ t. field_product t (column j)) (ones j lt) ∙ one_times (column j) (bytes j))) ∙ z)
    ∙ field_product-zero (nodes k k)

root_between : (k r : ℕ) (e : ℕ → ℕ → ℕ) (column : ℕ → ℕ) → 0 < k + r → k + r < 2 ^ 8 → ((j : ℕ) → j < k → IsBetween k r j (e r j)) →
    coding_chunk k e column r ≡ 0 → through (weight k column) k (k + r) ≡ 0
root_between k r e column pos room between z =
    let w : ℕ → ℕ = λ j. field_product k (field_product (e r j) (column j)) in
    let fractions = through_fractions k (k + r) (k + r) (weight k column) w (λ j lt.
    sym (turned (e r j) k (bit_xor (k + r) j) (column j))
    ∙ ap (λ t. field_product t (column j)) ((between j lt).quotient ∙ field_product_comm (bit_xor k j) (k + r))
    ∙ field_product_assoc (k + r) (bit_xor k j) (column j)) in
    let none : sum_below k w ≡ 0 = sum_below-times k k (λ j. field_product (e r j) (column j)) ∙ ap (λ t. field_product k t) z ∙ field_product-zero k in
    sym (mod-eq_of_lt (through-lt (weight k column) k (k + r)))
    ∙ no_zero_divisor (k + r) (through (weight k column) k (k + r)) (λ q. omega arith) room
    (sym fractions ∙ ap (λ t. field_product (nodes k (k + r)) t) none ∙ field_product-zero (nodes k (k + r)))

-- the chunk at the point at infinity is the highest coefficient
top_is_zero : (k r : ℕ) (e : ℕ → ℕ → ℕ) (column : ℕ → ℕ) → ((j : ℕ) → j < k → IsLast k j (e r j)) →
    coding_chunk k e column r ≡ 0 → sum_below k (λ j. field_product (weight k column j) 1) ≡ 0
top_is_zero k r e column last z =
    sum_below-same k (λ j. field_product (weight k column j) 1) (λ j. field_product k (field_product (e r j) (column j)))
    (λ j lt.
    field_product_comm (weight k column j) 1 ∙ one_times (weight k column j) (field_product-lt (bit_xor k j) (column j))
    ∙ ap (λ t. field_product t (column j)) (sym (last j lt).quotient ∙ field_product_comm (e r j) k)
    ∙ field_product_assoc k (e r j) (column j))
    ∙ sum_below-times k k (λ j. field_product (e r j) (column j)) ∙ ap (λ t. field_product k t) z ∙ field_product-zero k

-- where the polynomial is 0 everywhere, so is the column
column_is_zero : (k : ℕ) (column : ℕ → ℕ) → k ≤ 16 → ((j : ℕ) → column j < 2 ^ 8) →
    ((x : ℕ) → through (weight k column) k x % 2 ^ 8 ≡ 0) → (j : ℕ) → j < k → column j ≡ 0
column_is_zero k column few bytes zero_at j lt =
    let t : through (weight k column) k j ≡ 0 = sym (mod-eq_of_lt (through-lt (weight k column) k j)) ∙ zero_at j in
    let w : weight k column j ≡ 0 = sym (mod-eq_of_lt (field_product-lt (bit_xor k j) (column j))) ∙ through_back k j (weight k column) lt (omega arith) t in
    sym (mod-eq_of_lt (bytes j)) ∙ no_zero_divisor (bit_xor k j) (column j) (λ q. apart (equal_from_sum k j q)) (xor_lt 8 k j (omega arith) (omega arith)) w
  where
    apart : k ≡ j → ⊥
    apart e = omega arith

pub record IsZeroOn (s k m : ℕ) (e : ℕ → ℕ → ℕ) (column : ℕ → ℕ) : Type 0 where
  pub data_chunks : (j : ℕ) → j < k → bit_at s j ≡ 1 → column j ≡ 0
  pub coding_chunks : (r : ℕ) → r < m → bit_at s (k + r) ≡ 1 → coding_chunk k e column r ≡ 0

-- each finite position of the set is a root
roots : (s k m : ℕ) (e : ℕ → ℕ → ℕ) (column : ℕ → ℕ) → 0 < k → k + m ≤ 16 → ((r j : ℕ) → r < m → j < k → IsCodingEntry k m r j (e r j)) → ((j : ℕ) → column j < 2 ^ 8) →
    IsZeroOn s k m e column → (p : ℕ) → p < k + m → (p ≡ k) ⊎ (p + 1 < k + m) → bit_at s p ≡ 1 → through (weight k column) k p % 2 ^ 8 ≡ 0
roots s k m e column pos few entries bytes z p lt finite bit =
    elim (where_is p k) [
      | inl below ↦ ap (λ t. t % 2 ^ 8) (through_zero k p (weight k column) below (ap (λ t. field_product (bit_xor k p) t) (z.data_chunks p below bit) ∙ field_product-zero (bit_xor k p)))
      | inr above ↦
          let same : k + (p - k) ≡ p = omega arith in
          ap (λ t. through (weight k column) k t % 2 ^ 8) (sym same)
          ∙ ap (λ t. t % 2 ^ 8) (at_coding (p - k) (omega arith) (coding_finite above) (ap (λ t. bit_at s t) same ∙ bit))
    ]
  where
    where_is : (p k : ℕ) → (p < k) ⊎ (k ≤ p)
    where_is p k = grind arith

    coding_finite : k ≤ p → (p - k ≡ 0) ⊎ ((0 < p - k) × (p - k + 1 < m))
    coding_finite above = elim finite [ inl e ↦ inl (omega arith) | inr q ↦ elim (eq-zero-or-pos (p - k)) [ inl e ↦ inl e | inr h ↦ inr (h, omega arith) ] ]

    at_coding : (r : ℕ) → r < m → (r ≡ 0) ⊎ ((0 < r) × (r + 1 < m)) → bit_at s (k + r) ≡ 1 → through (weight k column) k (k + r) ≡ 0
    at_coding r lr (inl e0) b =
        let start : k + r ≡ k = omega arith in
        ap (λ t. through (weight k column) k t) start
        ∙ root_at_first k e column (λ j lj. (entries 0 j (omega arith) lj).first refl) bytes (ap (λ t. coding_chunk k e column t) (sym e0) ∙ z.coding_chunks r lr b)
    at_coding r lr (inr h) b =
        root_between k r e column (omega arith) (omega arith) (λ j lj. (entries r j lr lj).between h.0 h.1) (z.coding_chunks r lr b)

-- A column whose chunks are 0 at k or more positions is 0.
pub any_enough : (s k m : ℕ) (e : ℕ → ℕ → ℕ) (column : ℕ → ℕ) → 2 ≤ k → 1 ≤ m → k + m ≤ 16 →
    ((r j : ℕ) → r < m → j < k → IsCodingEntry k m r j (e r j)) → ((j : ℕ) → column j < 2 ^ 8) →
    k ≤ count_below s (k + m) → IsZeroOn s k m e column → (j : ℕ) → j < k → column j ≡ 0
any_enough s zero m e column two some few entries bytes many z = absurd (omega arith)
any_enough s (suc zero) m e column two some few entries bytes many z = absurd (omega arith)
any_enough s (suc (suc i)) m e column two some few entries bytes many z =
    column_is_zero (suc (suc i)) column (omega arith) bytes (λ x. elim (one_or_more m some) [
      | inl one ↦
          few_roots (suc (suc i) + m) (suc i) (sum_below (suc (suc i)) (λ j. field_product (weight (suc (suc i)) column j) 1)) s (λ x. through (weight (suc (suc i)) column) (suc (suc i)) x) poly (omega arith) (omega arith)
          (λ p lt b. at p lt (alone p lt one) b) x
      | inr more ↦
          let whole : suc (suc i) + m ≡ suc (suc i + m) = omega arith in
          let many' : suc (suc i) ≤ bit_at s (suc i + m) + count_below s (suc i + m) = (let P : ℕ → Type 0 = λ n. suc (suc i) ≤ count_below s n in subst P whole many) in
          elim (bit_cases s (suc i + m)) [
            | inl b0 ↦ few_roots (suc i + m) (suc i) (sum_below (suc (suc i)) (λ j. field_product (weight (suc (suc i)) column j) 1)) s (λ x. through (weight (suc (suc i)) column) (suc (suc i)) x) poly (omega arith) (omega (arith, b0)) (λ p lt b. at p (omega arith) (inr (omega arith)) b) x
            | inr b1 ↦
                let place : suc (suc i) + (m - 1) ≡ suc i + m = omega arith in
                let none : sum_below (suc (suc i)) (λ j. field_product (weight (suc (suc i)) column j) 1) ≡ 0 = top_is_zero (suc (suc i)) (m - 1) e column
                (λ j lj. (entries (m - 1) j (omega arith) lj).last (omega arith) (omega arith))
                (z.coding_chunks (m - 1) (omega arith) (ap (λ t. bit_at s t) place ∙ b1)) in
                let P : ℕ → Type 0 = λ t. IsPolynomial (suc i) t (λ x. through (weight (suc (suc i)) column) (suc (suc i)) x) in
                let lower = poly_lower i (λ x. through (weight (suc (suc i)) column) (suc (suc i)) x) (subst P none poly) in
                few_roots (suc i + m) i lower.0 s (λ x. through (weight (suc (suc i)) column) (suc (suc i)) x) lower.1 (omega arith) (omega (arith, b1)) (λ p lt b. at p (omega arith) (inr (omega arith)) b) x
          ]
    ])
  where
    poly : IsPolynomial (suc i) (sum_below (suc (suc i)) (λ j. field_product (weight (suc (suc i)) column j) 1)) (λ x. through (weight (suc (suc i)) column) (suc (suc i)) x)
    poly = poly_through (suc i) (weight (suc (suc i)) column)

    at : (p : ℕ) → p < suc (suc i) + m → (p ≡ suc (suc i)) ⊎ (p + 1 < suc (suc i) + m) → bit_at s p ≡ 1 → through (weight (suc (suc i)) column) (suc (suc i)) p % 2 ^ 8 ≡ 0
    at = roots s (suc (suc i)) m e column (omega arith) few entries bytes z

    one_or_more : (m : ℕ) → 1 ≤ m → (m ≡ 1) ⊎ (2 ≤ m)
    one_or_more m h = grind arith

    either : (p k : ℕ) → p < k + 1 → (p ≡ k) ⊎ (p < k)
    either p k h = grind arith

    alone : (p : ℕ) → p < suc (suc i) + m → m ≡ 1 → (p ≡ suc (suc i)) ⊎ (p + 1 < suc (suc i) + m)
    alone p lt e = elim (either p (suc (suc i)) (omega arith)) [ inl q ↦ inl q | inr q ↦ inr (omega arith) ]

-- Polynomials over the field, as functions: of degree at most n, with the coefficient t at x ^ n.
use Rattle.std.proofs.Common.{◌≡◌, ℕ, ◌%◌, ◌<◌, ◌≤◌, ◌^◌, zero, suc, bit_xor, refl, ap, sym, ◌∙◌, subst, arith, inl, inr}
use Rattle.std.specs.Int.Bits.{xor_self, xor_zero_l, xor_zero_r, xor_assoc}
use Rattle.std.proofs.lemmas.Nat.{xor_mod, xor_lt}
use Rattle.std.specs.Int.{bit_at}
use Rattle.std.proofs.Math.Nat.{mod-eq_of_lt}
use Rattle.gf256.proofs.CallerLemmas.{no_zero_divisor}
use Rattle.ec_model.specs.Field.{field_product}
use Rattle.ec_model.specs.Codes.{count_below}
use Rattle.gf256.proofs.CallerLemmas.{field_product-zero, field_product_assoc, field_product_comm, field_product-sum, sum-field_product, field_product-lt, field_product_low_right}
use Rattle.gf256.proofs.LinearLemmas.{xor_swap, bit_cases}

abbrev pub IsPolynomial : ℕ → ℕ → (ℕ → ℕ) → Type 0
IsPolynomial zero t f = (x : ℕ) → f x ≡ t
IsPolynomial (suc n) t f = (c : ℕ) × (g : ℕ → ℕ) × (IsPolynomial n t g) × ((x : ℕ) → f x ≡ bit_xor c (field_product x (g x)))

pub poly_same : (n t : ℕ) (f g : ℕ → ℕ) → ((x : ℕ) → g x ≡ f x) → IsPolynomial n t f → IsPolynomial n t g
poly_same zero t f g e p = λ x. e x ∙ p x
poly_same (suc n) t f g e p = (p.0, p.1, p.2, λ x. e x ∙ p.3 x)

pub poly_sum : (n t s : ℕ) (f g : ℕ → ℕ) → IsPolynomial n t f → IsPolynomial n s g → IsPolynomial n (bit_xor t s) (λ x. bit_xor (f x) (g x))
poly_sum zero t s f g p q = λ x. ap (λ y. bit_xor y (g x)) (p x) ∙ ap (λ y. bit_xor t y) (q x)
poly_sum (suc n) t s f g p q = (
  bit_xor p.0 q.0,
  λ x. bit_xor (p.1 x) (q.1 x),
  poly_sum n t s p.1 q.1 p.2 q.2,
  λ x. ap (λ y. bit_xor y (g x)) (p.3 x) ∙ ap (λ y. bit_xor (bit_xor p.0 (field_product x (p.1 x))) y) (q.3 x)
      ∙ xor_swap p.0 (field_product x (p.1 x)) q.0 (field_product x (q.1 x))
      ∙ ap (λ y. bit_xor (bit_xor p.0 q.0) y) (sym (field_product-sum x (p.1 x) (q.1 x))),
)

pub times_past : (c x p : ℕ) → field_product c (field_product x p) ≡ field_product x (field_product c p)
times_past c x p = sym (field_product_assoc c x p) ∙ ap (λ t. field_product t p) (field_product_comm c x) ∙ field_product_assoc x c p

pub poly_times : (n t c : ℕ) (f : ℕ → ℕ) → IsPolynomial n t f → IsPolynomial n (field_product c t) (λ x. field_product c (f x))
poly_times zero t c f p = λ x. ap (λ y. field_product c y) (p x)
poly_times (suc n) t c f p = (
  field_product c p.0,
  λ x. field_product c (p.1 x),
  poly_times n t c p.1 p.2,
  λ x. ap (λ y. field_product c y) (p.3 x) ∙ field_product-sum c p.0 (field_product x (p.1 x))
      ∙ ap (λ y. bit_xor (field_product c p.0) y) (times_past c x (p.1 x)),
)

-- a polynomial is one of a higher degree with the coefficient 0
pub poly_raise : (n t : ℕ) (f : ℕ → ℕ) → IsPolynomial n t f → IsPolynomial (suc n) 0 f
poly_raise zero t f p = (t, λ x. 0, λ x. refl, λ x. p x ∙ sym (ap (λ y. bit_xor t y) (field_product-zero x) ∙ xor_zero_r t))
poly_raise (suc n) t f p = (p.0, p.1, poly_raise n t p.1 p.2, p.3)

pub poly_shift : (n t : ℕ) (f : ℕ → ℕ) → IsPolynomial n t f → IsPolynomial (suc n) t (λ x. field_product x (f x))
poly_shift n t f p = (0, f, p, λ x. sym (xor_zero_l (field_product x (f x))))

-- times x + a
pub poly_root : (n t a : ℕ) (f : ℕ → ℕ) → IsPolynomial n t f → IsPolynomial (suc n) t (λ x. field_product (bit_xor x a) (f x))
poly_root n t a f p =
    let whole : IsPolynomial (suc n) (bit_xor t 0) (λ x. bit_xor (field_product x (f x)) (field_product a (f x))) =
    poly_sum (suc n) t 0 (λ x. field_product x (f x)) (λ x. field_product a (f x)) (poly_shift n t f p)
    (poly_raise n (field_product a t) (λ x. field_product a (f x)) (poly_times n t a f p)) in
    let P : ℕ → Type 0 = λ s. IsPolynomial (suc n) s (λ x. bit_xor (field_product x (f x)) (field_product a (f x))) in
    poly_same (suc n) t (λ x. bit_xor (field_product x (f x)) (field_product a (f x))) (λ x. field_product (bit_xor x a) (f x))
    (λ x. sum-field_product x a (f x)) (subst P (xor_zero_r t) whole)

-- with the coefficient 0 it is one of a lower degree
pub poly_lower : (n : ℕ) (f : ℕ → ℕ) → IsPolynomial (suc n) 0 f → (s : ℕ) × IsPolynomial n s f
poly_lower zero f p = (p.0, λ x. p.3 x ∙ ap (λ y. bit_xor p.0 (field_product x y)) (p.2 x) ∙ ap (λ y. bit_xor p.0 y) (field_product-zero x) ∙ xor_zero_r p.0)
poly_lower (suc n) f p = let q = poly_lower n p.1 p.2 in (q.0, (p.0, p.1, q.1, p.3))

-- (x + a) (u + a q) is x u + a v where u + v is (x + a) q
multiplied : (x a u v q : ℕ) → bit_xor u v ≡ field_product (bit_xor x a) q →
    field_product (bit_xor x a) (bit_xor u (field_product a q)) ≡ bit_xor (field_product x u) (field_product a v)
multiplied x a u v q e =
    field_product-sum (bit_xor x a) u (field_product a q)
    ∙ ap (λ y. bit_xor y (field_product (bit_xor x a) (field_product a q))) (sum-field_product x a u)
    ∙ ap (λ y. bit_xor (bit_xor (field_product x u) (field_product a u)) y)
    (sym (times_past a (bit_xor x a) q) ∙ ap (λ y. field_product a y) (sym e) ∙ field_product-sum a u v)
    ∙ xor_assoc (field_product x u) (field_product a u) (bit_xor (field_product a u) (field_product a v))
    ∙ ap (λ y. bit_xor (field_product x u) y)
    (sym (xor_assoc (field_product a u) (field_product a u) (field_product a v))
    ∙ ap (λ y. bit_xor y (field_product a v)) (xor_self (field_product a u)) ∙ xor_zero_l (field_product a v))

-- f x + f a is divided by x + a
pub poly_divide : (n t a : ℕ) (f : ℕ → ℕ) → IsPolynomial (suc n) t f →
    (q : ℕ → ℕ) × (IsPolynomial n t q) × ((x : ℕ) → bit_xor (f x) (f a) ≡ field_product (bit_xor x a) (q x))
poly_divide zero t a f p = (
  λ x. t,
  λ x. refl,
  λ x. ap (λ y. bit_xor y (f a)) (p.3 x ∙ ap (λ y. bit_xor p.0 (field_product x y)) (p.2 x))
      ∙ ap (λ y. bit_xor (bit_xor p.0 (field_product x t)) y) (p.3 a ∙ ap (λ y. bit_xor p.0 (field_product a y)) (p.2 a))
      ∙ xor_swap p.0 (field_product x t) p.0 (field_product a t)
      ∙ ap (λ y. bit_xor y (bit_xor (field_product x t) (field_product a t))) (xor_self p.0)
      ∙ xor_zero_l (bit_xor (field_product x t) (field_product a t))
      ∙ sym (sum-field_product x a t),
)
poly_divide (suc n) t a f p =
    let d = poly_divide n t a p.1 p.2 in
    let q : ℕ → ℕ = λ x. bit_xor (p.1 x) (field_product a (d.0 x)) in
    let whole : IsPolynomial (suc n) (bit_xor t 0) q =
    poly_sum (suc n) t 0 p.1 (λ x. field_product a (d.0 x)) p.2 (poly_raise n (field_product a t) (λ x. field_product a (d.0 x)) (poly_times n t a d.0 d.1)) in
    let P : ℕ → Type 0 = λ s. IsPolynomial (suc n) s q in (
      q,
      subst P (xor_zero_r t) whole,
      λ x. ap (λ y. bit_xor y (f a)) (p.3 x) ∙ ap (λ y. bit_xor (bit_xor p.0 (field_product x (p.1 x))) y) (p.3 a)
          ∙ xor_swap p.0 (field_product x (p.1 x)) p.0 (field_product a (p.1 a))
          ∙ ap (λ y. bit_xor y (bit_xor (field_product x (p.1 x)) (field_product a (p.1 a)))) (xor_self p.0)
          ∙ xor_zero_l (bit_xor (field_product x (p.1 x)) (field_product a (p.1 a)))
          ∙ sym (multiplied x a (p.1 x) (p.1 a) (d.0 x) (d.2 x)),
    )

-- two numbers whose sum is 0 are equal
pub equal_from_sum : (a b : ℕ) → bit_xor a b ≡ 0 → a ≡ b
equal_from_sum a b e = sym (xor_zero_r a) ∙ ap (λ t. bit_xor a t) (sym (xor_self b)) ∙ sym (xor_assoc a b b) ∙ ap (λ t. bit_xor t b) e ∙ xor_zero_l b

-- a polynomial of degree at most n with more than n roots is 0
pub few_roots : (last n t s : ℕ) (f : ℕ → ℕ) → IsPolynomial n t f → last ≤ 2 ^ 8 → n < count_below s last →
    ((p : ℕ) → p < last → bit_at s p ≡ 1 → f p % 2 ^ 8 ≡ 0) → (x : ℕ) → f x % 2 ^ 8 ≡ 0
few_roots zero n t s f poly room many roots x = absurd (omega arith)
few_roots (suc last) n t s f poly room many roots x =
    elim (bit_cases s last) [
      | inl e ↦ few_roots last n t s f poly (omega arith) (omega (arith, e)) (λ p lt b. roots p (omega arith) b) x
      | inr e ↦ at_root e n t poly (omega (arith, e))
          (λ m u q pq few qr. few_roots last m u s q pq (omega arith) few qr)
    ]
  where
    apart : (p : ℕ) → p < last → p ≡ last → ⊥
    apart p lt e = omega arith

    both_low : (a b : ℕ) → a % 2 ^ 8 ≡ 0 → b % 2 ^ 8 ≡ 0 → bit_xor a b % 2 ^ 8 ≡ 0
    both_low a b ea eb = xor_mod a b 8 ∙ ap (λ y. bit_xor y (b % 2 ^ 8)) ea ∙ eb

    low_product : (a b : ℕ) → field_product a b % 2 ^ 8 ≡ 0 → field_product a b ≡ 0
    low_product a b e = sym (mod-eq_of_lt (field_product-lt a b)) ∙ e

    at_root : (bit : bit_at s last ≡ 1) (n t : ℕ) → IsPolynomial n t f → n < suc (count_below s last) →
        ((m u : ℕ) (q : ℕ → ℕ) → IsPolynomial m u q → m < count_below s last → ((p : ℕ) → p < last → bit_at s p ≡ 1 → q p % 2 ^ 8 ≡ 0) → (x : ℕ) → q x % 2 ^ 8 ≡ 0) →
        f x % 2 ^ 8 ≡ 0
    at_root bit zero t poly few again = ap (λ y. y % 2 ^ 8) (poly x ∙ sym (poly last)) ∙ roots last (omega arith) bit
    at_root bit (suc m) t poly few again =
        let d = poly_divide m t last f poly in
        let small : m < count_below s last = omega arith in
        let q_zero : d.0 x % 2 ^ 8 ≡ 0 = again m t d.0 d.1 small (λ p lt b.
        no_zero_divisor (bit_xor p last) (d.0 p) (λ e. apart p lt (equal_from_sum p last e)) (xor_lt 8 p last (omega arith) (omega arith))
        (low_product (bit_xor p last) (d.0 p) (ap (λ y. y % 2 ^ 8) (sym (d.2 p)) ∙ both_low (f p) (f last) (roots p (omega arith) b) (roots last (omega arith) bit)))) x in
        let same : f x ≡ f last = equal_from_sum (f x) (f last)
        (d.2 x ∙ sym (field_product_low_right (bit_xor x last) (d.0 x)) ∙ ap (λ y. field_product (bit_xor x last) y) q_zero ∙ field_product-zero (bit_xor x last)) in
        ap (λ y. y % 2 ^ 8) same ∙ roots last (omega arith) bit

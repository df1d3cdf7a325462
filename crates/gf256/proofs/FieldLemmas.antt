-- The laws of the field: each is linear in its arguments, so it is computed on the powers of two alone.
use Rattle.std.proofs.Common.{◌≡◌, ℕ, ◌+◌, ◌*◌, ◌%◌, ◌^◌, ◌<◌, zero, suc, bit_xor, refl, ap, sym, ◌∙◌, subst, arith, inl, inr, ◌⊎◌, Bool, true, ◌&&◌, eqb, lit<}
use Rattle.ec_model.specs.Field.{carry_less_product, remainder, field_product}
use Rattle.gf256.proofs.LinearLemmas.{KeepsSums, KeepsSums-then, KeepsSums-sum, KeepsSums-constant, KeepsSums-self, KeepsSums-shl, KeepsSums-bit_times, KeepsSums-bit_of, bit_cases, agree_below, keeps_zero}
use Rattle.std.specs.Int.{bit_at}
use Rattle.std.proofs.Math.Nat.{mod-lt}
use Rattle.std.proofs.lemmas.Nat.{xor_mod}
use Rattle.std.proofs.lemmas.Bool.{eqb-true, and_parts}

pub carry_less_left : (n b : ℕ) → KeepsSums (λ a. carry_less_product n a b)
unfolding carry_less_product
carry_less_left zero b = KeepsSums-constant
carry_less_left (suc i) b =
    KeepsSums-sum (λ a. carry_less_product i a b) (λ a. bit_at b i * (a * 2 ^ i)) (carry_less_left i b)
    (KeepsSums-then (λ a. a * 2 ^ i) (λ x. bit_at b i * x) (KeepsSums-shl i) (KeepsSums-bit_times (bit_at b i) (bit_cases b i)))

pub carry_less_right : (n a : ℕ) → KeepsSums (λ b. carry_less_product n a b)
unfolding carry_less_product
carry_less_right zero a = KeepsSums-constant
carry_less_right (suc i) a =
    KeepsSums-sum (λ b. carry_less_product i a b) (λ b. bit_at b i * (a * 2 ^ i)) (carry_less_right i a) (KeepsSums-bit_of i (a * 2 ^ i))

pub remainder_sums : (n : ℕ) → KeepsSums (λ p. remainder n p)
unfolding remainder
remainder_sums zero = KeepsSums-self
remainder_sums (suc i) =
    KeepsSums-then (λ p. bit_xor p (bit_at p (i + 8) * (0x11d * 2 ^ i))) (λ p. remainder i p)
    (KeepsSums-sum (λ p. p) (λ p. bit_at p (i + 8) * (0x11d * 2 ^ i)) KeepsSums-self (KeepsSums-bit_of (i + 8) (0x11d * 2 ^ i)))
    (remainder_sums i)

mod_sums : KeepsSums (λ x. x % 2 ^ 8)
mod_sums = record { sums = λ a b. xor_mod a b 8 }

twice_low : (a : ℕ) → a % 2 ^ 8 ≡ a % 2 ^ 8 % 2 ^ 8
twice_low a = omega arith

-- only the low bytes count
pub field_product-low : (a b : ℕ) → field_product a b ≡ field_product (a % 2 ^ 8) (b % 2 ^ 8)
unfolding field_product
field_product-low a b = ap (λ t. remainder 7 (carry_less_product 8 t (b % 2 ^ 8))) (twice_low a) ∙ ap (λ t. remainder 7 (carry_less_product 8 (a % 2 ^ 8 % 2 ^ 8) t)) (twice_low b)

pub product_left : (b : ℕ) → KeepsSums (λ a. field_product a b)
unfolding field_product
product_left b =
    KeepsSums-then (λ a. a % 2 ^ 8) (λ a. remainder 7 (carry_less_product 8 a (b % 2 ^ 8))) mod_sums
    (KeepsSums-then (λ a. carry_less_product 8 a (b % 2 ^ 8)) (λ p. remainder 7 p) (carry_less_left 8 (b % 2 ^ 8)) (remainder_sums 7))

pub product_right : (a : ℕ) → KeepsSums (λ b. field_product a b)
unfolding field_product
product_right a =
    KeepsSums-then (λ b. b % 2 ^ 8) (λ b. remainder 7 (carry_less_product 8 (a % 2 ^ 8) b)) mod_sums
    (KeepsSums-then (λ b. carry_less_product 8 (a % 2 ^ 8) b) (λ p. remainder 7 p) (carry_less_right 8 (a % 2 ^ 8)) (remainder_sums 7))

-- tests over all of n values
abbrev pub each_below : ℕ → (ℕ → Bool) → Bool
each_below zero p = true
each_below (suc n) p = p n && each_below n p

pub each_below_at : (n : ℕ) (p : ℕ → Bool) → each_below n p ≡ true → (i : ℕ) → i < n → p i ≡ true
each_below_at zero p h i lt = absurd (omega arith)
each_below_at (suc n) p h i lt =
    let parts = and_parts (p n) (each_below n p) h in
    elim (last_or_below i n lt) [ inl e ↦ rw e parts.0 | inr below ↦ each_below_at n p parts.1 i below ]
  where
    last_or_below : (i n : ℕ) → i < suc n → (i ≡ n) ⊎ (i < n)
    last_or_below i n h = grind arith

-- two maps that keep sums in each argument
pub record KeepsSumsTwice (F : ℕ → ℕ → ℕ) : Type 0 where
  pub left : (b : ℕ) → KeepsSums (λ a. F a b)
  pub right : (a : ℕ) → KeepsSums (λ b. F a b)

-- such maps agree on bytes where they agree on the powers of two
pub agree_on_bytes : (F G : ℕ → ℕ → ℕ) → KeepsSumsTwice F → KeepsSumsTwice G →
    ((i j : ℕ) → i < 8 → j < 8 → F (2 ^ i) (2 ^ j) ≡ G (2 ^ i) (2 ^ j)) →
    (a b : ℕ) → a < 2 ^ 8 → b < 2 ^ 8 → F a b ≡ G a b
agree_on_bytes F G kf kg basis a b ha hb =
    agree_below (λ x. F x b) (λ x. G x b) (kf.left b) (kg.left b) 8
    (λ i lt. agree_below (λ y. F (2 ^ i) y) (λ y. G (2 ^ i) y) (kf.right (2 ^ i)) (kg.right (2 ^ i)) 8 (λ j lj. basis i j lt lj) b hb)
    a ha

pub product_twice : KeepsSumsTwice field_product
product_twice = record { left = product_left; right = product_right }

commute_basis : each_below 8 (λ i. each_below 8 (λ j. eqb (field_product (2 ^ i) (2 ^ j)) (field_product (2 ^ j) (2 ^ i)))) ≡ true
unfolding field_product carry_less_product remainder
commute_basis = refl

comm_bytes : (a b : ℕ) → a < 2 ^ 8 → b < 2 ^ 8 → field_product a b ≡ field_product b a
comm_bytes a b ha hb =
    agree_on_bytes field_product (λ x y. field_product y x) product_twice (record { left = product_right; right = product_left })
    (λ i j li lj. eqb-true _ _ (each_below_at 8 (λ j. eqb (field_product (2 ^ i) (2 ^ j)) (field_product (2 ^ j) (2 ^ i)))
    (each_below_at 8 (λ i. each_below 8 (λ j. eqb (field_product (2 ^ i) (2 ^ j)) (field_product (2 ^ j) (2 ^ i)))) commute_basis i li) j lj))
    a b ha hb

-- the product of bytes is a byte
byte_basis : each_below 8 (λ i. each_below 8 (λ j. eqb (field_product (2 ^ i) (2 ^ j) % 2 ^ 8) (field_product (2 ^ i) (2 ^ j)))) ≡ true
unfolding field_product carry_less_product remainder
byte_basis = refl

lt_bytes : (a b : ℕ) → a < 2 ^ 8 → b < 2 ^ 8 → field_product a b < 2 ^ 8
lt_bytes a b ha hb =
    let e = agree_on_bytes (λ x y. field_product x y % 2 ^ 8) field_product
    (record {
      left = λ y. KeepsSums-then (λ x. field_product x y) (λ x. x % 2 ^ 8) (product_left y) mod_sums;
      right = λ x. KeepsSums-then (λ y. field_product x y) (λ x. x % 2 ^ 8) (product_right x) mod_sums;
    })
    product_twice
    (λ i j li lj. eqb-true _ _ (each_below_at 8 (λ j. eqb (field_product (2 ^ i) (2 ^ j) % 2 ^ 8) (field_product (2 ^ i) (2 ^ j)))
    (each_below_at 8 (λ i. each_below 8 (λ j. eqb (field_product (2 ^ i) (2 ^ j) % 2 ^ 8) (field_product (2 ^ i) (2 ^ j)))) byte_basis i li) j lj))
    a b ha hb in
    let lt : field_product a b % 2 ^ 8 < 2 ^ 8 = mod-lt (field_product a b) (lit< tt) in
    subst (λ n. n < 2 ^ 8) e lt

assoc_basis : each_below 8 (λ i. each_below 8 (λ j. each_below 8 (λ k.
    eqb (field_product (field_product (2 ^ i) (2 ^ j)) (2 ^ k)) (field_product (2 ^ i) (field_product (2 ^ j) (2 ^ k)))))) ≡ true
unfolding field_product carry_less_product remainder
assoc_basis = refl

assoc_bytes : (a b c : ℕ) → a < 2 ^ 8 → b < 2 ^ 8 → c < 2 ^ 8 →
    field_product (field_product a b) c ≡ field_product a (field_product b c)
assoc_bytes a b c ha hb hc =
    agree_on_bytes (λ x y. field_product (field_product x y) c) (λ x y. field_product x (field_product y c))
    (record {
      left = λ y. KeepsSums-then (λ x. field_product x y) (λ x. field_product x c) (product_left y) (product_left c);
      right = λ x. KeepsSums-then (λ y. field_product x y) (λ x. field_product x c) (product_right x) (product_left c);
    })
    (record {
      left = λ y. product_left (field_product y c);
      right = λ x. KeepsSums-then (λ y. field_product y c) (λ y. field_product x y) (product_left c) (product_right x);
    })
    (λ i j li lj. agree_below
    (λ z. field_product (field_product (2 ^ i) (2 ^ j)) z) (λ z. field_product (2 ^ i) (field_product (2 ^ j) z))
    (product_right (field_product (2 ^ i) (2 ^ j)))
    (KeepsSums-then (λ z. field_product (2 ^ j) z) (λ z. field_product (2 ^ i) z) (product_right (2 ^ j)) (product_right (2 ^ i)))
    8
    (λ k lk. eqb-true _ _ (each_below_at 8 (λ k. eqb (field_product (field_product (2 ^ i) (2 ^ j)) (2 ^ k)) (field_product (2 ^ i) (field_product (2 ^ j) (2 ^ k))))
    (each_below_at 8 (λ j. each_below 8 (λ k. eqb (field_product (field_product (2 ^ i) (2 ^ j)) (2 ^ k)) (field_product (2 ^ i) (field_product (2 ^ j) (2 ^ k)))))
    (each_below_at 8 (λ i. each_below 8 (λ j. each_below 8 (λ k. eqb (field_product (field_product (2 ^ i) (2 ^ j)) (2 ^ k)) (field_product (2 ^ i) (field_product (2 ^ j) (2 ^ k))))))
    assoc_basis i li) j lj) k lk))
    c hc)
    a b ha hb

one_basis : each_below 8 (λ i. eqb (field_product 1 (2 ^ i)) (2 ^ i)) ≡ true
unfolding field_product carry_less_product remainder
one_basis = refl

one_bytes : (a : ℕ) → a < 2 ^ 8 → field_product 1 a ≡ a
one_bytes a h = agree_below (λ x. field_product 1 x) (λ x. x) (product_right 1) KeepsSums-self 8
    (λ i lt. eqb-true _ _ (each_below_at 8 (λ i. eqb (field_product 1 (2 ^ i)) (2 ^ i)) one_basis i lt)) a h

pub zero-field_product : (a : ℕ) → field_product 0 a ≡ 0
zero-field_product a = keeps_zero (λ x. field_product x a) (product_left a)

pub field_product-zero : (a : ℕ) → field_product a 0 ≡ 0
field_product-zero a = keeps_zero (λ x. field_product a x) (product_right a)

pub field_product-sum : (a b c : ℕ) → field_product a (bit_xor b c) ≡ bit_xor (field_product a b) (field_product a c)
field_product-sum a b c = (product_right a).sums b c

pub sum-field_product : (a b c : ℕ) → field_product (bit_xor a b) c ≡ bit_xor (field_product a c) (field_product b c)
sum-field_product a b c = (product_left c).sums a b

low : (a : ℕ) → a % 2 ^ 8 < 2 ^ 8
low a = mod-lt a (lit< tt)

pub field_product_comm : (a b : ℕ) → field_product a b ≡ field_product b a
field_product_comm a b = field_product-low a b ∙ comm_bytes (a % 2 ^ 8) (b % 2 ^ 8) (low a) (low b) ∙ sym (field_product-low b a)

pub field_product-lt : (a b : ℕ) → field_product a b < 2 ^ 8
field_product-lt a b = let P : ℕ → Type 0 = λ n. n < 2 ^ 8 in subst P (sym (field_product-low a b)) (lt_bytes (a % 2 ^ 8) (b % 2 ^ 8) (low a) (low b))

pub field_product_low_left : (a b : ℕ) → field_product (a % 2 ^ 8) b ≡ field_product a b
field_product_low_left a b = field_product-low (a % 2 ^ 8) b ∙ ap (λ t. field_product t (b % 2 ^ 8)) (sym (twice_low a)) ∙ sym (field_product-low a b)

pub field_product_low_right : (a b : ℕ) → field_product a (b % 2 ^ 8) ≡ field_product a b
field_product_low_right a b = field_product-low a (b % 2 ^ 8) ∙ ap (λ t. field_product (a % 2 ^ 8) t) (sym (twice_low b)) ∙ sym (field_product-low a b)

pub field_product_assoc : (a b c : ℕ) → field_product (field_product a b) c ≡ field_product a (field_product b c)
field_product_assoc a b c =
    ap (λ t. field_product t c) (field_product-low a b) ∙ sym (field_product_low_right (field_product (a % 2 ^ 8) (b % 2 ^ 8)) c)
    ∙ assoc_bytes (a % 2 ^ 8) (b % 2 ^ 8) (c % 2 ^ 8) (low a) (low b) (low c)
    ∙ ap (λ t. field_product (a % 2 ^ 8) t) (sym (field_product-low b c)) ∙ field_product_low_left a (field_product b c)

pub one-field_product : (a : ℕ) → field_product 1 a ≡ a % 2 ^ 8
one-field_product a = sym (field_product_low_right 1 a) ∙ one_bytes (a % 2 ^ 8) (low a)

-- What the steps of the product's loop compute.
use Rattle.std.proofs.Common.{◌≡◌, ℕ, ◌+◌, ◌*◌, ◌%◌, ◌/◌, ◌^◌, ◌<◌, ◌≤◌, bit_xor, bit_and, refl, ap, sym, ◌∙◌, arith, true, eqb, inl, inr, zero-mul, one-mul, ◌≢◌, ◌-◌, subst}
use Rattle.std.specs.Int.{bit_at}
use Rattle.std.specs.Int.Bits.{xor_zero_l}
use Rattle.std.proofs.lemmas.Nat.Bits.{shr_and_one}
use Rattle.std.proofs.lemmas.Nat.{xor_comm}
use Rattle.std.proofs.lemmas.Bool.{eqb-true}
use Rattle.ec_model.specs.Field.{carry_less_product, remainder, field_product}
use Rattle.gf256.proofs.LinearLemmas.{bits_below-next, bit_cases}
use Rattle.gf256.proofs.FieldLemmas.{each_below, each_below_at, field_product_assoc, field_product-sum}

low_test : each_below 128 (λ a. eqb (a * 2 % 256) (field_product a 2)) ≡ true
unfolding field_product carry_less_product remainder
low_test = refl

high_test : each_below 128 (λ a. eqb (bit_xor ((a + 128) * 2 % 256) 29) (field_product (a + 128) 2)) ≡ true
unfolding field_product carry_less_product remainder
high_test = refl

pub doubled_low : (a : ℕ) → a < 128 → a * 2 % 256 ≡ field_product a 2
doubled_low a h = eqb-true _ _ (each_below_at 128 (λ a. eqb (a * 2 % 256) (field_product a 2)) low_test a h)

pub doubled_high : (a : ℕ) → 128 ≤ a → a < 256 → bit_xor (a * 2 % 256) 29 ≡ field_product a 2
doubled_high a low h =
    let e : a - 128 + 128 ≡ a = omega arith in
    let at : bit_xor ((a - 128 + 128) * 2 % 256) 29 ≡ field_product (a - 128 + 128) 2 =
    eqb-true _ _ (each_below_at 128 (λ a. eqb (bit_xor ((a + 128) * 2 % 256) 29) (field_product (a + 128) 2)) high_test (a - 128) (omega arith)) in
    let P : ℕ → Type 0 = λ n. bit_xor (n * 2 % 256) 29 ≡ field_product n 2 in
    subst P e at

power_test : each_below 7 (λ i. eqb (field_product (2 ^ i) 2) (2 ^ (i + 1))) ≡ true
unfolding field_product carry_less_product remainder
power_test = refl

-- the terms a, a x, a x ^ 2, ..
pub next_term : (a i term : ℕ) → a < 2 ^ 8 → (i < 8 → term ≡ field_product a (2 ^ i)) → i + 1 < 8 → field_product term 2 ≡ field_product a (2 ^ (i + 1))
next_term a i term ha h lt =
    let e : field_product (2 ^ i) 2 ≡ 2 ^ (i + 1) = eqb-true _ _ (each_below_at 7 (λ i. eqb (field_product (2 ^ i) 2) (2 ^ (i + 1))) power_test i (omega arith)) in
    ap (λ t. field_product t 2) (h (omega arith))
    ∙ field_product_assoc a (2 ^ i) 2
    ∙ ap (λ t. field_product a t) e

-- the sum of the terms of one bit more
pub next_sum_with : (a b i term sum : ℕ) → term ≡ field_product a (2 ^ i) → sum ≡ field_product a (b % 2 ^ i) → bit_and (b / 2 ^ i) 1 ≡ 1 →
    bit_xor sum term ≡ field_product a (b % 2 ^ (i + 1))
next_sum_with a b i term sum t s bit =
    let one : bit_at b i ≡ 1 = sym (shr_and_one b i) ∙ bit in
    rw (bits_below-next b i, field_product-sum a (bit_at b i * 2 ^ i) (b % 2 ^ i), one, one-mul (2 ^ i), xor_comm sum term) cc

pub next_sum_without : (a b i sum : ℕ) → sum ≡ field_product a (b % 2 ^ i) → bit_and (b / 2 ^ i) 1 ≢ 1 → sum ≡ field_product a (b % 2 ^ (i + 1))
next_sum_without a b i sum s bit =
    elim (bit_cases b i) [
      | inl e ↦ rw (bits_below-next b i, e, zero-mul (2 ^ i), xor_zero_l (b % 2 ^ i)) s
      | inr e ↦ absurd (bit (shr_and_one b i ∙ e))
    ]

-- Sums and quotients of bytes.
use Rattle.std.proofs.Common.{◌≡◌, ◌≢◌, ◌<◌, ◌^◌, ℕ, bit_xor, ap, sym, ◌∙◌}
use Rattle.std.specs.Int.Bits.{xor_self, xor_zero_l, xor_zero_r, xor_assoc}
use Rattle.std.proofs.Math.Nat.{mod-eq_of_lt}
use Rattle.std.proofs.lemmas.Nat.{xor_of_8}
use Rattle.ec_model.specs.Field.{field_product}
use Rattle.gf256.proofs.CallerLemmas.{no_zero_divisor, field_product_comm, field_product-sum}

pub equal_from_sum : (a b : ℕ) → bit_xor a b ≡ 0 → a ≡ b
equal_from_sum a b e = sym (xor_zero_r a) ∙ ap (λ t. bit_xor a t) (sym (xor_self b)) ∙ sym (xor_assoc a b b) ∙ ap (λ t. bit_xor t b) e ∙ xor_zero_l b

-- two bytes with one product by a number other than 0 are equal
pub one_quotient : (e f d : ℕ) → d ≢ 0 → d < 2 ^ 8 → e < 2 ^ 8 → f < 2 ^ 8 → field_product e d ≡ field_product f d → e ≡ f
one_quotient e f d some small be bf same =
    equal_from_sum e f (sym (mod-eq_of_lt (xor_of_8 e f be bf)) ∙ no_zero_divisor d (bit_xor e f) some small
    (field_product-sum d e f ∙ ap (λ t. bit_xor t (field_product d f)) (field_product_comm d e ∙ same ∙ field_product_comm f d) ∙ xor_self (field_product d f)))

pub product_some : (a b : ℕ) → a ≢ 0 → b ≢ 0 → a < 2 ^ 8 → b < 2 ^ 8 → field_product a b ≢ 0
product_some a b sa sb la lb e = sb (sym (mod-eq_of_lt lb) ∙ no_zero_divisor a b sa la e)

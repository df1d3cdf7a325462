-- The laws of the field of 256 elements. Source: this project.
use Rattle.std.specs.Prelude.{◌≡◌, ◌≢◌, ◌<◌, ◌^◌, ℕ, bit_xor}
use Rattle.ec_model.specs.Field.{field_product, IsInverse}

-- products commute and associate, distribute over sums, are bytes, and keep each byte if one factor is 1
pub record IsField : Type 0 where
  pub byte : (a b : ℕ) → field_product a b < 2 ^ 8
  pub commutative : (a b : ℕ) → field_product a b ≡ field_product b a
  pub associative : (a b c : ℕ) → field_product (field_product a b) c ≡ field_product a (field_product b c)
  pub distributive : (a b c : ℕ) → field_product a (bit_xor b c) ≡ bit_xor (field_product a b) (field_product a c)
  pub one : (a : ℕ) → a < 2 ^ 8 → field_product a 1 ≡ a
  pub zero : (a : ℕ) → field_product a 0 ≡ 0
  pub inverse : (a : ℕ) → a ≢ 0 → a < 2 ^ 8 → (b : ℕ) × IsInverse a b

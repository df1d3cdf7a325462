-- The field of 256 elements. Source: this project, with the polynomial 0x11d.
-- A number stands for a polynomial over the two elements 0 and 1: the coefficient of x ^ i is the number's bit i. So a byte
-- is a polynomial of degree below 8. The sum of two polynomials is `bit_xor`.
use Rattle.std.specs.Prelude.{◌≡◌, ℕ, ◌+◌, ◌*◌, ◌%◌, ◌^◌, ◌<◌, zero, suc, bit_xor}
use Rattle.std.specs.Int.{bit_at}

-- the product of two polynomials, the second of degree below n: the sum of a * x ^ i over its terms x ^ i
unfoldable pub carry_less_product : ℕ → ℕ → ℕ → ℕ
carry_less_product zero a b = 0
carry_less_product (suc i) a b = bit_xor (carry_less_product i a b) (bit_at b i * (a * 2 ^ i))

-- the remainder of a polynomial of degree below n + 8 on division by x ^ 8 + x ^ 4 + x ^ 3 + x ^ 2 + 1
unfoldable pub remainder : ℕ → ℕ → ℕ
remainder zero p = p
remainder (suc i) p = remainder i (bit_xor p (bit_at p (i + 8) * (0x11d * 2 ^ i)))

-- the product of two bytes in the field; of larger numbers it takes the low bytes
unfoldable pub field_product : ℕ → ℕ → ℕ
field_product a b = remainder 7 (carry_less_product 8 (a % 2 ^ 8) (b % 2 ^ 8))

-- the one byte whose product with a is 1
pub record IsInverse (a b : ℕ) : Type 0 where
  pub byte : b < 2 ^ 8
  pub product : field_product a b ≡ 1
  pub only : (c : ℕ) → c < 2 ^ 8 → field_product a c ≡ 1 → c ≡ b

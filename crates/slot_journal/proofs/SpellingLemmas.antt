-- Numbers that were read are spelled as they stood.
use Rattle.std.proofs.Common.{◌≡◌, ◌≤◌, ◌<◌, ◌+◌, ◌*◌, ◌/◌, ◌%◌, ℕ, List, [], ◌∷◌, length, get_or, take, arith}
use Rattle.byteorder.specs.Endian.{big_bytes, big_number}

module _ (x a b c d : ℕ) (is : x ≡ a * 16777216 + (b * 65536 + (c * 256 + d))) (fa : a < 256) (fb : b < 256) (fc : c < 256) (fd : d < 256) where
  digit_a : x / 16777216 % 256 ≡ a
  digit_a = omega (arith, is, fa, fb, fc, fd)

  digit_b : x / 65536 % 256 ≡ b
  digit_b = omega (arith, is, fa, fb, fc, fd)

  digit_c : x / 256 % 256 ≡ c
  digit_c = omega (arith, is, fa, fb, fc, fd)

  digit_d : x % 256 ≡ d
  digit_d = omega (arith, is, fa, fb, fc, fd)

  pub digits : big_bytes 4 x ≡ a ∷ b ∷ c ∷ d ∷ []
  digits = λ i. digit_a i ∷ digit_b i ∷ digit_c i ∷ digit_d i ∷ []

-- a length's four bytes are those that spell it
pub spelled : (rest : List ℕ) → 4 ≤ length rest → ((i : ℕ) → get_or rest i 0 < 256) → big_bytes 4 (big_number 4 rest) ≡ take 4 rest
spelled [] le fits = absurd (omega (arith, le))
spelled (a ∷ []) le fits = absurd (omega (arith, le))
spelled (a ∷ b ∷ []) le fits = absurd (omega (arith, le))
spelled (a ∷ b ∷ c ∷ []) le fits = absurd (omega (arith, le))
spelled (a ∷ b ∷ c ∷ d ∷ rest) le fits = digits (big_number 4 (a ∷ b ∷ c ∷ d ∷ rest)) a b c d (omega arith) (fits 0) (fits 1) (fits 2) (fits 3)

module _ (x a b c d e f g h : ℕ) (is : x ≡ (a * 16777216 + (b * 65536 + (c * 256 + d))) * 4294967296 + (e * 16777216 + (f * 65536 + (g * 256 + h))))
    (fa : a < 256) (fb : b < 256) (fc : c < 256) (fd : d < 256) (fe : e < 256) (ff : f < 256) (fg : g < 256) (fh : h < 256) where
  high : ℕ
  high = a * 16777216 + (b * 65536 + (c * 256 + d))

  low : ℕ
  low = e * 16777216 + (f * 65536 + (g * 256 + h))

  digit8_a : x / 72057594037927936 % 256 ≡ a
  digit8_a = omega (arith, is, fa, fb, fc, fd, fe, ff, fg, fh)

  digit8_b : x / 281474976710656 % 256 ≡ b
  digit8_b = omega (arith, is, fa, fb, fc, fd, fe, ff, fg, fh)

  digit8_c : x / 1099511627776 % 256 ≡ c
  digit8_c = omega (arith, is, fa, fb, fc, fd, fe, ff, fg, fh)

  digit8_d : x / 4294967296 % 256 ≡ d
  digit8_d = omega (arith, is, fa, fb, fc, fd, fe, ff, fg, fh)

  digit8_e : x / 16777216 % 256 ≡ e
  digit8_e = omega (arith, is, fa, fb, fc, fd, fe, ff, fg, fh)

  digit8_f : x / 65536 % 256 ≡ f
  digit8_f = omega (arith, is, fa, fb, fc, fd, fe, ff, fg, fh)

  digit8_g : x / 256 % 256 ≡ g
  digit8_g = omega (arith, is, fa, fb, fc, fd, fe, ff, fg, fh)

  digit8_h : x % 256 ≡ h
  digit8_h = omega (arith, is, fa, fb, fc, fd, fe, ff, fg, fh)

  pub digits8 : big_bytes 8 x ≡ a ∷ b ∷ c ∷ d ∷ e ∷ f ∷ g ∷ h ∷ []
  digits8 = λ i. digit8_a i ∷ digit8_b i ∷ digit8_c i ∷ digit8_d i ∷ digit8_e i ∷ digit8_f i ∷ digit8_g i ∷ digit8_h i ∷ []

-- a number's eight bytes are those that spell it
pub spelled8 : (rest : List ℕ) → 8 ≤ length rest → ((i : ℕ) → get_or rest i 0 < 256) → big_bytes 8 (big_number 8 rest) ≡ take 8 rest
spelled8 (a ∷ b ∷ c ∷ d ∷ e ∷ f ∷ g ∷ h ∷ rest) le fits =
    digits8 (big_number 8 (a ∷ b ∷ c ∷ d ∷ e ∷ f ∷ g ∷ h ∷ rest)) a b c d e f g h (omega arith) (fits 0) (fits 1) (fits 2) (fits 3) (fits 4) (fits 5) (fits 6) (fits 7)
spelled8 [] le fits = absurd (omega (arith, le))
spelled8 (a ∷ []) le fits = absurd (omega (arith, le))
spelled8 (a ∷ b ∷ []) le fits = absurd (omega (arith, le))
spelled8 (a ∷ b ∷ c ∷ []) le fits = absurd (omega (arith, le))
spelled8 (a ∷ b ∷ c ∷ d ∷ []) le fits = absurd (omega (arith, le))
spelled8 (a ∷ b ∷ c ∷ d ∷ e ∷ []) le fits = absurd (omega (arith, le))
spelled8 (a ∷ b ∷ c ∷ d ∷ e ∷ f ∷ []) le fits = absurd (omega (arith, le))
spelled8 (a ∷ b ∷ c ∷ d ∷ e ∷ f ∷ g ∷ []) le fits = absurd (omega (arith, le))

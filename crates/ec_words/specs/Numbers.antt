-- Numbers in texts. Source: this project.
use Rattle.std.specs.Prelude.{◌≡◌, ◌⊎◌, ◌<◌, ◌≤◌, ◌^◌, ℕ, List, [], ◌∷◌, length, slice_index}
use Rattle.std.specs.Fmt.{decimal}

-- a text is a number below 2 ^ 64 as it is printed: its decimal digits, with a leading zero only in `0`
abbrev pub IsNumberText : List ℕ → ℕ → Type 0
IsNumberText text n = (n < 2 ^ 64) × (text ≡ decimal n)

-- the first byte is a digit, and a `0` stands alone
pub record StartsAsNumber (text : List ℕ) : Type 0 where
  pub some : 1 ≤ length text
  pub digit : (48 ≤ slice_index text 0) × (slice_index text 0 < 58)
  pub alone : slice_index text 0 ≡ 48 → length text ≡ 1

-- a number is among the numbers of a list
abbrev pub OneOf : ℕ → List ℕ → Type 0
OneOf n [] = ⊥
OneOf n (one ∷ more) = (n ≡ one) ⊎ OneOf n more

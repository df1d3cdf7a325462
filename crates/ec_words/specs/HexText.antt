-- Hexadecimal texts. Source: this project.
use Rattle.std.specs.Prelude.{◌≡◌, ◌⊎◌, ◌<◌, ◌≤◌, ◌+◌, ◌*◌, ◌%◌, ◌==◌, ◌&&◌, ◌||◌, nat_le, ℕ, Bool, List, [], ◌∷◌, length}
use Rattle.std.specs.List.{list_all}

-- `0` to `9`, `a` to `f` or `A` to `F`
abbrev pub is_digit : ℕ → Bool
is_digit b = (nat_le 48 b && nat_le b 57) || ((nat_le 97 b && nat_le b 102) || (nat_le 65 b && nat_le b 70))

-- an even number of digits
abbrev pub is_hex_text : List ℕ → Bool
is_hex_text text = (length text % 2 == 0) && list_all is_digit text

-- a digit has this value: `0` to `9` are 48 to 57, `a` to `f` are 97 to 102, and `A` to `F` are 65 to 70
abbrev pub HasValue : ℕ → ℕ → Type 0
HasValue digit value =
    ((value < 10) × (digit ≡ 48 + value))
    ⊎ ((10 ≤ value) × (value < 16) × ((digit ≡ 87 + value) ⊎ (digit ≡ 55 + value)))

-- two digits spell a byte, the high four bits first
pub record SpellsByte (high low byte : ℕ) : Type 0 where
  pub high_bits : ℕ
  pub low_bits : ℕ
  pub high_digit : HasValue high high_bits
  pub low_digit : HasValue low low_bits
  pub both : byte ≡ high_bits * 16 + low_bits

-- a text spells some bytes: two digits for each byte
abbrev pub SpellsBytes : List ℕ → List ℕ → Type 0
SpellsBytes [] [] = Unit {0}
SpellsBytes (high ∷ low ∷ text) (byte ∷ bytes) = SpellsByte high low byte × SpellsBytes text bytes
SpellsBytes text bytes = ⊥

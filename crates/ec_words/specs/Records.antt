-- Numbers in records. Source: this project. A number has a fixed count of bytes, the most significant first.
use Rattle.std.specs.Prelude.{◌≡◌, ◌≤◌, ◌+◌, ℕ, List, length, take, drop}
use Rattle.std.specs.Int.{bytes_high_first}

-- from `at` on a text has these bytes
pub record HasAt (text : List ℕ) (at : ℕ) (bytes : List ℕ) : Type 0 where
  pub inside : at + length bytes ≤ length text
  pub there : take (length bytes) (drop at text) ≡ bytes

-- from `at` on a text has the `count` bytes of the number n
abbrev pub HasNumberAt : List ℕ → ℕ → ℕ → ℕ → Type 0
HasNumberAt text at count n = HasAt text at (bytes_high_first count n)

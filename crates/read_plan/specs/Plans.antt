-- The least set of positions to read. Source: this project. A set is a mask of positions below 16.
use Rattle.std.specs.Prelude.{◌≡◌, ◌≢◌, ◌<◌, ◌⊎◌, ℕ}
use Rattle.std.specs.Int.{bit_at}
use Rattle.ec_model.specs.Codes.{CodeRows, HasPosition, Decides, count_below}

-- each position of one set is a position of the other
abbrev pub LiesIn : ℕ → ℕ → Type 0
LiesIn one other = (p : ℕ) → HasPosition one p → HasPosition other p

-- how many positions a set has
unfoldable pub size_of : ℕ → ℕ
size_of set = count_below set 16

-- of two sets of one size the first comes earlier by ascending lists: it alone has the least position in which they differ
pub record ComesBefore (one other : ℕ) : Type 0 where
  pub at : ℕ
  pub has : HasPosition one at
  pub lacks : HasPosition other at → ⊥
  pub alike : (p : ℕ) → p < at → bit_at one p ≡ bit_at other p

-- one set is less than the other: by size, and then by their ascending lists
abbrev pub IsLess : ℕ → ℕ → Type 0
IsLess one other = (size_of one < size_of other) ⊎ ((size_of one ≡ size_of other) × ComesBefore one other)

-- the least set of available positions that decides the wanted ones
pub record IsLeastPlan (code : CodeRows) (avail wanted plan : ℕ) : Type 0 where
  pub available : LiesIn plan avail
  pub decides : Decides code plan wanted
  pub least : (other : ℕ) → LiesIn other avail → Decides code other wanted → other ≢ plan → IsLess plan other

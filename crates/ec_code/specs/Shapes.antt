-- The numbers of a code. Source: this project.
use Rattle.std.specs.Prelude.{◌≡◌, ◌+◌, ◌-◌, ℕ, min}
use Rattle.ec_model.specs.Codes.{CodeRows}

-- a code has k data chunks, n positions, and this divisor of chunk sizes
pub record HasShape (code : CodeRows) (k n lead : ℕ) : Type 0 where
  pub same_k : k ≡ code.k
  pub same_n : n ≡ code.n
  pub same_lead : lead ≡ code.lead

-- the least number of positions that a pool works with if its profile does not say: k, and one more if there are two coding
-- chunks or more
abbrev pub default_least : ℕ → ℕ → ℕ
default_least k n = k + min 1 (n - k - 1)

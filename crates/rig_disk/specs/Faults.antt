-- Counts of faults. Source: this project.
use Rattle.std.specs.Prelude.{◌≡◌, ℕ, ◌+◌, ◌-◌, ◌^◌, ◌≤◌, min, Result, OnOk, OnErr}

-- the largest count, at which a count stands still
abbrev pub count_limit : ℕ
count_limit = 2 ^ 64 - 1

-- a count rose; one that stands at the largest counts as risen
abbrev pub Rose : ℕ → ℕ → Type 0
Rose before now = min (before + 1) count_limit ≤ now

-- the count of a call: it never falls, stays if the call succeeds, rises if it fails, and stands still
-- at the largest
pub record HasCause {T E : Type 0} (before now : ℕ) (result : Result T E) : Type 0 where
  pub later : before ≤ now
  pub kept : OnOk result (now ≡ before)
  pub failed : OnErr result (Rose before now)
  pub at_limit : before ≡ count_limit → now ≡ before

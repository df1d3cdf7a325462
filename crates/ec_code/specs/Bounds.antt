-- Settings that are given, and the bounds that every plugin has. Source: this project, with Ceph's bounds.
use Rattle.std.specs.Prelude.{◌≡◌, ◌≤◌, ◌%◌, ℕ, Some}
use Rattle.std.specs.declared.option.Option.{Option}

-- a setting that is given has this
abbrev pub Given : {A : Type 0} → Option A → (A → Type 0) → Type 0
Given {A} setting P = (value : A) × (setting ≡ Some value) × P value

-- bytes of a chunk in one stripe: a multiple of 32 up to 65,536
abbrev pub IsUnit : ℕ → Type 0
IsUnit unit = (32 ≤ unit) × (unit ≤ 65536) × (unit % 32 ≡ 0)

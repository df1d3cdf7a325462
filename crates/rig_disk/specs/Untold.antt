-- A rig that tells nothing. Source: this project.
use Rattle.std.specs.Prelude.{◌≡◌, ℕ, List, Option, None, Some}

-- a value that is untold is not told
pub none_told : {bytes : List ℕ} → ◌≡◌ {A = Option (List ℕ)} None (Some bytes) → ⊥
none_told e = cc

-- Versions of a pool's objects. Source: this project.
use Rattle.std.specs.Prelude.{ℕ, Bool, ◌&&◌, ◌||◌, nat_lt, nat_le, ◌==◌, refl}
use Rattle.std.specs.Coded.{Coded, code_by, coded×, coded_ℕ}

-- the epoch of the interval in which a change was made, and its number: 1 for a pool's first change
pub record Version : Type 0 where
  pub epoch : ℕ
  pub seq : ℕ

-- a version is stored as its two numbers
abbrev pub version_code : Coded Version
version_code =
    code_by (ℕ × ℕ) (coded× coded_ℕ coded_ℕ) (λ v. (v.epoch, v.seq)) (λ p. record { epoch = p.0; seq = p.1 }) (λ _. refl)

-- a is not above b: versions are ordered by epoch, and then by number
abbrev pub is_up_to : Version → Version → Bool
is_up_to a b = nat_lt a.epoch b.epoch || (a.epoch == b.epoch && nat_le a.seq b.seq)

-- both are the same version
abbrev pub is_same : Version → Version → Bool
is_same a b = a.epoch == b.epoch && a.seq == b.seq

-- the version before any change
abbrev pub zero_version : Version
zero_version = record { epoch = 0; seq = 0 }

-- Stripes that a range of bytes touches. Source: Ceph developer guide, "Erasure Coded pool" (stripe_width = k * stripe_unit).
-- `width` is the number of bytes of a stripe; the range is the `len` bytes from `off` on.
use Rattle.std.specs.Prelude.{◌≡◌, ◌↔◌, ℕ, ◌+◌, ◌/◌, ◌<◌, ◌≤◌}

-- a stripe has a byte of the range
pub record Holds (width off len stripe : ℕ) : Type 0 where
  pub at : ℕ
  pub from : off ≤ at
  pub below : at < off + len
  pub here : at / width ≡ stripe

-- the `count` stripes from `first` on have a byte of the range, and no other stripe has
abbrev pub IsTouched : ℕ → ℕ → ℕ → ℕ → ℕ → Type 0
IsTouched width off len first count =
    (stripe : ℕ) → ((first ≤ stripe) × (stripe < first + count)) ↔ Holds width off len stripe

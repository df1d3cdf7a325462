-- Sums into slices. Source: this project.
use Rattle.std.specs.Prelude.{◌≡◌, ◌<◌, ◌≤◌, ℕ, List, slice_index, bit_xor}

-- at the places from low up to high f of the byte of `from` was added; elsewhere nothing has changed
pub record AddsWithin (f : ℕ → ℕ) (low high : ℕ) (old from new : List ℕ) : Type 0 where
  pub inside : (k : ℕ) → low ≤ k → k < high → slice_index new k ≡ bit_xor (slice_index old k) (f (slice_index from k))
  pub below : (k : ℕ) → k < low → slice_index new k ≡ slice_index old k
  pub above : (k : ℕ) → high ≤ k → slice_index new k ≡ slice_index old k

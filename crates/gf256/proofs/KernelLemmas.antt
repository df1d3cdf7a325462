-- Sums into a slice, one range after another.
use Rattle.std.proofs.Common.{◌≡◌, ℕ, ◌+◌, ◌*◌, ◌/◌, ◌<◌, ◌≤◌, List, length, get_or, bit_xor, set, inl, inr, refl, sym, ap, subst, ◌∙◌, arith}
use Rattle.std.proofs.lemmas.Bool.{cases_lt}
use Rattle.std.proofs.lemmas.List.{get_or-set_same, get_or-set_other}
use Rattle.gf256.specs.Kernels.{AddsWithin}

pub nothing_added : (f : ℕ → ℕ) (at : ℕ) (old from : List ℕ) → AddsWithin f at at old from old
nothing_added f at old from = record { inside = λ k low high. absurd (omega arith); below = λ k _. refl; above = λ k _. refl }

pub added_then : (f : ℕ → ℕ) (low middle high : ℕ) (old now from new : List ℕ) → low ≤ middle → middle ≤ high
    → AddsWithin f low middle old from now → AddsWithin f middle high now from new → AddsWithin f low high old from new
added_then f low middle high old now from new one two first second = record {
  inside = λ k from_low to_high. elim (cases_lt k middle) [
    | inl before ↦ second.below k before ∙ first.inside k from_low before
    | inr after ↦ second.inside k after to_high ∙ ap (λ b. bit_xor b (f (get_or from k 0))) (first.above k after)
  ];
  below = λ k under. second.below k (omega arith) ∙ first.below k under;
  above = λ k over. second.above k over ∙ first.above k (omega arith);
}

pub one_added : (f : ℕ → ℕ) (i : ℕ) (now from : List ℕ) → i < length now → AddsWithin f i (i + 1) now from (set now i (bit_xor (get_or now i 0) (f (get_or from i 0))))
one_added f i now from inside = record {
  inside = λ k low high.
      let same : k ≡ i = omega arith in
      ap (λ n. get_or (set now i (bit_xor (get_or now i 0) (f (get_or from i 0)))) n 0) same
      ∙ get_or-set_same now i (bit_xor (get_or now i 0) (f (get_or from i 0))) 0 inside
      ∙ ap (λ n. bit_xor (get_or now n 0) (f (get_or from n 0))) (sym same);
  below = λ k under. get_or-set_other now i k (bit_xor (get_or now i 0) (f (get_or from i 0))) 0 (λ e. omega arith);
  above = λ k over. get_or-set_other now i k (bit_xor (get_or now i 0) (f (get_or from i 0))) 0 (λ e. omega arith);
}

-- a byte more, at the end of a range
pub byte_added : (f : ℕ → ℕ) (low i : ℕ) (old now from : List ℕ) → low ≤ i → i < length now → AddsWithin f low i old from now
    → AddsWithin f low (i + 1) old from (set now i (bit_xor (get_or now i 0) (f (get_or from i 0))))
byte_added f low i old now from high inside so_far =
    added_then f low i (i + 1) old now from (set now i (bit_xor (get_or now i 0) (f (get_or from i 0)))) high (omega arith) so_far (one_added f i now from inside)

-- a block more, at the end of a range
pub block_added : (f : ℕ → ℕ) (block : ℕ) (old now from new : List ℕ) → AddsWithin f 0 (block * 32) old from now
    → AddsWithin f (block * 32) (block * 32 + 32) now from new → AddsWithin f 0 ((block + 1) * 32) old from new
block_added f block old now from new so_far more =
    let end : (block + 1) * 32 ≡ block * 32 + 32 = omega arith in
    subst (λ n. AddsWithin f 0 n old from new) (sym end) (added_then f 0 (block * 32) (block * 32 + 32) old now from new (omega arith) (omega arith) so_far more)

-- all blocks, and then the rest
pub all_added : (f : ℕ → ℕ) (old now from new : List ℕ) → AddsWithin f 0 (length from / 32 * 32) old from now
    → AddsWithin f (length from / 32 * 32) (length from) now from new → AddsWithin f 0 (length from) old from new
all_added f old now from new blocks rest =
    added_then f 0 (length from / 32 * 32) (length from) old now from new (omega arith) (omega arith) blocks rest

-- The chunks of a stripe, one after another.
use Rattle.std.proofs.Common.{◌≡◌, ℕ, List, ◌+◌, ◌-◌, ◌*◌, ◌<◌, ◌≤◌, ◌++◌, length, slice_index, take, get_or, bit_xor, ap, sym, ◌∙◌, arith, add-one, inl, inr, refl, zero, suc}
use borrow.Rule.Slice.PartMut.{put_mid, post_of}
use Rattle.std.proofs.lemmas.List.{get_or_append_left, get_or-append_right, get_or-take, length-take-le}
use Rattle.std.proofs.lemmas.Bool.{cases_eq}
use Rattle.std.proofs.lemmas.Nat.{mul-add-lt}
use Rattle.std.specs.Int.Bits.{xor_zero_l}
use Rattle.ec_model.specs.Field.{field_product}
use Rattle.gf256.proofs.CallerLemmas.{zero-field_product}
use Rattle.ec_model.specs.Rows.{sum_below, row_at, entry_at}
use Rattle.ec_code.specs.Encoding.{IsChunk, AreChunks}

pub next_sum : (j : ℕ) (f : ℕ → ℕ) (old new : ℕ) → new ≡ bit_xor old (f j) → old ≡ sum_below j f → new ≡ sum_below (j + 1) f
unfolding sum_below
next_sum j f old new step so_far = rw (add-one j) (step ∙ ap (λ t. bit_xor t (f j)) so_far)

inside : (a k : ℕ) (xs ys : List ℕ) (b : ℕ) → a ≤ length xs → b < length ys → get_or (put_mid a k xs ys) (a + b) 0 ≡ get_or ys b 0
inside a k xs ys b room lt =
    let e : a + b - a ≡ b = omega arith in
    get_or-append_right (take a xs) (ys ++ post_of a k xs) a (a + b) 0 (length-take-le a xs room) (omega arith)
    ∙ ap (λ t. get_or (ys ++ post_of a k xs) t 0) e
    ∙ get_or_append_left ys (post_of a k xs) 0 b lt

before : (a k : ℕ) (xs ys : List ℕ) (i : ℕ) → a ≤ length xs → i < a → get_or (put_mid a k xs ys) i 0 ≡ get_or xs i 0
before a k xs ys i room lt =
    get_or_append_left (take a xs) (ys ++ post_of a k xs) 0 i (omega (arith, length-take-le a xs room)) ∙ get_or-take a xs i 0 lt

-- one more chunk is written
pub next_chunk : (k unit p : ℕ) (rows : List (List ℕ)) (stripe out chunk : List ℕ) → p * unit ≤ length out → length chunk ≡ unit →
    AreChunks k rows stripe unit out p → IsChunk k (row_at rows p) stripe unit chunk →
    AreChunks k rows stripe unit (put_mid (p * unit) (p * unit + unit - p * unit) out chunk) (p + 1)
next_chunk k unit p rows stripe out chunk room long old new = λ q b lq lb. elim (cases_eq q p) [
  | inl e ↦
      ap (λ t. slice_index (put_mid (p * unit) (p * unit + unit - p * unit) out chunk) (t * unit + b)) e
      ∙ inside (p * unit) (p * unit + unit - p * unit) out chunk b room (omega arith) ∙ new b lb
      ∙ sym (ap (λ t. sum_below k (λ j. field_product (entry_at rows t j) (slice_index stripe (j * unit + b)))) e)
  | inr ne ↦
      before (p * unit) (p * unit + unit - p * unit) out chunk (q * unit + b) room (earlier q b lb (below q lq ne)) ∙ old q b (below q lq ne) lb
]
  where
    below : (q : ℕ) → q < p + 1 → (q ≡ p → ⊥) → q < p
    below q lt ne = grind arith

    earlier : (q b : ℕ) → b < unit → q < p → q * unit + b < p * unit
    earlier q b lb lq = omega (arith, mul-add-lt q unit b p lq lb)

-- products with zeros add nothing
pub zeros_add_nothing : (n : ℕ) (row : List ℕ) (f : ℕ → ℕ) → ((j : ℕ) → j < n → slice_index row j ≡ 0) → sum_below n (λ j. field_product (slice_index row j) (f j)) ≡ 0
unfolding sum_below
zeros_add_nothing zero row f zeros = refl
zeros_add_nothing (suc n) row f zeros =
    ap (λ t. bit_xor t (field_product (slice_index row n) (f n))) (zeros_add_nothing n row f (λ j lt. zeros j (omega arith)))
    ∙ ap (λ t. bit_xor 0 (field_product t (f n))) (zeros n (omega arith))
    ∙ ap (bit_xor 0) (zero-field_product (f n))
    ∙ xor_zero_l 0

-- the first product that is written, behind those with zeros
pub first_product : (n : ℕ) (row : List ℕ) (f : ℕ → ℕ) (new : ℕ) → ((j : ℕ) → j < n → slice_index row j ≡ 0)
    → new ≡ field_product (slice_index row n) (f n) → new ≡ sum_below (n + 1) (λ j. field_product (slice_index row j) (f j))
first_product n row f new zeros is =
    next_sum n (λ j. field_product (slice_index row j) (f j)) 0 new (is ∙ sym (xor_zero_l (field_product (slice_index row n) (f n)))) (sym (zeros_add_nothing n row f zeros))

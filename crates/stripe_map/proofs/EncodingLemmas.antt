-- The list of a position, written stripe after stripe, with the last stripe padded.
use Rattle.std.proofs.Common.{◌≡◌, ℕ, List, ◌+◌, ◌-◌, ◌*◌, ◌/◌, ◌<◌, ◌≤◌, ◌++◌, length, slice_index, take, drop, replicate, ap, sym, subst, ◌∙◌, arith, inl, inr, length-append, length-drop}
use Rattle.std.specs.Int.{div_ceil}
use Rattle.std.proofs.lemmas.Bool.{cases_eq}
use Rattle.std.proofs.lemmas.List.{get_or_append_left, get_or-append_right, get_or-take, get_or-drop, length-replicate, drop-append-le, take_all}
use Rattle.std.proofs.lemmas.Nat.{mul-add-lt}
use Rattle.std.proofs.Math.Nat.{div-mul-le_self, lt-div-mul-add}
use Rattle.ec_model.specs.Field.{field_product}
use Rattle.ec_model.specs.Rows.{sum_below, entry_at}
use Rattle.ec_model.specs.Stripes.{stripe_count, shard_len, padded, chunk_at}
use Rattle.ec_model.specs.Codes.{CodeRows, IsPositionList}
use Rattle.ec_code.specs.Encoding.{IsChunk}
use Rattle.ec_matrix.proofs.CallerLemmas.{sum_below-same}
use Rattle.stripe_map.specs.Encoding.{last_stripe, HasStripes}

pub times_next : (n unit : ℕ) → (n + 1) * unit ≡ n * unit + unit
times_next n unit = grind arith

-- ---- the last stripe

-- the stripe that ends past the bytes begins where the whole stripes end
is_last : (width size t : ℕ) → 0 < width → t < div_ceil size width → size < t * width + width → t ≡ size / width
is_last width size t pos inside past =
    let low : size / width * width ≤ size = div-mul-le_self size width in
    let above : size / width < t + 1 = fewer (size / width) (t + 1) (omega (arith, times_next t width)) in
    omega arith
  where
    fewer : (a b : ℕ) → a * width < b * width → a < b
    fewer a b lt = grind arith

pub padded_rest_is : (k unit : ℕ) (bytes : List ℕ) (t : ℕ) → 1 ≤ k * unit → t < stripe_count k unit (length bytes) → length bytes < t * (k * unit) + k * unit
    → last_stripe (k * unit) bytes ≡ chunk_at (k * unit) (padded k unit bytes) t
padded_rest_is k unit bytes t some inside past =
    let width = k * unit in
    let count = stripe_count k unit (length bytes) in
    let start = length bytes / width * width in
    let rest = drop start bytes in
    let zeros = count * width - length bytes in
    let at : t ≡ length bytes / width = is_last width (length bytes) t (omega arith) inside past in
    let low : start ≤ length bytes = div-mul-le_self (length bytes) width in
    let high : length bytes < start + width = lt-div-mul-add some in
    let next : count ≡ t + 1 = omega (arith, at, inside) in
    let rows : count * width ≡ t * width + width = ap (λ n. n * width) next ∙ times_next t width in
    let here : t * width ≡ start = ap (λ n. n * width) at in
    let long : length rest ≡ length bytes - start = length-drop start bytes in
    let room : width - length rest ≡ zeros = omega (arith, rows, here) in
    let all : length (rest ++ replicate zeros 0) ≡ width = length-append rest (replicate zeros 0) ∙ ap (λ n. length rest + n) (length-replicate zeros 0) ∙ omega (arith, rows, here) in
    ap (λ n. rest ++ replicate n 0) room
    ∙ sym (take_all width (rest ++ replicate zeros 0) (omega (arith, all)))
    ∙ ap (take width) (sym (drop-append-le start bytes (replicate zeros 0) low) ∙ ap (λ n. drop n (padded k unit bytes)) (sym here))

-- ---- one stripe after another

-- a byte of stripe t, as a byte of the whole
stripe_byte : (k unit : ℕ) (whole : List ℕ) (t j b : ℕ) → j < k → b < unit
    → slice_index (chunk_at (k * unit) whole t) (j * unit + b) ≡ slice_index whole ((t * k + j) * unit + b)
stripe_byte k unit whole t j b inside lt =
    let below : j * unit + b < k * unit = omega (arith, mul-add-lt j unit b k inside lt) in
    let place : t * (k * unit) + (j * unit + b) ≡ (t * k + j) * unit + b = grind arith in
    get_or-take (k * unit) (drop (t * (k * unit)) whole) (j * unit + b) 0 below ∙ get_or-drop (t * (k * unit)) whole (j * unit + b) 0 ∙ ap (slice_index whole) place

-- the chunk of one stripe more stands behind those of the stripes before it
pub next_stripe : (k unit : ℕ) (row bytes stripe out chunk : List ℕ) (t : ℕ) → length out ≡ t * unit → length chunk ≡ unit
    → stripe ≡ chunk_at (k * unit) (padded k unit bytes) t → IsChunk k row stripe unit chunk → HasStripes k unit row bytes t out
    → HasStripes k unit row bytes (t + 1) (out ++ chunk)
next_stripe k unit row bytes stripe out chunk t behind long is new so_far = λ s b ls lb. elim (cases_eq s t) [
  | inl e ↦
      let place : t * unit + b - t * unit ≡ b = omega arith in
      ap (λ n. slice_index (out ++ chunk) (n * unit + b)) e
      ∙ get_or-append_right out chunk (t * unit) (t * unit + b) 0 behind (omega arith)
      ∙ ap (slice_index chunk) place ∙ new b lb
      ∙ sum_below-same k (λ j. field_product (slice_index row j) (slice_index stripe (j * unit + b)))
      (λ j. field_product (slice_index row j) (slice_index (padded k unit bytes) ((t * k + j) * unit + b)))
      (λ j lj. ap (field_product (slice_index row j)) (ap (λ l. slice_index l (j * unit + b)) is ∙ stripe_byte k unit (padded k unit bytes) t j b lj lb))
      ∙ ap (λ n. sum_below k (λ j. field_product (slice_index row j) (slice_index (padded k unit bytes) ((n * k + j) * unit + b)))) (sym e)
  | inr ne ↦
      let before : s * unit + b < length out = omega (arith, earlier s b lb (below s ls ne), behind) in
      get_or_append_left out chunk 0 (s * unit + b) before ∙ so_far s b (below s ls ne) lb
]
  where
    below : (s : ℕ) → s < t + 1 → (s ≡ t → ⊥) → s < t
    below s lt ne = grind arith

    earlier : (s b : ℕ) → b < unit → s < t → s * unit + b < t * unit
    earlier s b lb ls = omega (arith, mul-add-lt s unit b t ls lb)

-- all stripes are there
pub position_list : (code : CodeRows) (k unit : ℕ) (row bytes : List ℕ) (p : ℕ) (list : List ℕ) → k ≡ code.k
    → ((j : ℕ) → j < code.k → slice_index row j ≡ entry_at code.rows p j) → length list ≡ shard_len k unit (length bytes)
    → HasStripes k unit row bytes (stripe_count k unit (length bytes)) list → IsPositionList code unit bytes p list
position_list code k unit row bytes p list same entries long has = record {
  long = long ∙ ap (λ k. shard_len k unit (length bytes)) same;
  sums = λ t b lt lb.
      subst (λ k. HasStripes k unit row bytes (stripe_count k unit (length bytes)) list) same has t b lt lb
      ∙ sum_below-same code.k (λ j. field_product (slice_index row j) (slice_index (padded code.k unit bytes) ((t * code.k + j) * unit + b)))
      (λ j. field_product (entry_at code.rows p j) (slice_index (padded code.k unit bytes) ((t * code.k + j) * unit + b)))
      (λ j lj. ap (λ e. field_product e (slice_index (padded code.k unit bytes) ((t * code.k + j) * unit + b))) (entries j lj));
}

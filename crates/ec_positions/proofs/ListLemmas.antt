-- The list of a position, byte by byte.
use Rattle.std.proofs.Common.{◌≡◌, ℕ, ◌+◌, ◌*◌, ◌/◌, ◌%◌, ◌<◌, ◌≤◌, List, length, slice_index, sym, ap, ◌∙◌, arith, subst}
use Rattle.std.proofs.lemmas.Grind.{div_ceil_times, same_number_lists}
use Rattle.std.proofs.lemmas.List.{places}
use Rattle.std.proofs.lemmas.List.FromFn.{get_or-map-range_with_len, length-map-range_with_len}
use Rattle.std.proofs.lemmas.Nat.{div-mul-add, mod-mul-add, div-add-mod', mod_below, mul-add-lt, le-div, mul-le, div_below}
use Rattle.ec_model.specs.Codes.{CodeRows, IsPositionList}
use Rattle.ec_model.specs.Field.{field_product}
use Rattle.ec_model.specs.Rows.{entry_at}
use Rattle.ec_model.specs.Stripes.{stripe_count, shard_len, padded}
use Rattle.ec_matrix.proofs.CallerLemmas.{sum_below-same, sum_below-zero}
use Rattle.gf256.proofs.CallerLemmas.{field_product-zero}
use Rattle.ec_positions.specs.Positions.{position_byte, position_list}

pub length-position_list : (code : CodeRows) (unit : ℕ) (bytes : List ℕ) (p : ℕ) → length (position_list code unit bytes p) ≡ shard_len code.k unit (length bytes)
length-position_list code unit bytes p = length-map-range_with_len (position_byte code unit bytes p) 0 (shard_len code.k unit (length bytes))

pub byte_at : (code : CodeRows) (unit : ℕ) (bytes : List ℕ) (p i : ℕ) → i < shard_len code.k unit (length bytes)
    → slice_index (position_list code unit bytes p) i ≡ position_byte code unit bytes p i
byte_at code unit bytes p i lt = get_or-map-range_with_len (position_byte code unit bytes p) 0 (shard_len code.k unit (length bytes)) i i 0 lt (omega arith)

-- the place in the object of byte i of a position, at data chunk j
abbrev pub place_of : ℕ → ℕ → ℕ → ℕ → ℕ
place_of k unit i j = (i / unit * k + j) * unit + i % unit

-- it lies in the stripe of the byte
pub place_in_stripe : (k unit i j : ℕ) → 1 ≤ unit → j < k → (i / unit * (k * unit) ≤ place_of k unit i j) × (place_of k unit i j < i / unit * (k * unit) + k * unit)
place_in_stripe k unit i j some lj =
    let low : i % unit < unit = mod_below i unit (omega (arith, some)) in
    let inner : j * unit + i % unit < k * unit = omega (arith, mul-add-lt j unit (i % unit) k lj low) in
    let same : (i / unit * k + j) * unit + i % unit ≡ i / unit * (k * unit) + (j * unit + i % unit) = grind arith in
    (omega (arith, same), omega (arith, same, inner))

-- two objects with the same bytes in a byte's stripe have the same byte there
pub same_byte : (code : CodeRows) (unit : ℕ) (one other : List ℕ) (p i : ℕ) → 1 ≤ unit
    → ((x : ℕ) → i / unit * (code.k * unit) ≤ x → x < i / unit * (code.k * unit) + code.k * unit → slice_index one x ≡ slice_index other x)
    → position_byte code unit one p i ≡ position_byte code unit other p i
same_byte code unit one other p i some same = sum_below-same code.k _ _ (λ j lj.
    let inside = place_in_stripe code.k unit i j some lj in
    ap (field_product (entry_at code.rows p j)) (same (place_of code.k unit i j) inside.0 inside.1))

-- behind the end of an object its positions have zeros
pub zero_byte : (code : CodeRows) (unit : ℕ) (bytes : List ℕ) (p i : ℕ) → 1 ≤ unit
    → ((x : ℕ) → i / unit * (code.k * unit) ≤ x → slice_index bytes x ≡ 0) → position_byte code unit bytes p i ≡ 0
zero_byte code unit bytes p i some zero = sum_below-zero code.k _ (λ j lj.
    ap (field_product (entry_at code.rows p j)) (zero (place_of code.k unit i j) (place_in_stripe code.k unit i j some lj).0)
    ∙ field_product-zero (entry_at code.rows p j))

-- no bytes past the end
pub past_end : (bytes : List ℕ) (x : ℕ) → length bytes ≤ x → slice_index bytes x ≡ 0
past_end bytes x past = grind (arith, places)

-- a stripe of the object begins inside it, or has none of its bytes
pub past_list : (k unit : ℕ) (bytes : List ℕ) (i : ℕ) → 1 ≤ k → 1 ≤ unit → shard_len k unit (length bytes) ≤ i → length bytes ≤ i / unit * (k * unit)
past_list k unit bytes i some_k some past =
    let width = k * unit in
    let pos : 0 < width = grind arith in
    let count : stripe_count k unit (length bytes) ≤ i / unit = le-div (stripe_count k unit (length bytes)) i unit (omega (arith, some)) past in
    let whole : length bytes ≤ stripe_count k unit (length bytes) * width = (div_ceil_times (length bytes) width pos).0 in
    omega (arith, whole, mul-le (stripe_count k unit (length bytes)) width (i / unit) width count (omega arith))

pub zero_past_list : (code : CodeRows) (unit : ℕ) (bytes : List ℕ) (p i : ℕ) → 1 ≤ code.k → 1 ≤ unit → shard_len code.k unit (length bytes) ≤ i → position_byte code unit bytes p i ≡ 0
zero_past_list code unit bytes p i some_k some past = zero_byte code unit bytes p i some (λ x low.
    past_end bytes x (omega (arith, past_list code.k unit bytes i some_k some past, low)))

-- the padding adds nothing
pub padded_byte : (k unit : ℕ) (bytes : List ℕ) (x : ℕ) → slice_index (padded k unit bytes) x ≡ slice_index bytes x
padded_byte k unit bytes x = grind (arith, places)

-- a list of a position is the list of the position
pub lists_are_one : (code : CodeRows) (unit p : ℕ) (bytes list : List ℕ) → 1 ≤ code.k → 1 ≤ unit → IsPositionList code unit bytes p list → list ≡ position_list code unit bytes p
lists_are_one code unit p bytes list some_k some is = same_number_lists list _ (is.long ∙ sym (length-position_list code unit bytes p)) (λ i lt.
    let low : i % unit < unit = mod_below i unit (omega (arith, some)) in
    let inside : i < shard_len code.k unit (length bytes) = subst (λ n. i < n) is.long lt in
    let stripe : i / unit < stripe_count code.k unit (length bytes) = stripe_below i (stripe_count code.k unit (length bytes)) inside in
    ap (slice_index list) (sym (div-add-mod' i unit))
    ∙ is.sums (i / unit) (i % unit) stripe low
    ∙ sum_below-same code.k _ _ (λ j lj. ap (field_product (entry_at code.rows p j)) (padded_byte code.k unit bytes (place_of code.k unit i j)))
    ∙ sym (byte_at code unit bytes p i inside))
  where
    stripe_below : (i n : ℕ) → i < n * unit → i / unit < n
    stripe_below i n lt = div_below i unit n (omega (arith, some)) lt

-- the list that `position_list` gives is one of its lists
pub list_is_one : (code : CodeRows) (unit p : ℕ) (bytes : List ℕ) → 1 ≤ unit → IsPositionList code unit bytes p (position_list code unit bytes p)
list_is_one code unit p bytes some = record {
  long = length-position_list code unit bytes p;
  sums = λ t b lt lb.
      byte_at code unit bytes p (t * unit + b) (omega (arith, mul-add-lt t unit b (stripe_count code.k unit (length bytes)) lt lb))
      ∙ sum_below-same code.k _ _ (λ j lj. ap (field_product (entry_at code.rows p j))
      (ap (λ q. slice_index bytes ((q * code.k + j) * unit + (t * unit + b) % unit)) (div-mul-add t unit b lb)
      ∙ ap (λ r. slice_index bytes ((t * code.k + j) * unit + r)) (mod-mul-add t unit b lb)
      ∙ sym (padded_byte code.k unit bytes ((t * code.k + j) * unit + b))));
}

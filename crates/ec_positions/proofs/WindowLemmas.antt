-- Stripes of an object, and their part of each position's list.
use Rattle.std.proofs.Common.{◌≡◌, ℕ, ◌+◌, ◌-◌, ◌*◌, ◌/◌, ◌%◌, ◌<◌, ◌≤◌, min, List, length, take, drop, slice_index, sym, ap, ◌∙◌, arith, subst, inl, inr}
use Rattle.std.specs.Int.{div_ceil}
use Rattle.std.proofs.lemmas.Bool.{cases_lt}
use Rattle.std.proofs.lemmas.Grind.{div_ceil_times, same_number_lists}
use Rattle.std.proofs.lemmas.List.{places}
use Rattle.std.proofs.lemmas.Nat.{mul-le, div_below, le-div}
use Rattle.std.proofs.Math.Nat.{add-mul-div_right, add-mul-mod_self_right, mul-div_left, mul-mod_left, div-mul-le_self, lt-div-mul-add, lt_of_mul-lt-mul_right}
use Rattle.ec_model.specs.Codes.{CodeRows}
use Rattle.ec_model.specs.Field.{field_product}
use Rattle.ec_model.specs.Rows.{entry_at}
use Rattle.ec_model.specs.Stripes.{stripe_count, shard_len}
use Rattle.ec_matrix.proofs.CallerLemmas.{sum_below-same}
use Rattle.shard_model.specs.Changes.{resized, written}
use Rattle.ec_positions.specs.Updates.{overlaid}
use Rattle.ec_positions.specs.Positions.{position_list}
use Rattle.ec_positions.specs.Windows.{stripes_from}
use Rattle.ec_positions.proofs.ListLemmas.{length-position_list, byte_at, place_of, place_in_stripe, past_end}
use Rattle.ec_positions.proofs.WriteLemmas.{some_width, overlaid_inside, overlaid_outside}

-- a byte of the stripes is a byte of the object
pub stripes_byte : (width first count : ℕ) (bytes : List ℕ) (x : ℕ) → x < count * width → slice_index (stripes_from width first count bytes) x ≡ slice_index bytes (first * width + x)
stripes_byte width first count bytes x lt = grind (arith, places)

pub length-stripes_from : (width first count : ℕ) (bytes : List ℕ) → length (stripes_from width first count bytes) ≡ count * width
length-stripes_from width first count bytes = grind (arith, places)

-- whole stripes are counted
pub whole_count : (count width : ℕ) → 0 < width → div_ceil (count * width) width ≡ count
whole_count count width pos =
    let quotient : count * width / width ≡ count = mul-div_left count pos in
    let left : count * width % width ≡ 0 = mul-mod_left count width in
    grind arith

place_after : (first k unit q j r : ℕ) → ((first + q) * k + j) * unit + r ≡ first * (k * unit) + ((q * k + j) * unit + r)
place_after first k unit q j r = grind arith

-- the list of a position of these stripes is their part of its list
pub part_list : (code : CodeRows) (unit p first count : ℕ) (bytes : List ℕ) → 1 ≤ code.k → 1 ≤ unit → first + count ≤ stripe_count code.k unit (length bytes)
    → position_list code unit (stripes_from (code.k * unit) first count bytes) p ≡ take (count * unit) (drop (first * unit) (position_list code unit bytes p))
part_list code unit p first count bytes some_k some inside =
    let width = code.k * unit in
    let part = stripes_from width first count bytes in
    let list = position_list code unit bytes p in
    let pos : 0 < width = some_width code.k unit some_k some in
    let units : shard_len code.k unit (length part) ≡ count * unit = ap (λ n. div_ceil n width * unit) (length-stripes_from width first count bytes) ∙ ap (λ n. n * unit) (whole_count count width pos) in
    let all : length list ≡ shard_len code.k unit (length bytes) = length-position_list code unit bytes p in
    let rows : (first + count) * unit ≤ shard_len code.k unit (length bytes) = mul-le (first + count) unit (stripe_count code.k unit (length bytes)) unit inside (omega arith) in
    let both : first * unit + count * unit ≡ (first + count) * unit = grind arith in
    let room : first * unit + count * unit ≤ length list = omega (arith, all, rows, both) in
    same_number_lists _ _ (length-position_list code unit part p ∙ units ∙ sym (taken (first * unit) (count * unit) list room)) (λ i lt.
    let within : i < count * unit = subst (λ n. i < n) (length-position_list code unit part p ∙ units) lt in
    byte_at code unit part p i (subst (λ n. i < n) (sym units) within)
    ∙ sum_below-same code.k _ _ (λ j lj. ap (field_product (entry_at code.rows p j)) (
    stripes_byte width first count bytes (place_of code.k unit i j) (below i j lj within)
    ∙ ap (slice_index bytes) (sym (place_after first code.k unit (i / unit) j (i % unit))
    ∙ ap (λ q. (q * code.k + j) * unit + i % unit) (sym (quotient i)) ∙ ap (λ r. ((first * unit + i) / unit * code.k + j) * unit + r) (sym (left i)))))
    ∙ sym (byte_at code unit bytes p (first * unit + i) (omega (arith, within, room, all)))
    ∙ sym (taken_byte (first * unit) (count * unit) list i within))
  where
    taken : (at len : ℕ) (list : List ℕ) → at + len ≤ length list → length (take len (drop at list)) ≡ len
    taken at len list room = grind (arith, places)

    taken_byte : (at len : ℕ) (list : List ℕ) (i : ℕ) → i < len → slice_index (take len (drop at list)) i ≡ slice_index list (at + i)
    taken_byte at len list i lt = grind (arith, places)

    turned : (i : ℕ) → first * unit + i ≡ i + first * unit
    turned i = omega arith

    quotient : (i : ℕ) → (first * unit + i) / unit ≡ first + i / unit
    quotient i = ap (λ n. n / unit) (turned i) ∙ add-mul-div_right i first (omega (arith, some)) ∙ omega arith

    left : (i : ℕ) → (first * unit + i) % unit ≡ i % unit
    left i = ap (λ n. n % unit) (turned i) ∙ add-mul-mod_self_right i first unit

    below : (i j : ℕ) → j < code.k → i < count * unit → place_of code.k unit i j < count * (code.k * unit)
    below i j lj within =
        let stripe : i / unit < count = div_below i unit count (omega (arith, some)) within in
        let rows : (i / unit + 1) * (code.k * unit) ≤ count * (code.k * unit) = mul-le (i / unit + 1) (code.k * unit) count (code.k * unit) (omega (arith, stripe)) (omega arith) in
        let next : (i / unit + 1) * (code.k * unit) ≡ i / unit * (code.k * unit) + code.k * unit = grind arith in
        omega (arith, rows, next, (place_in_stripe code.k unit i j some lj).1)

-- a byte of a window over an object that begins at `start`
overlaid_byte : (off start n : ℕ) (bytes old read : List ℕ) (x : ℕ) → x < n → start ≤ off → off - start + length bytes ≤ n
    → slice_index read x ≡ slice_index old (start + x)
    → slice_index (written (off - start) bytes (resized n read)) x ≡ slice_index (overlaid off bytes old) (start + x)
overlaid_byte off start n bytes old read x lt begins inside same = elim (cases_lt x (off - start)) [
  | inl low ↦ before low ∙ same ∙ sym (overlaid_outside off bytes old (start + x) (inl (omega (arith, low, begins))))
  | inr high ↦ elim (cases_lt x (off - start + length bytes)) [
    | inl within ↦
        between high within ∙ ap (slice_index bytes) (turned high)
        ∙ sym (overlaid_inside off bytes old (start + x) (omega (arith, high, begins)) (omega (arith, within, begins)))
    | inr past ↦ after past ∙ same ∙ sym (overlaid_outside off bytes old (start + x) (inr (omega (arith, past, begins))))
  ]
]
  where
    before : x < off - start → slice_index (written (off - start) bytes (resized n read)) x ≡ slice_index read x
    before low = grind (arith, places)

    between : off - start ≤ x → x < off - start + length bytes → slice_index (written (off - start) bytes (resized n read)) x ≡ slice_index bytes (x - (off - start))
    between high within = grind (arith, places)

    after : off - start + length bytes ≤ x → slice_index (written (off - start) bytes (resized n read)) x ≡ slice_index read x
    after past = grind (arith, places)

    turned : off - start ≤ x → x - (off - start) ≡ start + x - off
    turned high = omega (arith, high, begins)

-- bytes put into the touched stripes that the object has, grown with zeros, give the touched stripes of the object
-- with the bytes put into it
pub window_is : (k unit off there : ℕ) (bytes old : List ℕ) → 0 < k * unit → 0 < length bytes
    → there ≡ min ((off + length bytes - 1) / (k * unit) - off / (k * unit) + 1) (stripe_count k unit (length old) - off / (k * unit))
    → written (off - off / (k * unit) * (k * unit)) bytes
    (resized (((off + length bytes - 1) / (k * unit) - off / (k * unit) + 1) * (k * unit)) (stripes_from (k * unit) (off / (k * unit)) there old))
    ≡ stripes_from (k * unit) (off / (k * unit)) ((off + length bytes - 1) / (k * unit) - off / (k * unit) + 1) (overlaid off bytes old)
window_is k unit off there bytes old pos some fewer =
    let width = k * unit in
    let first = off / width in
    let count = (off + length bytes - 1) / width - off / width + 1 in
    let at = off - first * width in
    let read = stripes_from width first there old in
    let begins : first * width ≤ off = div-mul-le_self off width in
    let inside : at + length bytes ≤ count * width = reach off (length bytes) width pos some in
    same_number_lists _ _ (long at (count * width) read inside ∙ sym (length-stripes_from width first count (overlaid off bytes old))) (λ x lt.
    let below : x < count * width = subst (λ n. x < n) (long at (count * width) read inside) lt in
    overlaid_byte off (off / width * width) (count * width) bytes old read x below begins inside (read_byte x below)
    ∙ sym (stripes_byte width first count (overlaid off bytes old) x below))
  where
    times : (a b w : ℕ) → a * w + b * w ≡ (a + b) * w
    times a b w = grind arith

    next : (a w : ℕ) → (a + 1) * w ≡ a * w + w
    next a w = grind arith

    split : (a b w : ℕ) → b ≤ a → (a - b + 1) * w + b * w ≡ a * w + w
    split a b w le = let back : a - b + 1 + b ≡ a + 1 = omega (arith, le) in times (a - b + 1) b w ∙ ap (λ n. n * w) back ∙ next a w

    reach : (off len width : ℕ) → 0 < width → 0 < len → off - off / width * width + len ≤ ((off + len - 1) / width - off / width + 1) * width
    reach off len width pos some =
        let last : off + len - 1 < (off + len - 1) / width * width + width = lt-div-mul-add pos in
        let begins : off / width * width ≤ off = div-mul-le_self off width in
        let order : off / width ≤ (off + len - 1) / width = le-div (off / width) (off + len - 1) width pos (omega (arith, begins, some)) in
        let parts : ((off + len - 1) / width - off / width + 1) * width + off / width * width ≡ (off + len - 1) / width * width + width = split ((off + len - 1) / width) (off / width) width order in
        omega (arith, last, begins, parts, some)

    long : (at n : ℕ) (read : List ℕ) → at + length bytes ≤ n → length (written at bytes (resized n read)) ≡ n
    long at n read inside = grind (arith, places)

    less_of : (a b w : ℕ) → a * w < b * w → a < b
    less_of a b w lt = lt_of_mul-lt-mul_right w lt

    behind : (x : ℕ) → x < ((off + length bytes - 1) / (k * unit) - off / (k * unit) + 1) * (k * unit) → there * (k * unit) ≤ x → length old ≤ off / (k * unit) * (k * unit) + x
    behind x below past =
        let width = k * unit in
        let first = off / width in
        let count = (off + length bytes - 1) / width - off / width + 1 in
        let whole : length old ≤ stripe_count k unit (length old) * width = (div_ceil_times (length old) width pos).0 in
        let less : there < count = less_of there count width (omega (arith, below, past)) in
        let is : there ≡ stripe_count k unit (length old) - first = omega (arith, fewer, less) in
        let enough : stripe_count k unit (length old) ≤ first + there = omega (arith, is) in
        let rows : stripe_count k unit (length old) * width ≤ (first + there) * width = mul-le (stripe_count k unit (length old)) width (first + there) width enough (omega arith) in
        omega (arith, whole, rows, times first there width, past)

    -- past what was read the object has no bytes
    read_byte : (x : ℕ) → x < ((off + length bytes - 1) / (k * unit) - off / (k * unit) + 1) * (k * unit)
        → slice_index (stripes_from (k * unit) (off / (k * unit)) there old) x ≡ slice_index old (off / (k * unit) * (k * unit) + x)
    read_byte x below = elim (cases_lt x (there * (k * unit))) [
      | inl within ↦ stripes_byte (k * unit) (off / (k * unit)) there old x within
      | inr past ↦
          past_end (stripes_from (k * unit) (off / (k * unit)) there old) x (subst (λ n. n ≤ x) (sym (length-stripes_from (k * unit) (off / (k * unit)) there old)) past)
          ∙ sym (past_end old (off / (k * unit) * (k * unit) + x) (behind x below past))
    ]

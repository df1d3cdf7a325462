-- An object that is put together from the chunks of one position after another.
use Rattle.std.proofs.Common.{◌≡◌, ◌<◌, ◌≤◌, ◌+◌, ◌-◌, ◌*◌, ◌/◌, ◌%◌, ◌^◌, ◌++◌, ℕ, List, Option, Some, None, length, slice_index, take, drop, get_or, replicate, min, bit_xor, ap, sym, subst, ◌∙◌, arith, inl, inr, zero-add}
use borrow.Rule.Slice.PartMut.{put_mid, post_of}
use Rattle.std.specs.Int.Bits.{xor_zero_l}
use Rattle.std.specs.List.{All}
use Rattle.std.proofs.Math.Nat.{mod-lt, mul-div_cancel, mul-mod_left}
use Rattle.std.proofs.lemmas.Bool.{cases_eq, cases_lt}
use Rattle.std.proofs.lemmas.Grind.{same_number_lists}
use Rattle.std.proofs.lemmas.List.{get_or_append_left, get_or-append_right, get_or-take, get_or-drop, get_or-replicate, length-replicate, length-take-le}
use Rattle.std.proofs.lemmas.List.FromFn.{get_or-map-range_with_len, length-map-range_with_len}
use Rattle.std.proofs.lemmas.Nat.{mul-add-lt, mul-le, div-add-mod'}
use Rattle.std.proofs.lemmas.Slice.{drop-put_mid}
use Rattle.ec_model.specs.Codes.{CodeRows, IsCode, HasPosition, IsPositionList}
use Rattle.ec_model.specs.Field.{field_product}
use Rattle.ec_model.specs.Rows.{row_at, entry_at}
use Rattle.ec_model.specs.Stripes.{stripe_count, padded}
use Rattle.ec_matrix.proofs.CallerLemmas.{sum_below-zero, sum_below-change}
use Rattle.gf256.proofs.CallerLemmas.{field_product-zero}
use Rattle.stripe_map.specs.Assembling.{MakeData, IsMade, AddsPosition}
use Rattle.stripe_map.specs.Chunks.{chunk_of_position, KeepsOthers}
use Rattle.stripe_map.specs.Decoding.{bytes_of, made_byte, made_list}
use Rattle.stripe_map.proofs.DecodingLemmas.{sum_is_position_list, padded_byte, data_sum}
use Rattle.stripe_map.proofs.EncodingLemmas.{times_next}

inside : (a k : ℕ) (xs ys : List ℕ) (b : ℕ) → a ≤ length xs → b < length ys → get_or (put_mid a k xs ys) (a + b) 0 ≡ get_or ys b 0
inside a k xs ys b room lt =
    let e : a + b - a ≡ b = omega arith in
    get_or-append_right (take a xs) (ys ++ post_of a k xs) a (a + b) 0 (length-take-le a xs room) (omega arith)
    ∙ ap (λ t. get_or (ys ++ post_of a k xs) t 0) e
    ∙ get_or_append_left ys (post_of a k xs) 0 b lt

before : (a k : ℕ) (xs ys : List ℕ) (i : ℕ) → a ≤ length xs → i < a → get_or (put_mid a k xs ys) i 0 ≡ get_or xs i 0
before a k xs ys i room lt =
    get_or_append_left (take a xs) (ys ++ post_of a k xs) 0 i (omega (arith, length-take-le a xs room)) ∙ get_or-take a xs i 0 lt

behind : (a k : ℕ) (xs ys : List ℕ) (i : ℕ) → a ≤ length xs → length ys ≡ k → a + k ≤ i → get_or (put_mid a k xs ys) i 0 ≡ get_or xs i 0
behind a k xs ys i room long past =
    let e : a + k + (i - (a + k)) ≡ i = omega arith in
    ap (λ n. get_or (put_mid a k xs ys) n 0) (sym e)
    ∙ sym (get_or-drop (a + k) (put_mid a k xs ys) (i - (a + k)) 0)
    ∙ ap (λ l. get_or l (i - (a + k)) 0) (drop-put_mid a k xs ys (a + k) (omega arith) room long)
    ∙ get_or-drop (a + k) xs (i - (a + k)) 0
    ∙ ap (λ n. get_or xs n 0) e

-- what was added to one unit more
pub next_unit : (k unit q v : ℕ) (rows : List (List ℕ)) (chunks old now piece : List ℕ) → v * unit + unit ≤ length now → length piece ≡ unit
    → AddsPosition k unit rows q chunks old now v → ((x : ℕ) → v * unit ≤ x → slice_index now x ≡ slice_index old x)
    → ((b : ℕ) → b < unit → slice_index piece b
    ≡ bit_xor (slice_index (take (v * unit + unit - v * unit) (drop (v * unit) now)) b) (field_product (entry_at rows (v % k) q) (slice_index chunks (v / k * unit + b))))
    → AddsPosition k unit rows q chunks old (put_mid (v * unit) (v * unit + unit - v * unit) now piece) (v + 1)
next_unit k unit q v rows chunks old now piece room long so_far rest is = λ w b lw lb. elim (cases_eq w v) [
  | inl e ↦ subst (λ (u : ℕ). slice_index (put_mid (v * unit) (v * unit + unit - v * unit) now piece) (u * unit + b)
      ≡ bit_xor (slice_index old (u * unit + b)) (field_product (entry_at rows (u % k) q) (slice_index chunks (u / k * unit + b)))) (sym e)
      (inside (v * unit) (v * unit + unit - v * unit) now piece b (omega arith) (omega arith)
      ∙ is b lb
      ∙ ap (λ x. bit_xor x (field_product (entry_at rows (v % k) q) (slice_index chunks (v / k * unit + b)))) (taken b lb))
  | inr ne ↦
      let less = below w lw ne in
      before (v * unit) (v * unit + unit - v * unit) now piece (w * unit + b) (omega arith) (omega (arith, mul-add-lt w unit b v less lb)) ∙ so_far w b less lb
]
  where
    below : (w : ℕ) → w < v + 1 → (w ≡ v → ⊥) → w < v
    below w lt ne = grind arith

    taken : (b : ℕ) → b < unit → slice_index (take (v * unit + unit - v * unit) (drop (v * unit) now)) b ≡ slice_index old (v * unit + b)
    taken b lb = get_or-take (v * unit + unit - v * unit) (drop (v * unit) now) b 0 (omega arith) ∙ get_or-drop (v * unit) now b 0 ∙ rest (v * unit + b) (omega arith)

-- what stands behind a unit stays
pub rest_stays : (unit v : ℕ) (old now piece : List ℕ) → v * unit + unit ≤ length now → length piece ≡ unit
    → ((x : ℕ) → v * unit ≤ x → slice_index now x ≡ slice_index old x)
    → (x : ℕ) → (v + 1) * unit ≤ x → slice_index (put_mid (v * unit) (v * unit + unit - v * unit) now piece) x ≡ slice_index old x
rest_stays unit v old now piece room long rest x past =
    let next : (v + 1) * unit ≡ v * unit + unit = times_next v unit in
    behind (v * unit) (v * unit + unit - v * unit) now piece x (omega arith) (omega arith) (omega (arith, next)) ∙ rest x (omega (arith, next))

-- the unit of a position's list that stands in unit v of an object
pub unit_inside : (k unit count v : ℕ) → v < count * k → v / k * unit + unit ≤ count * unit
unit_inside k unit count v lt =
    let stripe : v / k < count = elim (cases_lt (v / k) count) [
      | inl less ↦ less
      | inr more ↦ absurd (omega (arith, mul-le count k (v / k) k more (omega arith), div-add-mod' v k))
    ] in
    let room : (v / k + 1) * unit ≤ count * unit = mul-le (v / k + 1) unit count unit (omega arith) (omega arith) in
    omega (arith, times_next (v / k) unit)

-- zeros are made of no chunks
pub zeros_are_made : (k unit n count : ℕ) (rows : List (List ℕ)) (chunks : List (Option (List ℕ))) (object : List ℕ) → ((p : ℕ) → chunk_of_position chunks p ≡ None)
    → object ≡ replicate (count * k * unit) 0 → IsMade k unit n rows chunks count object
zeros_are_made k unit n count rows chunks object none is = record {
  long = ap length is ∙ length-replicate (count * k * unit) 0;
  bytes = λ v b lv lb.
      let at = v / k * unit + b in
      ap (λ l. slice_index l (v * unit + b)) is
      ∙ get_or-replicate (count * k * unit) (v * unit + b) 0 0 (omega (arith, mul-add-lt v unit b (count * k) lv lb))
      ∙ sym (sum_below-zero n (λ q. field_product (slice_index (row_at rows (v % k)) q) (slice_index (bytes_of (chunk_of_position chunks q)) at)) (λ q lq.
      ap (λ (o : Option (List ℕ)). field_product (slice_index (row_at rows (v % k)) q) (slice_index (bytes_of o) at)) (none q)
      ∙ field_product-zero (slice_index (row_at rows (v % k)) q)));
}

-- the chunks of one position more
pub made_of_one_more : (k unit n q count : ℕ) (rows : List (List ℕ)) (old new : List (Option (List ℕ))) (chunks before now : List ℕ) → q < n
    → chunk_of_position old q ≡ None → chunk_of_position new q ≡ Some chunks → KeepsOthers old new q
    → AddsPosition k unit rows q chunks before now (count * k) → length now ≡ length before → IsMade k unit n rows old count before
    → IsMade k unit n rows new count now
made_of_one_more k unit n q count rows old new chunks before now lt none some others adds long made = record {
  long = long ∙ made.long;
  bytes = λ v b lv lb.
      let at = v / k * unit + b in
      let entry = slice_index (row_at rows (v % k)) q in
      let here : field_product entry (slice_index (bytes_of (chunk_of_position new q)) at)
      ≡ bit_xor (field_product entry (slice_index (bytes_of (chunk_of_position old q)) at)) (field_product entry (slice_index chunks at)) =
      ap (λ (o : Option (List ℕ)). field_product entry (slice_index (bytes_of o) at)) some
      ∙ sym (xor_zero_l (field_product entry (slice_index chunks at)))
      ∙ ap (λ x. bit_xor x (field_product entry (slice_index chunks at)))
      (sym (ap (λ (o : Option (List ℕ)). field_product entry (slice_index (bytes_of o) at)) none ∙ field_product-zero entry))
      in
      adds v b lv lb
      ∙ ap (λ x. bit_xor x (field_product entry (slice_index chunks at))) (made.bytes v b lv lb)
      ∙ sym (sum_below-change n q (field_product entry (slice_index chunks at))
      (λ p. field_product (slice_index (row_at rows (v % k)) p) (slice_index (bytes_of (chunk_of_position old p)) at))
      (λ p. field_product (slice_index (row_at rows (v % k)) p) (slice_index (bytes_of (chunk_of_position new p)) at))
      lt
      (λ p _ ne. ap (λ (o : Option (List ℕ)). field_product (slice_index (row_at rows (v % k)) p) (slice_index (bytes_of o) at)) (others p ne))
      here);
}

stripes_of_whole : (k unit count : ℕ) → 0 < k * unit → stripe_count k unit (count * k * unit) ≡ count
stripes_of_whole k unit count some = ap (stripe_count k unit) grouped ∙ ap (λ n. n + min 1 (count * (k * unit) % (k * unit))) (mul-div_cancel count some)
    ∙ ap (λ n. count + min 1 n) (mul-mod_left count (k * unit)) ∙ omega arith
  where
    grouped : count * k * unit ≡ count * (k * unit)
    grouped = grind arith

-- what the chunks of a set that decides the data positions make is the object that they are of
pub made_is_object : (code : CodeRows) (unit set count : ℕ) (rows : List (List ℕ)) (chunks : List (Option (List ℕ))) (object bytes : List ℕ) → IsCode code → 1 ≤ unit
    → MakeData code set rows → IsMade code.k unit code.n rows chunks count object → length bytes ≡ count * code.k * unit → All (λ b. b < 2 ^ 8) bytes
    → ((q : ℕ) → q < code.n → HasPosition set q → IsPositionList code unit bytes q (bytes_of (chunk_of_position chunks q)))
    → object ≡ bytes
made_is_object code unit set count rows chunks object bytes is some makes made long all each =
    same_number_lists object bytes (made.long ∙ sym long) (λ i li. subst (λ (x : ℕ). slice_index object x ≡ slice_index bytes x) (div-add-mod' i unit)
    (one (i / unit) (i % unit) (unit_below i (omega (arith, made.long))) (mod-lt i (omega arith))))
  where
    positive : 0 < code.k * unit
    positive = omega (arith, mul-le 1 1 code.k unit is.some_data some)

    stripes : stripe_count code.k unit (length bytes) ≡ count
    stripes = ap (stripe_count code.k unit) long ∙ stripes_of_whole code.k unit count positive

    unit_below : (i : ℕ) → i < count * code.k * unit → i / unit < count * code.k
    unit_below i lt = elim (cases_lt (i / unit) (count * code.k)) [
      | inl less ↦ less
      | inr more ↦ absurd (omega (arith, mul-le (count * code.k) unit (i / unit) unit more (omega arith), div-add-mod' i unit))
    ]

    stripe_below : (v : ℕ) → v < count * code.k → v / code.k < count
    stripe_below v lt = elim (cases_lt (v / code.k) count) [
      | inl less ↦ less
      | inr more ↦ absurd (omega (arith, mul-le count code.k (v / code.k) code.k more (omega arith), div-add-mod' v code.k))
    ]

    list_of : ℕ → List ℕ
    list_of j = made_list code.n (row_at rows j) chunks (count * unit)

    many : (j : ℕ) → length (list_of j) ≡ count * unit
    many j = length-map-range_with_len (made_byte code.n (row_at rows j) chunks) 0 (count * unit)

    byte_of : (j i : ℕ) → i < count * unit → slice_index (list_of j) i ≡ made_byte code.n (row_at rows j) chunks i
    byte_of j i lt = get_or-map-range_with_len (made_byte code.n (row_at rows j) chunks) 0 (count * unit) i i 0 lt (zero-add i)

    list_is : (j : ℕ) → j < code.k → IsPositionList code unit bytes (slice_index code.places j) (list_of j)
    list_is j lj = sum_is_position_list code unit bytes set (slice_index code.places j) (row_at rows j) (λ q. bytes_of (chunk_of_position chunks q)) (list_of j) is.few (makes j lj) each
        (many j ∙ ap (λ n. n * unit) (sym stripes)) (λ i li. byte_of j i (omega (arith, many j)))

    one : (v b : ℕ) → v < count * code.k → b < unit → slice_index object (v * unit + b) ≡ slice_index bytes (v * unit + b)
    one v b lv lb =
        let t = v / code.k in
        let j = v % code.k in
        let lj : j < code.k = mod-lt v (omega (arith, is.some_data)) in
        let lt : t < count = stripe_below v lv in
        let whole = padded code.k unit bytes in
        let place : t * code.k + j ≡ v = div-add-mod' v code.k in
        made.bytes v b lv lb
        ∙ sym (byte_of j (t * unit + b) (omega (arith, mul-add-lt t unit b count lt lb)))
        ∙ (list_is j lj).sums t b (omega (arith, lt, stripes)) lb
        ∙ data_sum code j (λ i. slice_index whole ((t * code.k + i) * unit + b)) is lj (padded_byte code.k unit bytes ((t * code.k + j) * unit + b) all)
        ∙ ap (λ u. slice_index whole (u * unit + b)) place
        ∙ get_or_append_left bytes (replicate (stripe_count code.k unit (length bytes) * (code.k * unit) - length bytes) 0) 0 (v * unit + b)
        (omega (arith, mul-add-lt v unit b (count * code.k) lv lb, long))

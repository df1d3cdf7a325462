-- Windows, and the writes that they are cut into.
use Rattle.std.proofs.Common.{◌≡◌, ℕ, zero, suc, ◌+◌, ◌-◌, ◌*◌, ◌/◌, ◌^◌, ◌<◌, ◌≤◌, ◌⊎◌, min, max, if◌then◌else◌, is_some, List, [], ◌∷◌, length, take, drop, refl, sym, ap, ◌∙◌, arith, subst, Option, Some, None}
use Rattle.std.proofs.Math.Nat.{div-mul-le_self, lt-div-mul-add}
use Rattle.std.proofs.lemmas.Nat.{le-div, mul-le}
use Rattle.ec_model.specs.Codes.{CodeRows}
use Rattle.ec_model.specs.Stripes.{stripe_count, shard_len}
use Rattle.shard_model.specs.Changes as changes
use Rattle.shard_model.specs.Changes.{resized, written}
use Rattle.ec_positions.specs.Objects.{Object, bytes_in}
use Rattle.ec_positions.specs.Updates.{overlaid}
use Rattle.ec_positions.specs.Positions.{position_list, write_of, first_touched, count_touched}
use Rattle.ec_positions.specs.Windows.{stripes_from}
use Rattle.ec_positions.proofs.WindowLemmas.{window_is, part_list, whole_count}
use Rattle.ec_positions.proofs.WriteLemmas.{first_is, count_is, touched_inside, reaches, length-overlaid, some_width}
use Rattle.ec_pipeline.specs.Drafts.{HasSize, size_or_none, fresh_number}

-- stripes that are there lie in the object
pub there_inside : (first count stripes there : ℕ) → there ≡ min count (stripes - first) → (first + there ≤ stripes) ⊎ (there ≡ 0)
there_inside first count stripes there is = grind arith

next_row : (a w : ℕ) → (a + 1) * w ≡ a * w + w
next_row a w = grind arith

-- the touched stripes are not too long
pub touched_short : (k unit off len count first : ℕ) → 1 ≤ k → 1 ≤ unit → k ≤ 16 → unit ≤ 65536 → 1 ≤ len → off + len ≤ 2 ^ 20
    → first ≡ off / (k * unit) → count ≤ (off + len - 1) / (k * unit) - off / (k * unit) + 1 → (first + count) * (k * unit) ≤ 2 ^ 26
touched_short k unit off len count first some_k some few unit_short some_len short is less =
    let width = k * unit in
    let wide : width ≤ 16 * 65536 = mul-le k unit 16 65536 few unit_short in
    let order : off / width ≤ (off + len - 1) / width = le-div (off / width) (off + len - 1) width (some_width k unit some_k some) (omega (arith, div-mul-le_self off width, some_len)) in
    let rows : (first + count) * width ≤ ((off + len - 1) / width + 1) * width = mul-le (first + count) width ((off + len - 1) / width + 1) width (omega (arith, is, less, order)) (omega arith) in
    omega (arith, rows, next_row ((off + len - 1) / width) width, div-mul-le_self (off + len - 1) width, wide, short)

pub window_short : (k unit off len : ℕ) → 1 ≤ k → 1 ≤ unit → k ≤ 16 → unit ≤ 65536 → 1 ≤ len → off + len ≤ 2 ^ 20
    → ((off + len - 1) / (k * unit) - off / (k * unit) + 1) * (k * unit) ≤ 2 ^ 26
window_short k unit off len some_k some few unit_short some_len short =
    let count = (off + len - 1) / (k * unit) - off / (k * unit) + 1 in
    let all = touched_short k unit off len count (off / (k * unit)) some_k some few unit_short some_len short refl (omega arith) in
    let rows : count * (k * unit) ≤ (off / (k * unit) + count) * (k * unit) = mul-le count (k * unit) (off / (k * unit) + count) (k * unit) (omega arith) (omega arith) in
    omega (arith, all, rows)

-- nor is their part of a position's list
pub list_short : (k unit off len n : ℕ) → 1 ≤ k → 1 ≤ unit → unit ≤ 65536 → 1 ≤ len → off + len ≤ 2 ^ 20
    → n ≡ ((off + len - 1) / (k * unit) - off / (k * unit) + 1) * (k * unit) → shard_len k unit n ≤ 2 ^ 20 + 2 ^ 16
list_short k unit off len n some_k some unit_short some_len short is =
    let width = k * unit in
    let rest = (off + len - 1) / width - off / width in
    let units : shard_len k unit n ≡ (rest + 1) * unit = ap (shard_len k unit) is ∙ ap (λ x. x * unit) (whole_count (rest + 1) width (some_width k unit some_k some)) in
    let rows : rest * width ≤ (off + len - 1) / width * width = mul-le rest width ((off + len - 1) / width) width (omega arith) (omega arith) in
    let one : rest * unit * 1 ≤ rest * unit * k = mul-le (rest * unit) 1 (rest * unit) k (omega arith) some_k in
    let same : rest * unit * k ≡ rest * width = times rest unit k in
    omega (arith, units, rows, one, same, next_row rest unit, div-mul-le_self (off + len - 1) width, unit_short, short)
  where
    times : (a b c : ℕ) → a * b * c ≡ a * (c * b)
    times a b c = grind arith

-- the range lies in the touched stripes
pub touched_room : (k unit off len : ℕ) → 1 ≤ k → 1 ≤ unit → 1 ≤ len
    → off - off / (k * unit) * (k * unit) + len ≤ ((off + len - 1) / (k * unit) - off / (k * unit) + 1) * (k * unit)
touched_room k unit off len some_k some some_len =
    let width = k * unit in
    let pos : 0 < width = some_width k unit some_k some in
    let last : off + len - 1 < (off + len - 1) / width * width + width = lt-div-mul-add pos in
    let order : off / width ≤ (off + len - 1) / width = le-div (off / width) (off + len - 1) width pos (omega (arith, div-mul-le_self off width, some_len)) in
    let rows : ((off + len - 1) / width - off / width + 1) * width + off / width * width ≡ (off + len - 1) / width * width + width = split ((off + len - 1) / width) (off / width) width order in
    omega (arith, last, rows, div-mul-le_self off width, some_len)
  where
    times : (a b w : ℕ) → a * w + b * w ≡ (a + b) * w
    times a b w = grind arith

    split : (a b w : ℕ) → b ≤ a → (a - b + 1) * w + b * w ≡ a * w + w
    split a b w le = let back : a - b + 1 + b ≡ a + 1 = omega (arith, le) in times (a - b + 1) b w ∙ ap (λ n. n * w) back ∙ next_row a w

-- the stripes that were read, grown, with the bytes put over them, are the touched stripes of the object after that
pub window_made : (k unit off there : ℕ) (bytes old found window : List ℕ) → 1 ≤ k → 1 ≤ unit → 1 ≤ length bytes
    → there ≡ min ((off + length bytes - 1) / (k * unit) - off / (k * unit) + 1) (stripe_count k unit (length old) - off / (k * unit))
    → found ≡ stripes_from (k * unit) (off / (k * unit)) there old
    → window ≡ written (off - off / (k * unit) * (k * unit)) bytes (resized (((off + length bytes - 1) / (k * unit) - off / (k * unit) + 1) * (k * unit)) found)
    → window ≡ stripes_from (k * unit) (off / (k * unit)) (count_touched (k * unit) off (length bytes)) (overlaid off bytes old)
window_made k unit off there bytes old found window some_k some some_len is read made =
    made
    ∙ ap (λ f. written (off - off / (k * unit) * (k * unit)) bytes (resized (((off + length bytes - 1) / (k * unit) - off / (k * unit) + 1) * (k * unit)) f)) read
    ∙ window_is k unit off there bytes old (some_width k unit some_k some) (omega (arith, some_len)) is
    ∙ ap (λ n. stripes_from (k * unit) (off / (k * unit)) n (overlaid off bytes old)) (sym (count_is (k * unit) off (length bytes) (omega (arith, some_len))))

-- ---- a draft

pub size_known : (o : Option Object) (size : Option ℕ) → HasSize o size → size_or_none size ≡ length (bytes_in o)
size_known None size is = ap size_or_none is
size_known (Some o) size is = ap size_or_none is

pub fresh_known : (o : Option Object) (size : Option ℕ) → HasSize o size → fresh_number size ≡ (if is_some o then 0 else 1)
fresh_known None size is = ap fresh_number is
fresh_known (Some o) size is = ap fresh_number is

-- a position's part of the touched stripes is the write that it gets
pub write_drafted : (code : CodeRows) (unit p off : ℕ) (o : Option Object) (bytes window : List ℕ) (fresh size at : ℕ) → 1 ≤ code.k → 1 ≤ unit → 1 ≤ length bytes
    → fresh ≡ (if is_some o then 0 else 1) → size ≡ max (length (bytes_in o)) (off + length bytes) → at ≡ off / (code.k * unit) * unit
    → window ≡ stripes_from (code.k * unit) (off / (code.k * unit)) (count_touched (code.k * unit) off (length bytes)) (overlaid off bytes (bytes_in o))
    → changes.Write fresh size at (position_list code unit window p) ≡ write_of code unit p o off bytes
write_drafted code unit p off o bytes window fresh size at some_k some some_len is_fresh is_size is_at is_window = λ i. changes.Write (is_fresh i) (long i) (place i) (list i)
  where
    pos : 0 < length bytes
    pos = omega (arith, some_len)

    long : size ≡ length (overlaid off bytes (bytes_in o))
    long = is_size ∙ turned (length (bytes_in o)) (off + length bytes) ∙ sym (length-overlaid off bytes (bytes_in o) pos)
      where
        turned : (a b : ℕ) → max a b ≡ max b a
        turned a b = grind arith

    place : at ≡ first_touched (code.k * unit) off (length bytes) * unit
    place = is_at ∙ ap (λ n. n * unit) (sym (first_is (code.k * unit) off (length bytes) pos))

    inside : off / (code.k * unit) + count_touched (code.k * unit) off (length bytes) ≤ stripe_count code.k unit (length (overlaid off bytes (bytes_in o)))
    inside = subst (λ n. off / (code.k * unit) + n ≤ stripe_count code.k unit (length (overlaid off bytes (bytes_in o)))) (sym (count_is (code.k * unit) off (length bytes) pos))
        (touched_inside code.k unit off (length bytes) (length (overlaid off bytes (bytes_in o))) (some_width code.k unit some_k some) pos (reaches off bytes (bytes_in o) pos))

    list : position_list code unit window p ≡ take (count_touched (code.k * unit) off (length bytes) * unit) (drop (first_touched (code.k * unit) off (length bytes) * unit) (position_list code unit (overlaid off bytes (bytes_in o)) p))
    list =
        ap (λ w. position_list code unit w p) is_window
        ∙ part_list code unit p (off / (code.k * unit)) (count_touched (code.k * unit) off (length bytes)) (overlaid off bytes (bytes_in o)) some_k some inside
        ∙ ap (λ n. take (count_touched (code.k * unit) off (length bytes) * unit) (drop (n * unit) (position_list code unit (overlaid off bytes (bytes_in o)) p))) (sym (first_is (code.k * unit) off (length bytes) pos))

-- no bytes are put anywhere
pub no_bytes : (code : CodeRows) (unit p off : ℕ) (o : Option Object) (bytes : List ℕ) → length bytes ≡ 0 → write_of code unit p o 0 bytes ≡ write_of code unit p o off bytes
no_bytes code unit p off o [] none = refl
no_bytes code unit p off o (b ∷ bytes) none = absurd (omega (arith, none))

-- the place in a position's list
pub place_short : (k unit off : ℕ) → 1 ≤ k → off / (k * unit) * unit ≤ off
place_short k unit off some_k =
    let a = off / (k * unit) in
    let one : a * unit * 1 ≤ a * unit * k = mul-le (a * unit) 1 (a * unit) k (omega arith) some_k in
    let same : a * unit * k ≡ a * (k * unit) = times a unit k in
    omega (arith, one, same, div-mul-le_self off (k * unit))
  where
    times : (a b c : ℕ) → a * b * c ≡ a * (c * b)
    times a b c = grind arith

-- the place of no bytes is of no account
pub same_place : (code : CodeRows) (unit p off at : ℕ) (o : Option Object) (bytes : List ℕ) → (length bytes ≡ 0 → at ≡ 0) → (1 ≤ length bytes → at ≡ off)
    → write_of code unit p o at bytes ≡ write_of code unit p o off bytes
same_place code unit p off at o [] none some = ap (λ x. write_of code unit p o x []) (none refl) ∙ no_bytes code unit p off o [] refl
same_place code unit p off at o (b ∷ bytes) none some = ap (λ x. write_of code unit p o x (b ∷ bytes)) (some (grind arith))

pub place_fits : (len off at : ℕ) → (len ≡ 0 → at ≡ 0) → (1 ≤ len → at ≡ off) → (1 ≤ len → off + len ≤ 2 ^ 20) → at + len ≤ 2 ^ 20
place_fits zero off at none some new = omega (arith, none refl)
place_fits (suc n) off at none some new = let le : 1 ≤ suc n = omega arith in omega (arith, some le, new le)

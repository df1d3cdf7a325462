-- What a write does to the list of a position.
use Rattle.std.proofs.Common.{◌≡◌, ℕ, ◌+◌, ◌-◌, ◌*◌, ◌/◌, ◌<◌, ◌≤◌, max, List, [], ◌∷◌, ◌++◌, length, take, drop, slice_index, refl, sym, ap, append-nil, ◌∙◌, arith, subst, ◌⊎◌, inl, inr}
use Rattle.std.proofs.lemmas.Bool.{cases_lt}
use Rattle.std.proofs.lemmas.Grind.{div_ceil_times, same_number_lists, common_steps}
use Rattle.std.proofs.lemmas.List.{places, same_lists}
use Rattle.shard_model.specs.Changes.{resized, written}
use Rattle.std.proofs.lemmas.Nat.{le-div, mul-le, div_below}
use Rattle.std.proofs.Math.Nat.{div-mul-le_self, lt-div-mul-add}
use Rattle.ec_model.specs.Codes.{CodeRows}
use Rattle.ec_model.specs.Stripes.{stripe_count, shard_len}
use Rattle.ec_positions.specs.Updates.{overlaid}
use Rattle.ec_positions.specs.Positions.{position_byte, position_list, first_touched, count_touched}
use Rattle.ec_positions.proofs.ListLemmas.{length-position_list, byte_at, same_byte, zero_past_list}

-- a byte outside the range stays, and a gap has zeros
pub overlaid_outside : (off : ℕ) (bytes old : List ℕ) (x : ℕ) → (x < off) ⊎ (off + length bytes ≤ x) → slice_index (overlaid off bytes old) x ≡ slice_index old x
overlaid_outside off [] old x out = refl
overlaid_outside off (b ∷ bytes) old x (inl low) = grind (arith, places)
overlaid_outside off (b ∷ bytes) old x (inr high) = grind (arith, places)

-- a byte of the range is the new one
pub overlaid_inside : (off : ℕ) (bytes old : List ℕ) (x : ℕ) → off ≤ x → x < off + length bytes → slice_index (overlaid off bytes old) x ≡ slice_index bytes (x - off)
overlaid_inside off [] old x low high = absurd (omega (arith, low, high))
overlaid_inside off (b ∷ bytes) old x low high = grind (arith, places)

pub length-overlaid : (off : ℕ) (bytes old : List ℕ) → 0 < length bytes → length (overlaid off bytes old) ≡ max (off + length bytes) (length old)
length-overlaid off [] old some = absurd (omega (arith, some))
length-overlaid off (b ∷ bytes) old some = grind (arith, places)

-- what is put at the end is appended
pub overlaid_end : (bytes old : List ℕ) → overlaid (length old) bytes old ≡ old ++ bytes
overlaid_end [] old = sym (append-nil old)
overlaid_end (b ∷ bytes) old = same_lists _ _ (grind (arith, places)) (λ k d h. grind (arith, places))

-- ---- the stripes that are touched

pub some_width : (k unit : ℕ) → 1 ≤ k → 1 ≤ unit → 0 < k * unit
some_width k unit some_k some = omega (arith, mul-le 1 1 k unit some_k some)

-- a stripe before or behind the touched ones has no byte of the range
pub untouched : (width off len stripe x : ℕ) → 0 < width → 0 < len → (stripe < off / width) ⊎ (off / width + ((off + len - 1) / width - off / width + 1) ≤ stripe)
    → stripe * width ≤ x → x < stripe * width + width → (x < off) ⊎ (off + len ≤ x)
untouched width off len stripe x pos some (inl before) low high =
    let rows : (stripe + 1) * width ≤ off / width * width = mul-le (stripe + 1) width (off / width) width (omega (arith, before)) (omega arith) in
    let first : off / width * width ≤ off = div-mul-le_self off width in
    let next : (stripe + 1) * width ≡ stripe * width + width = grind arith in
    inl (omega (arith, high, rows, first, next))
untouched width off len stripe x pos some (inr behind) low high =
    let last : off + len - 1 < (off + len - 1) / width * width + width = lt-div-mul-add pos in
    let above : (off + len - 1) / width + 1 ≤ stripe = omega (arith, behind) in
    let rows : ((off + len - 1) / width + 1) * width ≤ stripe * width = mul-le ((off + len - 1) / width + 1) width stripe width above (omega arith) in
    let next : ((off + len - 1) / width + 1) * width ≡ (off + len - 1) / width * width + width = grind arith in
    inr (omega (arith, low, rows, last, next, some))

-- the touched stripes lie in an object that reaches to the range's end
pub touched_inside : (k unit off len size : ℕ) → 0 < k * unit → 0 < len → off + len ≤ size
    → off / (k * unit) + ((off + len - 1) / (k * unit) - off / (k * unit) + 1) ≤ stripe_count k unit size
touched_inside k unit off len size pos some reaches =
    let width = k * unit in
    let whole : size ≤ stripe_count k unit size * width = (div_ceil_times size width pos).0 in
    let last : (off + len - 1) / width < stripe_count k unit size = div_below (off + len - 1) width (stripe_count k unit size) pos (omega (arith, whole, reaches, some)) in
    let order : off / width ≤ (off + len - 1) / width = le-div (off / width) (off + len - 1) width pos (omega (arith, div-mul-le_self off width, some)) in
    omega (arith, last, order)

-- ---- a write

-- the old list, grown with zeros, says each byte of the old object
grown_byte : (code : CodeRows) (unit : ℕ) (old : List ℕ) (p n i : ℕ) → 1 ≤ code.k → 1 ≤ unit → i < n → slice_index (resized n (position_list code unit old p)) i ≡ position_byte code unit old p i
grown_byte code unit old p n i some_k some lt = elim (cases_lt i (shard_len code.k unit (length old))) [
  | inl inside ↦ here (position_list code unit old p) (length-position_list code unit old p) inside ∙ byte_at code unit old p i inside
  | inr past ↦ behind (position_list code unit old p) (length-position_list code unit old p) past ∙ sym (zero_past_list code unit old p i some_k some past)
]
  where
    here : (list : List ℕ) → length list ≡ shard_len code.k unit (length old) → i < shard_len code.k unit (length old) → slice_index (resized n list) i ≡ slice_index list i
    here list long inside = grind (arith, places)

    behind : (list : List ℕ) → length list ≡ shard_len code.k unit (length old) → shard_len code.k unit (length old) ≤ i → slice_index (resized n list) i ≡ 0
    behind list long past = grind (arith, places)

-- a list with the range of another in its place is that other one, if both agree outside
patched : (from list : List ℕ) (at len : ℕ) → length from ≡ length list → at + len ≤ length list
    → ((i : ℕ) → i < length list → (i < at) ⊎ (at + len ≤ i) → slice_index from i ≡ slice_index list i)
    → written at (take len (drop at list)) from ≡ list
patched from list at len same inside agree = same_number_lists _ list (grind (arith, places)) (λ i lt.
    elim (cases_lt i at) [
      | inl low ↦ before i low ∙ agree i (omega (arith, low, inside)) (inl low)
      | inr high ↦ elim (cases_lt i (at + len)) [
        | inl within ↦ between i high within
        | inr past ↦ after i past ∙ agree i (subst (λ n. i < n) long lt) (inr past)
      ]
    ])
  where
    long : length (written at (take len (drop at list)) from) ≡ length list
    long = grind (arith, places)

    before : (i : ℕ) → i < at → slice_index (written at (take len (drop at list)) from) i ≡ slice_index from i
    before i low = grind (arith, places)

    between : (i : ℕ) → at ≤ i → i < at + len → slice_index (written at (take len (drop at list)) from) i ≡ slice_index list i
    between i high within = grind (arith, places)

    after : (i : ℕ) → at + len ≤ i → slice_index (written at (take len (drop at list)) from) i ≡ slice_index from i
    after i past = grind (arith, places)

pub first_is : (width off len : ℕ) → 0 < len → first_touched width off len ≡ off / width
first_is width off len some = grind (arith, common_steps)

pub count_is : (width off len : ℕ) → 0 < len → count_touched width off len ≡ (off + len - 1) / width - off / width + 1
count_is width off len some = grind (arith, common_steps)

times_sum : (a b unit : ℕ) → a * unit + b * unit ≡ (a + b) * unit
times_sum a b unit = grind arith

-- a byte of a position outside the touched units is as it was
kept_byte : (code : CodeRows) (unit p off : ℕ) (bytes old : List ℕ) (i : ℕ) → 1 ≤ code.k → 1 ≤ unit
    → (i < first_touched (code.k * unit) off (length bytes) * unit)
    ⊎ (first_touched (code.k * unit) off (length bytes) * unit + count_touched (code.k * unit) off (length bytes) * unit ≤ i)
    → position_byte code unit old p i ≡ position_byte code unit (overlaid off bytes old) p i
kept_byte code unit p off [] old i some_k some out = refl
kept_byte code unit p off (b ∷ bytes) old i some_k some out =
    let width = code.k * unit in
    let len = length (b ∷ bytes) in
    let pos : 0 < width = some_width code.k unit some_k some in
    let long : 0 < len = grind arith in
    let first = first_is width off len long in
    let count = count_is width off len long in
    same_byte code unit old (overlaid off (b ∷ bytes) old) p i some (λ x low high.
    sym (overlaid_outside off (b ∷ bytes) old x (untouched width off len (i / unit) x pos long (stripe len first count out) low high)))
  where
    stripe : (len : ℕ) → first_touched (code.k * unit) off len ≡ off / (code.k * unit) → count_touched (code.k * unit) off len ≡ (off + len - 1) / (code.k * unit) - off / (code.k * unit) + 1
        → (i < first_touched (code.k * unit) off len * unit) ⊎ (first_touched (code.k * unit) off len * unit + count_touched (code.k * unit) off len * unit ≤ i)
        → (i / unit < off / (code.k * unit)) ⊎ (off / (code.k * unit) + ((off + len - 1) / (code.k * unit) - off / (code.k * unit) + 1) ≤ i / unit)
    stripe len first count (inl low) = inl (div_below i unit _ (omega (arith, some)) (subst (λ n. i < n * unit) first low))
    stripe len first count (inr high) = inr (le-div _ i unit (omega (arith, some))
        (subst (λ n. n * unit ≤ i) (ap (λ n. n + count_touched (code.k * unit) off len) first ∙ ap (λ n. off / (code.k * unit) + n) count)
        (subst (λ n. n ≤ i) (times_sum (first_touched (code.k * unit) off len) (count_touched (code.k * unit) off len) unit) high)))

-- the object reaches to the range's end
pub reaches : (off : ℕ) (bytes old : List ℕ) → 0 < length bytes → off + length bytes ≤ length (overlaid off bytes old)
reaches off bytes old some = let long = length-overlaid off bytes old some in grind arith

pub longer : (off : ℕ) (bytes old : List ℕ) → length old ≤ length (overlaid off bytes old)
longer off [] old = grind arith
longer off (b ∷ bytes) old = let long = length-overlaid off (b ∷ bytes) old (grind arith) in grind arith

-- the touched units lie in the list of the position
pub units_inside : (code : CodeRows) (unit off : ℕ) (bytes old : List ℕ) → 1 ≤ code.k → 1 ≤ unit
    → first_touched (code.k * unit) off (length bytes) * unit + count_touched (code.k * unit) off (length bytes) * unit ≤ shard_len code.k unit (length (overlaid off bytes old))
units_inside code unit off [] old some_k some = grind arith
units_inside code unit off (b ∷ bytes) old some_k some =
    let width = code.k * unit in
    let len = length (b ∷ bytes) in
    let pos : 0 < width = some_width code.k unit some_k some in
    let long : 0 < len = grind arith in
    let inside = touched_inside code.k unit off len (length (overlaid off (b ∷ bytes) old)) pos long (reaches off (b ∷ bytes) old long) in
    let stripes : first_touched width off len + count_touched width off len ≤ stripe_count code.k unit (length (overlaid off (b ∷ bytes) old)) =
    omega (arith, inside, first_is width off len long, count_is width off len long) in
    subst (λ n. n ≤ shard_len code.k unit (length (overlaid off (b ∷ bytes) old))) (sym (times_sum (first_touched width off len) (count_touched width off len) unit))
    (mul-le (first_touched width off len + count_touched width off len) unit (stripe_count code.k unit (length (overlaid off (b ∷ bytes) old))) unit stripes (omega arith))

-- the touched units, put into the old list, give the new one
pub write_leads : (code : CodeRows) (unit p off : ℕ) (bytes old : List ℕ) → 1 ≤ code.k → 1 ≤ unit
    → written (first_touched (code.k * unit) off (length bytes) * unit)
    (take (count_touched (code.k * unit) off (length bytes) * unit) (drop (first_touched (code.k * unit) off (length bytes) * unit) (position_list code unit (overlaid off bytes old) p)))
    (resized (shard_len code.k unit (length (overlaid off bytes old))) (position_list code unit old p))
    ≡ position_list code unit (overlaid off bytes old) p
write_leads code unit p off bytes old some_k some =
    let new = overlaid off bytes old in
    let list = position_list code unit new p in
    let long : length list ≡ shard_len code.k unit (length new) = length-position_list code unit new p in
    patched (resized (shard_len code.k unit (length new)) (position_list code unit old p)) list
    (first_touched (code.k * unit) off (length bytes) * unit) (count_touched (code.k * unit) off (length bytes) * unit)
    (resized_length (shard_len code.k unit (length new)) (position_list code unit old p) ∙ sym long)
    (subst (λ n. first_touched (code.k * unit) off (length bytes) * unit + count_touched (code.k * unit) off (length bytes) * unit ≤ n) (sym long) (units_inside code unit off bytes old some_k some))
    (λ i lt out.
    let inside : i < shard_len code.k unit (length new) = subst (λ n. i < n) long lt in
    grown_byte code unit old p (shard_len code.k unit (length new)) i some_k some inside
    ∙ kept_byte code unit p off bytes old i some_k some out
    ∙ sym (byte_at code unit new p i inside))
  where
    resized_length : (n : ℕ) (list : List ℕ) → length (resized n list) ≡ n
    resized_length n list = grind (arith, places)

-- Chunks in a row are their lists, and the data lists of an object give it back.
use Rattle.std.proofs.Common.{◌≡◌, ℕ, zero, suc, ◌+◌, ◌-◌, ◌*◌, ◌<◌, ◌≤◌, List, [], ◌∷◌, ◌++◌, length, map, take, drop, replicate, refl, sym, ap, ◌∙◌, arith, zero-mul, append_assoc, append-nil, length-append, length-drop, length-take}
use Rattle.std.specs.List.{flat_map, range_with_len}
use Rattle.std.proofs.lemmas.Grind.{div_ceil_times}
use Rattle.std.proofs.lemmas.List.{take_at, drop_at, drop-drop, take_all, length-replicate}
use Rattle.std.proofs.lemmas.List.FromFn.{length-map-range_with_len}
use Rattle.std.proofs.lemmas.Nat.{mul-le}
use Rattle.std.proofs.Math.Nat.{suc-mul}
use Rattle.std.proofs.Math.Seq.{take-add}
use Rattle.ec_model.specs.Stripes.{stripe_count, shard_len, padded, chunk_at, data_chunk, data_list, data_lists, stripe_at, joined}

-- two functions that agree on a range have the same pieces there
pub flat_map_same : (f g : ℕ → List ℕ) (first count : ℕ) → ((i : ℕ) → first ≤ i → i < first + count → f i ≡ g i)
    → flat_map f (range_with_len first count) ≡ flat_map g (range_with_len first count)
flat_map_same f g first zero same = refl
flat_map_same f g first (suc count) same =
    (λ i. same first (omega arith) (omega arith) i ++ flat_map_same f g (first + 1) count (λ k low high. same k (omega arith) (omega arith)) i)

-- one piece more at the end
pub flat_map-range_more : (f : ℕ → List ℕ) (first count : ℕ) → flat_map f (range_with_len first (count + 1)) ≡ flat_map f (range_with_len first count) ++ f (first + count)
flat_map-range_more f first zero =
    let one : zero + 1 ≡ suc zero = omega arith in
    ap (λ n. flat_map f (range_with_len first n)) one ∙ append-nil (f first) ∙ ap f (omega arith)
flat_map-range_more f first (suc count) =
    let more : suc count + 1 ≡ suc (count + 1) = omega arith in
    ap (λ n. flat_map f (range_with_len first n)) more
    ∙ ap (λ rest. f first ++ rest) (flat_map-range_more f (first + 1) count ∙ ap (λ n. flat_map f (range_with_len (first + 1) count) ++ f n) (omega arith))
    ∙ sym (append_assoc (f first) (flat_map f (range_with_len (first + 1) count)) (f (first + suc count)))

flat_map-map : (f : List ℕ → List ℕ) (g : ℕ → List ℕ) (xs : List ℕ) → flat_map f (map g xs) ≡ flat_map (λ x. f (g x)) xs
flat_map-map f g [] = refl
flat_map-map f g (x ∷ xs) = ap (λ rest. f (g x) ++ rest) (flat_map-map f g xs)

times_next : (n unit : ℕ) → (n + 1) * unit ≡ n * unit + unit
times_next n unit = grind arith

-- the chunks from one index on are the list from there on
pub chunks_in_a_row : (unit : ℕ) (list : List ℕ) (base first count : ℕ)
    → flat_map (λ i. chunk_at unit list (base + i)) (range_with_len first count) ≡ take (count * unit) (drop ((base + first) * unit) list)
chunks_in_a_row unit list base first zero = ap (λ n. take n (drop ((base + first) * unit) list)) (sym (zero-mul unit))
chunks_in_a_row unit list base first (suc count) =
    let place : (base + first) * unit + unit ≡ (base + (first + 1)) * unit = grind arith in
    let next : drop ((base + (first + 1)) * unit) list ≡ drop unit (drop ((base + first) * unit) list) =
    ap (λ n. drop n list) (sym place) ∙ sym (drop-drop unit ((base + first) * unit) list)
    in
    let more : suc count * unit ≡ unit + count * unit = suc-mul count unit ∙ omega arith in
    ap (λ rest. chunk_at unit list (base + first) ++ rest) (chunks_in_a_row unit list base (first + 1) count ∙ ap (take (count * unit)) next)
    ∙ sym (ap (λ n. take n (drop ((base + first) * unit) list)) more ∙ take-add unit (count * unit) (drop ((base + first) * unit) list))

-- a chunk of pieces of that size is a piece
pub chunk_at-pieces : (unit : ℕ) (f : ℕ → List ℕ) (first count index : ℕ) → ((i : ℕ) → first ≤ i → i < first + count → length (f i) ≡ unit)
    → index < count → chunk_at unit (flat_map f (range_with_len first count)) index ≡ f (first + index)
chunk_at-pieces unit f first zero index long inside = absurd (omega arith)
chunk_at-pieces unit f first (suc count) zero long inside =
    ap (λ n. take unit (drop n (f first ++ flat_map f (range_with_len (first + 1) count)))) (zero-mul unit)
    ∙ take_at (f first) (flat_map f (range_with_len (first + 1) count)) unit (long first (omega arith) (omega arith))
    ∙ ap f (omega arith)
chunk_at-pieces unit f first (suc count) (suc index) long inside =
    let rest = flat_map f (range_with_len (first + 1) count) in
    let place : suc index * unit ≡ unit + index * unit = suc-mul index unit ∙ omega arith in
    ap (λ n. take unit (drop n (f first ++ rest))) place
    ∙ ap (take unit) (sym (drop-drop (index * unit) unit (f first ++ rest)) ∙ ap (drop (index * unit)) (drop_at (f first) rest unit (long first (omega arith) (omega arith))))
    ∙ chunk_at-pieces unit f (first + 1) count index (λ k low high. long k (omega arith) (omega arith)) (omega arith)
    ∙ ap f (omega arith)

-- whole stripes: as many bytes as the stripes have, and the object at the front
pub length-padded : (k unit : ℕ) (bytes : List ℕ) → 1 ≤ k * unit → length (padded k unit bytes) ≡ stripe_count k unit (length bytes) * (k * unit)
length-padded k unit bytes some =
    let bounds = div_ceil_times (length bytes) (k * unit) (omega arith) in
    length-append bytes (replicate (stripe_count k unit (length bytes) * (k * unit) - length bytes) 0)
    ∙ ap (λ n. length bytes + n) (length-replicate (stripe_count k unit (length bytes) * (k * unit) - length bytes) 0)
    ∙ omega (arith, bounds.0)

chunk_inside : (k unit count stripe j : ℕ) → stripe < count → j < k → (stripe * k + j) * unit + unit ≤ count * (k * unit)
chunk_inside k unit count stripe j below inside =
    let rows : (stripe + 1) * k ≤ count * k = mul-le (stripe + 1) k count k (omega arith) (omega arith) in
    let first : (stripe + 1) * k ≡ stripe * k + k = times_next stripe k in
    let units : (stripe * k + j + 1) * unit ≤ count * k * unit = mul-le (stripe * k + j + 1) unit (count * k) unit (omega arith) (omega arith) in
    let next : (stripe * k + j + 1) * unit ≡ (stripe * k + j) * unit + unit = times_next (stripe * k + j) unit in
    let same : count * k * unit ≡ count * (k * unit) = grind arith in
    omega arith

pub length-data_chunk : (k unit : ℕ) (whole : List ℕ) (count stripe j : ℕ) → length whole ≡ count * (k * unit) → stripe < count → j < k
    → length (data_chunk k unit whole j stripe) ≡ unit
length-data_chunk k unit whole count stripe j long below inside =
    let room : (stripe * k + j) * unit + unit ≤ count * (k * unit) = chunk_inside k unit count stripe j below inside in
    omega (arith, length-take unit (drop ((stripe * k + j) * unit) whole), length-drop ((stripe * k + j) * unit) whole)

length-pieces : (unit : ℕ) (f : ℕ → List ℕ) (first count : ℕ) → ((i : ℕ) → first ≤ i → i < first + count → length (f i) ≡ unit)
    → length (flat_map f (range_with_len first count)) ≡ count * unit
length-pieces unit f first zero long = sym (zero-mul unit)
length-pieces unit f first (suc count) long =
    let rest = length-pieces unit f (first + 1) count (λ k low high. long k (omega arith) (omega arith)) in
    let here : length (f first) ≡ unit = long first (omega arith) (omega arith) in
    length-append (f first) (flat_map f (range_with_len (first + 1) count)) ∙ omega (arith, rest, here, suc-mul count unit)

pub length-data_list : (k unit : ℕ) (bytes : List ℕ) (j : ℕ) → 1 ≤ k * unit → j < k → length (data_list k unit bytes j) ≡ shard_len k unit (length bytes)
length-data_list k unit bytes j some inside =
    let whole = padded k unit bytes in
    let count = stripe_count k unit (length bytes) in
    length-pieces unit (data_chunk k unit whole j) 0 count (λ i _ high. length-data_chunk k unit whole count i j (length-padded k unit bytes some) (omega arith) inside)

-- a stripe of the data lists is that stripe of the whole
stripe_at-data_lists : (k unit : ℕ) (bytes : List ℕ) (stripe : ℕ) → 1 ≤ k * unit → stripe < stripe_count k unit (length bytes)
    → stripe_at unit (data_lists k unit bytes) stripe ≡ chunk_at (k * unit) (padded k unit bytes) stripe
stripe_at-data_lists k unit bytes stripe some below =
    let whole = padded k unit bytes in
    let count = stripe_count k unit (length bytes) in
    let place : (stripe * k + 0) * unit ≡ stripe * (k * unit) = grind arith in
    flat_map-map (λ list. chunk_at unit list stripe) (data_list k unit bytes) (range_with_len 0 k)
    ∙ flat_map_same (λ j. chunk_at unit (data_list k unit bytes j) stripe) (λ j. chunk_at unit whole (stripe * k + j)) 0 k (λ j _ inside.
    chunk_at-pieces unit (data_chunk k unit whole j) 0 count stripe (λ i _ high. length-data_chunk k unit whole count i j (length-padded k unit bytes some) (omega arith) (omega arith)) below
    ∙ ap (data_chunk k unit whole j) (omega arith))
    ∙ chunks_in_a_row unit whole (stripe * k) 0 k
    ∙ ap (λ n. take (k * unit) (drop n whole)) place

length-data_lists : (k unit : ℕ) (bytes : List ℕ) → length (data_lists k unit bytes) ≡ k
length-data_lists k unit bytes = length-map-range_with_len (data_list k unit bytes) 0 k

pub joined-data_lists : (k unit : ℕ) (bytes : List ℕ) → 1 ≤ k * unit → joined unit (data_lists k unit bytes) (length bytes) ≡ bytes
joined-data_lists k unit bytes some =
    let whole = padded k unit bytes in
    let count = stripe_count k unit (length bytes) in
    let lists = data_lists k unit bytes in
    let all : flat_map (stripe_at unit lists) (range_with_len 0 count) ≡ whole =
    flat_map_same (stripe_at unit lists) (λ i. chunk_at (k * unit) whole (0 + i)) 0 count (λ i _ high.
    stripe_at-data_lists k unit bytes i some (omega arith) ∙ ap (chunk_at (k * unit) whole) (omega arith))
    ∙ chunks_in_a_row (k * unit) whole 0 0 count
    ∙ ap (λ n. take (count * (k * unit)) (drop n whole)) (zero-mul (k * unit))
    ∙ take_all (count * (k * unit)) whole (omega (arith, length-padded k unit bytes some))
    in
    ap (λ n. take (length bytes) (flat_map (stripe_at unit lists) (range_with_len 0 (stripe_count n unit (length bytes))))) (length-data_lists k unit bytes)
    ∙ ap (take (length bytes)) all
    ∙ take_at bytes (replicate (count * (k * unit) - length bytes) 0) (length bytes) refl

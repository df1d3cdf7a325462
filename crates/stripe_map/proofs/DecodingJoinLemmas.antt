-- Stripes that are joined one after another.
use Rattle.std.proofs.Common.{◌≡◌, ℕ, zero, suc, ◌+◌, ◌*◌, ◌<◌, ◌≤◌, List, ◌++◌, length, take, drop, sym, ap, ◌∙◌, append_assoc, arith, zero-mul, length-append, length-take, length-drop}
use Rattle.std.specs.List.{flat_map, range_with_len}
use Rattle.std.proofs.lemmas.Grind.{div_ceil_times}
use Rattle.std.proofs.lemmas.Nat.{mul-le}
use Rattle.std.proofs.Math.Nat.{suc-mul}
use Rattle.ec_model.specs.Stripes.{chunk_at, stripe_count, shard_len}
use Rattle.ec_model.proofs.StripeLemmas.{flat_map-range_more}
use Rattle.stripe_map.specs.Decoding.{list_at, stripe_of, stripes_of, HaveLength}
use Rattle.stripe_map.proofs.EncodingLemmas.{times_next}

-- one piece more
pub pieces_more : (f : ℕ → List ℕ) (first old new piece : List ℕ) (j : ℕ) → old ≡ first ++ flat_map f (range_with_len 0 j) → new ≡ old ++ piece → piece ≡ f j
    → new ≡ first ++ flat_map f (range_with_len 0 (j + 1))
pieces_more f first old new piece j so_far more is =
    let at : j ≡ 0 + j = omega arith in
    more
    ∙ (λ i. so_far i ++ (is ∙ ap f at) i)
    ∙ append_assoc first (flat_map f (range_with_len 0 j)) (f (0 + j))
    ∙ ap (λ l. first ++ l) (sym (flat_map-range_more f 0 j))

-- a stripe's chunk lies inside each list
pub chunk_inside : (k unit size t j : ℕ) (lists : List (List ℕ)) → HaveLength k (shard_len k unit size) lists → t < stripe_count k unit size → j < k
    → t * unit + unit ≤ length (list_at lists j)
chunk_inside k unit size t j lists have lt inside =
    let count = stripe_count k unit size in
    let room : (t + 1) * unit ≤ count * unit = mul-le (t + 1) unit count unit (omega arith) (omega arith) in
    let long : length (list_at lists j) ≡ count * unit = have.each j inside in
    omega (arith, times_next t unit)

length-pieces : (unit : ℕ) (f : ℕ → List ℕ) (first count : ℕ) → ((i : ℕ) → first ≤ i → i < first + count → length (f i) ≡ unit)
    → length (flat_map f (range_with_len first count)) ≡ count * unit
length-pieces unit f first zero long = sym (zero-mul unit)
length-pieces unit f first (suc count) long =
    let rest = length-pieces unit f (first + 1) count (λ k low high. long k (omega arith) (omega arith)) in
    let here : length (f first) ≡ unit = long first (omega arith) (omega arith) in
    length-append (f first) (flat_map f (range_with_len (first + 1) count)) ∙ omega (arith, rest, here, suc-mul count unit)

pub length-stripe_of : (k unit size t : ℕ) (lists : List (List ℕ)) → HaveLength k (shard_len k unit size) lists → t < stripe_count k unit size
    → length (stripe_of k unit lists t) ≡ k * unit
length-stripe_of k unit size t lists have lt =
    length-pieces unit (λ j. chunk_at unit (list_at lists j) t) 0 k (λ j _ high.
    let inside : j < k = omega arith in
    let room : t * unit + unit ≤ length (list_at lists j) = chunk_inside k unit size t j lists have lt inside in
    omega (arith, length-take unit (drop (t * unit) (list_at lists j)), length-drop (t * unit) (list_at lists j)))

pub length-stripes_of : (k unit size : ℕ) (lists : List (List ℕ)) → HaveLength k (shard_len k unit size) lists
    → length (stripes_of k unit lists (stripe_count k unit size)) ≡ stripe_count k unit size * (k * unit)
length-stripes_of k unit size lists have =
    length-pieces (k * unit) (stripe_of k unit lists) 0 (stripe_count k unit size) (λ t _ high.
    let inside : t < stripe_count k unit size = omega arith in
    length-stripe_of k unit size t lists have inside)

-- the front of all stripes has as many bytes as the object
pub joined_long : (k unit size : ℕ) (lists : List (List ℕ)) (whole : List ℕ) → 1 ≤ k * unit → HaveLength k (shard_len k unit size) lists
    → whole ≡ stripes_of k unit lists (stripe_count k unit size) → length (take size whole) ≡ size
joined_long k unit size lists whole some have is =
    let bounds = div_ceil_times size (k * unit) (omega arith) in
    let all : length whole ≡ stripe_count k unit size * (k * unit) = ap length is ∙ length-stripes_of k unit size lists have in
    omega (arith, length-take size whole, all, bounds.0)

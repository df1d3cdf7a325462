-- Sums of multiples of positions' lists are lists of positions, and the data positions' lists give the object back.
use Rattle.std.proofs.Common.{◌≡◌, ℕ, ◌+◌, ◌-◌, ◌*◌, ◌^◌, ◌<◌, ◌≤◌, List, length, take, drop, replicate, slice_index, refl, sym, ap, subst, ◌∙◌, arith, inl, inr, ◌⊎◌, lit<, length-drop, length-take, zero-mul}
use Rattle.std.specs.List.{All}
use Rattle.std.specs.Int.{bit_at}
use Rattle.std.proofs.lemmas.Bool.{cases_eq, cases_lt}
use Rattle.std.proofs.lemmas.Bool.Decides.{nat_tests}
use Rattle.std.proofs.lemmas.Grind.{same_number_lists}
use Rattle.std.proofs.lemmas.List.{get_or-take, get_or-drop, get_or_past, take_all, take_at}
use Rattle.std.proofs.lemmas.List.Elements.{All-append, All-replicate, All-get_or}
use Rattle.std.proofs.lemmas.Nat.{mul-le, mul-add-lt}
use Rattle.ec_model.specs.Field.{field_product}
use Rattle.ec_model.specs.Rows.{sum_below, entry_at, unit_entry}
use Rattle.ec_model.specs.Stripes.{stripe_count, shard_len, padded, chunk_at}
use Rattle.ec_model.specs.Codes.{CodeRows, IsCode, HasPosition, Combines, IsPositionList}
use Rattle.ec_model.proofs.StripeLemmas.{flat_map_same, chunks_in_a_row, length-padded}
use Rattle.gf256.proofs.CallerLemmas.{zero-field_product, one-field_product, field_product_comm, field_product_assoc}
use Rattle.ec_matrix.proofs.CallerLemmas.{sum_below-same, sum_below-single, sum_below-times, sum_below-exchange}
use Rattle.stripe_map.specs.Decoding.{list_at, stripe_of, stripes_of, AreDataLists}
use Rattle.stripe_map.specs.DecodingLaws.{SumIsTheList}
use Rattle.stripe_map.proofs.EncodingLemmas.{times_next}

-- a sum of multiples of rows, times some bytes: the sum of the multiples of the rows' products with them
combined_sum : (n k : ℕ) (c w d : ℕ → ℕ) (e : ℕ → ℕ → ℕ) → ((j : ℕ) → j < k → sum_below n (λ q. field_product (c q) (e q j)) ≡ w j)
    → sum_below k (λ j. field_product (w j) (d j)) ≡ sum_below n (λ q. field_product (c q) (sum_below k (λ j. field_product (e q j) (d j))))
combined_sum n k c w d e makes =
    sum_below-same k (λ j. field_product (w j) (d j)) (λ j. sum_below n (λ q. field_product (c q) (field_product (e q j) (d j))))
    (λ j lt.
    ap (λ t. field_product t (d j)) (sym (makes j lt))
    ∙ field_product_comm (sum_below n (λ q. field_product (c q) (e q j))) (d j)
    ∙ sym (sum_below-times n (d j) (λ q. field_product (c q) (e q j)))
    ∙ sum_below-same n (λ q. field_product (d j) (field_product (c q) (e q j))) (λ q. field_product (c q) (field_product (e q j) (d j)))
    (λ q _. field_product_comm (d j) (field_product (c q) (e q j)) ∙ field_product_assoc (c q) (e q j) (d j)))
    ∙ sum_below-exchange n k (λ q j. field_product (c q) (field_product (e q j) (d j)))
    ∙ sum_below-same n (λ q. sum_below k (λ j. field_product (c q) (field_product (e q j) (d j)))) (λ q. field_product (c q) (sum_below k (λ j. field_product (e q j) (d j))))
    (λ q _. sum_below-times k (c q) (λ j. field_product (e q j) (d j)))

test : (from q : ℕ) → HasPosition from q ⊎ (HasPosition from q → ⊥)
test from q = cases_eq (bit_at from q) 1

-- the sum of the lists of a set, each times its coefficient, is the list of the position that the coefficients make
pub sum_is_position_list : (code : CodeRows) (unit : ℕ) (bytes : List ℕ) (from p : ℕ) (coefficients : List ℕ) (lists : ℕ → List ℕ) (list : List ℕ) → code.n ≤ 16
    → Combines code from p coefficients → ((q : ℕ) → q < code.n → HasPosition from q → IsPositionList code unit bytes q (lists q))
    → length list ≡ shard_len code.k unit (length bytes)
    → ((i : ℕ) → i < length list → slice_index list i ≡ sum_below code.n (λ q. field_product (slice_index coefficients q) (slice_index (lists q) i)))
    → IsPositionList code unit bytes p list
sum_is_position_list code unit bytes from p c lists list few makes each long sums = record {
  long = long;
  sums = λ t b lt lb.
      sums (t * unit + b) (omega (arith, mul-add-lt t unit b (stripe_count code.k unit (length bytes)) lt lb, long))
      ∙ sum_below-same code.n (λ q. field_product (slice_index c q) (slice_index (lists q) (t * unit + b)))
      (λ q. field_product (slice_index c q) (sum_below code.k (λ j. field_product (entry_at code.rows q j) (slice_index (padded code.k unit bytes) ((t * code.k + j) * unit + b)))))
      (λ q lq. elim (test from q) [
        | inl here ↦ ap (field_product (slice_index c q)) ((each q lq here).sums t b lt lb)
        | inr out ↦
            ap (λ x. field_product x (slice_index (lists q) (t * unit + b))) (makes.outside q (omega arith) out) ∙ zero-field_product (slice_index (lists q) (t * unit + b))
            ∙ sym (ap (λ x. field_product x (sum_below code.k (λ j. field_product (entry_at code.rows q j) (slice_index (padded code.k unit bytes) ((t * code.k + j) * unit + b))))) (makes.outside q (omega arith) out)
            ∙ zero-field_product (sum_below code.k (λ j. field_product (entry_at code.rows q j) (slice_index (padded code.k unit bytes) ((t * code.k + j) * unit + b)))))
      ])
      ∙ sym (combined_sum code.n code.k (slice_index c) (entry_at code.rows p) (λ j. slice_index (padded code.k unit bytes) ((t * code.k + j) * unit + b)) (entry_at code.rows) makes.makes);
}

pub sum_is_the_list : SumIsTheList
sum_is_the_list code unit set p bytes coefficients lists list is makes each long sums =
    sum_is_position_list code unit bytes set p coefficients lists list is.few makes each long sums

-- a byte of a chunk in a list of chunks
pub chunk_byte : (unit : ℕ) (list : List ℕ) (index b : ℕ) → b < unit → slice_index (chunk_at unit list index) b ≡ slice_index list (index * unit + b)
chunk_byte unit list index b lt = get_or-take unit (drop (index * unit) list) b 0 lt ∙ get_or-drop (index * unit) list b 0

pub chunk_long : (unit : ℕ) (list : List ℕ) (index count : ℕ) → length list ≡ count * unit → index < count → length (chunk_at unit list index) ≡ unit
chunk_long unit list index count long lt =
    let room : (index + 1) * unit ≤ count * unit = mul-le (index + 1) unit count unit (omega arith) (omega arith) in
    let next : (index + 1) * unit ≡ index * unit + unit = times_next index unit in
    omega (arith, length-take unit (drop (index * unit) list), length-drop (index * unit) list)

pub padded_byte : (k unit : ℕ) (bytes : List ℕ) (i : ℕ) → All (λ b. b < 2 ^ 8) bytes → slice_index (padded k unit bytes) i < 2 ^ 8
padded_byte k unit bytes i all =
    let whole = padded k unit bytes in
    let each = All-append (λ b. b < 2 ^ 8) bytes (replicate (stripe_count k unit (length bytes) * (k * unit) - length bytes) 0) all (All-replicate (λ b. b < 2 ^ 8) _ 0 (lit< tt)) in
    elim (cases_lt i (length whole)) [
      | inl lt ↦ All-get_or (λ b. b < 2 ^ 8) whole i 0 lt each
      | inr ge ↦ subst (λ n. n < 2 ^ 8) (sym (past i ge)) (lit< tt)
    ]
  where
    past : (i : ℕ) → length (padded k unit bytes) ≤ i → slice_index (padded k unit bytes) i ≡ 0
    past i ge = get_or_past (padded k unit bytes) i 0 ge

-- the sum at a data position is the data chunk
pub data_sum : (code : CodeRows) (i : ℕ) (f : ℕ → ℕ) → IsCode code → i < code.k → f i < 2 ^ 8
    → sum_below code.k (λ j. field_product (entry_at code.rows (slice_index code.places i) j) (f j)) ≡ f i
data_sum code i f is lt byte =
    sum_below-single code.k i (λ j. field_product (entry_at code.rows (slice_index code.places i) j) (f j)) lt
    (λ j lj ne. ap (λ e. field_product e (f j)) (is.units i j lt lj ∙ other i j (λ d. ne (sym d))) ∙ zero-field_product (f j))
    ∙ ap (λ e. field_product e (f i)) (is.units i i lt lt ∙ same i) ∙ one-field_product (f i) ∙ omega (arith, byte)
  where
    other : (i j : ℕ) → (i ≡ j → ⊥) → unit_entry i j ≡ 0
    other i j h = grind (arith, nat_tests)

    same : (i : ℕ) → unit_entry i i ≡ 1
    same i = grind (arith, nat_tests)

-- a chunk of a data position's list is the data chunk
data_chunk_read : (code : CodeRows) (unit : ℕ) (bytes : List ℕ) (t j : ℕ) (list : List ℕ) → IsCode code → 1 ≤ code.k * unit → All (λ b. b < 2 ^ 8) bytes → j < code.k
    → t < stripe_count code.k unit (length bytes) → IsPositionList code unit bytes (slice_index code.places j) list
    → chunk_at unit list t ≡ chunk_at unit (padded code.k unit bytes) (t * code.k + j)
data_chunk_read code unit bytes t j list is some all lj lt has =
    let whole = padded code.k unit bytes in
    let count = stripe_count code.k unit (length bytes) in
    let one : length (chunk_at unit list t) ≡ unit = chunk_long unit list t count has.long lt in
    let chunks : length whole ≡ count * code.k * unit = length-padded code.k unit bytes some ∙ grind arith in
    let below : t * code.k + j < count * code.k = omega (arith, mul-add-lt t code.k j count lt lj) in
    let other : length (chunk_at unit whole (t * code.k + j)) ≡ unit = chunk_long unit whole (t * code.k + j) (count * code.k) chunks below in
    same_number_lists (chunk_at unit list t) (chunk_at unit whole (t * code.k + j)) (one ∙ sym other) (λ b lb.
    chunk_byte unit list t b (omega arith) ∙ has.sums t b lt (omega arith)
    ∙ data_sum code j (λ j. slice_index whole ((t * code.k + j) * unit + b)) is lj (padded_byte code.k unit bytes ((t * code.k + j) * unit + b) all)
    ∙ sym (chunk_byte unit whole (t * code.k + j) b (omega arith)))

-- a stripe of the data positions' lists is that of the padded bytes
stripe_read : (code : CodeRows) (unit : ℕ) (bytes : List ℕ) (t : ℕ) (lists : List (List ℕ)) → IsCode code → 1 ≤ code.k * unit → All (λ b. b < 2 ^ 8) bytes
    → AreDataLists code unit bytes lists → t < stripe_count code.k unit (length bytes)
    → stripe_of code.k unit lists t ≡ chunk_at (code.k * unit) (padded code.k unit bytes) t
stripe_read code unit bytes t lists is some all has lt =
    let whole = padded code.k unit bytes in
    let place : (t * code.k + 0) * unit ≡ t * (code.k * unit) = grind arith in
    flat_map_same (λ j. chunk_at unit (list_at lists j) t) (λ j. chunk_at unit whole (t * code.k + j)) 0 code.k (λ j _ lj.
    let inside : j < code.k = omega arith in
    data_chunk_read code unit bytes t j (list_at lists j) is some all inside lt (has j inside))
    ∙ chunks_in_a_row unit whole (t * code.k) 0 code.k
    ∙ ap (λ n. take (code.k * unit) (drop n whole)) place

-- all stripes of the data positions' lists, without the padding, are the object
pub object_back : (code : CodeRows) (unit : ℕ) (bytes : List ℕ) (lists : List (List ℕ)) → IsCode code → 1 ≤ code.k * unit → All (λ b. b < 2 ^ 8) bytes
    → AreDataLists code unit bytes lists → take (length bytes) (stripes_of code.k unit lists (stripe_count code.k unit (length bytes))) ≡ bytes
object_back code unit bytes lists is some all has =
    let whole = padded code.k unit bytes in
    let count = stripe_count code.k unit (length bytes) in
    let width = code.k * unit in
    ap (take (length bytes))
    (flat_map_same (stripe_of code.k unit lists) (λ i. chunk_at width whole (0 + i)) 0 count (λ i _ high.
    let inside : i < count = omega arith in
    stripe_read code unit bytes i lists is some all has inside ∙ ap (chunk_at width whole) (omega arith))
    ∙ chunks_in_a_row width whole 0 0 count
    ∙ ap (λ n. take (count * width) (drop n whole)) (zero-mul width)
    ∙ take_all (count * width) whole (omega (arith, length-padded code.k unit bytes some)))
    ∙ take_at bytes (replicate (count * width - length bytes) 0) (length bytes) refl

-- the object, from what was joined
pub joined_back : (code : CodeRows) (unit many size : ℕ) (bytes : List ℕ) (lists : List (List ℕ)) (whole : List ℕ) → IsCode code → 1 ≤ unit → many ≡ code.k → length bytes ≡ size
    → All (λ b. b < 2 ^ 8) bytes → AreDataLists code unit bytes lists → whole ≡ take size (stripes_of many unit lists (stripe_count many unit size)) → whole ≡ bytes
joined_back code unit many size bytes lists whole is some as_many has_size all has shown =
    shown
    ∙ (λ i. take (sym has_size i) (stripes_of (as_many i) unit lists (stripe_count (as_many i) unit (sym has_size i))))
    ∙ object_back code unit bytes lists is (mul-le 1 1 code.k unit is.some_data some) all has

-- Lists that the chunks of a set make by rows of coefficients.
use Rattle.std.proofs.Common.{◌≡◌, ◌<◌, ◌≤◌, ◌+◌, ◌*◌, ◌^◌, ◌%◌, ℕ, List, [], Option, length, slice_index, sym, ap, subst, ◌∙◌, arith, zero-add}
use Rattle.std.proofs.lemmas.Bool.Decides.{nat_tests}
use Rattle.std.proofs.lemmas.Grind.{same_number_lists}
use Rattle.std.proofs.lemmas.List.FromFn.{get_or-map-range_with_len, length-map-range_with_len}
use Rattle.std.proofs.lemmas.Nat.{mul-add-lt}
use Rattle.ec_model.specs.Field.{field_product}
use Rattle.ec_model.specs.Rows.{row_at, entry_at, unit_entry}
use Rattle.ec_model.specs.Stripes.{shard_len, chunk_at}
use Rattle.ec_model.specs.Codes.{CodeRows, IsCode, HasPosition, Combines, IsPositionList}
use Rattle.gf256.proofs.CallerLemmas.{zero-field_product, one-field_product}
use Rattle.ec_matrix.proofs.CallerLemmas.{sum_below-single}
use Rattle.stripe_map.specs.Decoding.{IsMaskOf, ArePositionLists, AreDataLists, HaveLength, list_at, made_byte, made_list, made_lists}
use Rattle.stripe_map.proofs.DecodingLemmas.{chunk_byte, chunk_long}
use Rattle.stripe_map.proofs.DecodingSumLemmas.{chunks_make_list}

pub unit_self : (i : ℕ) → unit_entry i i ≡ 1
unit_self i = grind (arith, nat_tests)

pub unit_other : (i j : ℕ) → (j ≡ i → ⊥) → unit_entry i j ≡ 0
unit_other i j h = grind (arith, nat_tests)

unit_small : (i j : ℕ) → unit_entry i j % 2 ^ 8 ≡ unit_entry i j
unit_small i j = grind (arith, nat_tests)

-- a data position's own chunk makes its list
pub own_chunk_combines : (code : CodeRows) (from i : ℕ) (row : List ℕ) → IsCode code → i < code.k → HasPosition from (slice_index code.places i)
    → length row ≡ 16 → ((q : ℕ) → q < 16 → slice_index row q ≡ unit_entry (slice_index code.places i) q) → Combines code from (slice_index code.places i) row
own_chunk_combines code from i row is lt has long entries =
    let p = slice_index code.places i in
    let placed : p < code.n = is.placed i lt in
    record {
      long = long;
      outside = λ q inside out. entries q inside ∙ unit_other p q (λ e. out (subst (HasPosition from) (sym e) has));
      makes = λ j lj.
          sum_below-single code.n p (λ q. field_product (slice_index row q) (entry_at code.rows q j)) placed
          (λ q lq ne. ap (λ t. field_product t (entry_at code.rows q j)) (entries q (omega (arith, is.few)) ∙ unit_other p q ne) ∙ zero-field_product (entry_at code.rows q j))
          ∙ ap (λ t. field_product t (entry_at code.rows p j)) (entries p (omega (arith, is.few)) ∙ unit_self p)
          ∙ one-field_product (entry_at code.rows p j)
          ∙ subst (λ e. e % 2 ^ 8 ≡ e) (sym (is.units i j lt lj)) (unit_small i j);
    }

pub made_list_at : (k n : ℕ) (rows : List (List ℕ)) (chunks : List (Option (List ℕ))) (long j : ℕ) → j < k
    → list_at (made_lists k n rows chunks long) j ≡ made_list n (row_at rows j) chunks long
made_list_at k n rows chunks long j lt = get_or-map-range_with_len (λ j. made_list n (row_at rows j) chunks long) 0 k j j [] lt (zero-add j)

-- the lists that are made have their length
pub made_have_length : (k n : ℕ) (rows : List (List ℕ)) (chunks : List (Option (List ℕ))) (long : ℕ) → HaveLength k long (made_lists k n rows chunks long)
made_have_length k n rows chunks long = record {
  as_many = length-map-range_with_len (λ j. made_list n (row_at rows j) chunks long) 0 k;
  each = λ j lt. ap length (made_list_at k n rows chunks long j lt) ∙ length-map-range_with_len (made_byte n (row_at rows j) chunks) 0 long;
}

-- the lists that are made are those of the data positions
pub made_are_data_lists : (code : CodeRows) (unit : ℕ) (bytes : List ℕ) (from : ℕ) (rows : List (List ℕ)) (chunks : List (Option (List ℕ))) (long : ℕ) → code.n ≤ 16
    → IsMaskOf chunks from → ((j : ℕ) → j < code.k → Combines code from (slice_index code.places j) (row_at rows j)) → ArePositionLists code unit chunks bytes
    → long ≡ shard_len code.k unit (length bytes) → AreDataLists code unit bytes (made_lists code.k code.n rows chunks long)
made_are_data_lists code unit bytes from rows chunks long few is makes lists same = λ j lt.
    let f = made_byte code.n (row_at rows j) chunks in
    let many = length-map-range_with_len f 0 long in
    subst (IsPositionList code unit bytes (slice_index code.places j)) (sym (made_list_at code.k code.n rows chunks long j lt))
    (chunks_make_list code unit bytes from (slice_index code.places j) (row_at rows j) chunks (made_list code.n (row_at rows j) chunks long) few is (makes j lt) lists
    (many ∙ same) (λ i li. get_or-map-range_with_len f 0 long i i 0 (omega (arith, many)) (zero-add i)))

-- a piece that is made byte by byte is the chunk of a stripe
pub made_piece : (k n unit count t j : ℕ) (rows : List (List ℕ)) (chunks : List (Option (List ℕ))) (piece : List ℕ) → j < k → t < count → length piece ≡ unit
    → ((b : ℕ) → b < unit → slice_index piece b ≡ made_byte n (row_at rows j) chunks (t * unit + b))
    → piece ≡ chunk_at unit (list_at (made_lists k n rows chunks (count * unit)) j) t
made_piece k n unit count t j rows chunks piece lj lt long bytes =
    let f = made_byte n (row_at rows j) chunks in
    let list = made_list n (row_at rows j) chunks (count * unit) in
    let many : length list ≡ count * unit = length-map-range_with_len f 0 (count * unit) in
    same_number_lists piece (chunk_at unit list t) (long ∙ sym (chunk_long unit list t count many lt)) (λ b lb.
    bytes b (omega arith)
    ∙ sym (get_or-map-range_with_len f 0 (count * unit) (t * unit + b) (t * unit + b) 0 (omega (arith, mul-add-lt t unit b count lt (omega arith))) (zero-add (t * unit + b)))
    ∙ sym (chunk_byte unit list t b (omega arith)))
    ∙ ap (λ l. chunk_at unit l t) (sym (made_list_at k n rows chunks (count * unit) j lj))

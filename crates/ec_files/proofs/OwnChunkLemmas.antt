-- The chunks of a set with no position to spare are those of the file that they make.
use Rattle.std.proofs.Common.{◌≡◌, ◌≢◌, ◌+◌, ◌-◌, ◌*◌, ◌/◌, ◌%◌, ◌<◌, ◌≤◌, ◌^◌, ◌++◌, ℕ, List, Option, Some, length, slice_index, replicate, min, bit_xor, ap, sym, subst, ◌∙◌, arith, inl, inr, append-nil}
use Rattle.std.specs.Int.{bit_at}
use Rattle.std.specs.Int.Bits.{xor_self, xor_zero_l, xor_assoc}
use Rattle.std.specs.List.{All}
use Rattle.std.proofs.Math.Nat.{mod-lt, mod-eq_of_lt, mul-div_cancel, mul-mod_left}
use Rattle.std.proofs.lemmas.Bool.{cases_eq}
use Rattle.std.proofs.lemmas.Bool.Decides.{nat_tests}
use Rattle.std.proofs.lemmas.List.Elements.{All-get_or, All-from_get_or}
use Rattle.std.proofs.lemmas.Nat.{mul-le, mul-add-lt, div-mul-add, mod-mul-add, div-add-mod', xor_of_8}
use Rattle.ec_model.specs.Codes.{CodeRows, IsCode, IsColumn, HasPosition, IsPositionList, chunk_of}
use Rattle.ec_model.specs.Field.{field_product}
use Rattle.ec_model.specs.Rows.{sum_below, row_at, entry_at, unit_entry}
use Rattle.ec_model.specs.Stripes.{stripe_count, padded}
use Rattle.gf256.proofs.CallerLemmas.{field_product_comm, field_product_assoc, field_product-zero, zero-field_product, one-field_product, sum-field_product, field_product-lt}
use Rattle.ec_matrix.proofs.CallerLemmas.{sum_below-same, sum_below-sum, sum_below-times, sum_below-zero, sum_below-single, sum_below-change, sum_below-lt, sum_below-exchange, dot-lt, dot_comm, dot_unit, dot_of_combined}
use Rattle.stripe_map.specs.Assembling.{MakeData, IsMade}
use Rattle.stripe_map.specs.Chunks.{chunk_of_position}
use Rattle.stripe_map.specs.Decoding.{bytes_of, made_byte}
use Rattle.ec_files.specs.Chunks.{DecideByOthers, NeedsEach}
use Rattle.ec_files.proofs.QuotientLemmas.{equal_from_sum, one_quotient}
use Rattle.ec_files.proofs.SameEncodeLemmas.{unit_inside}

unit_self : (i : ℕ) → unit_entry i i ≡ 1
unit_self i = grind (arith, nat_tests)

unit_other : (i j : ℕ) → (j ≡ i → ⊥) → unit_entry i j ≡ 0
unit_other i j h = grind (arith, nat_tests)

unit_small : (i j : ℕ) → unit_entry i j < 2 ^ 8
unit_small i j = grind (arith, nat_tests)

-- ---- from the chunks to the file and back

-- the coefficient of position q if the chunk of position p is made of the chunks that made the file
abbrev back : CodeRows → List (List ℕ) → ℕ → ℕ → ℕ
back code rows p q = sum_below code.k (λ j. field_product (entry_at code.rows p j) (slice_index (row_at rows j) q))

back_sum : (code : CodeRows) (rows : List (List ℕ)) (p : ℕ) (v : ℕ → ℕ) → sum_below code.n (λ q. field_product (back code rows p q) (v q))
    ≡ sum_below code.k (λ j. field_product (entry_at code.rows p j) (sum_below code.n (λ q. field_product (slice_index (row_at rows j) q) (v q))))
back_sum code rows p v =
    sum_below-same code.n (λ q. field_product (back code rows p q) (v q))
    (λ q. sum_below code.k (λ j. field_product (entry_at code.rows p j) (field_product (slice_index (row_at rows j) q) (v q)))) (λ q _. one q)
    ∙ sym (sum_below-exchange code.n code.k (λ q j. field_product (entry_at code.rows p j) (field_product (slice_index (row_at rows j) q) (v q))))
    ∙ sum_below-same code.k (λ j. sum_below code.n (λ q. field_product (entry_at code.rows p j) (field_product (slice_index (row_at rows j) q) (v q))))
    (λ j. field_product (entry_at code.rows p j) (sum_below code.n (λ q. field_product (slice_index (row_at rows j) q) (v q))))
    (λ j _. sum_below-times code.n (entry_at code.rows p j) (λ q. field_product (slice_index (row_at rows j) q) (v q)))
  where
    one : (q : ℕ) → field_product (back code rows p q) (v q)
        ≡ sum_below code.k (λ j. field_product (entry_at code.rows p j) (field_product (slice_index (row_at rows j) q) (v q)))
    one q =
        field_product_comm (back code rows p q) (v q)
        ∙ sym (sum_below-times code.k (v q) (λ j. field_product (entry_at code.rows p j) (slice_index (row_at rows j) q)))
        ∙ sum_below-same code.k (λ j. field_product (v q) (field_product (entry_at code.rows p j) (slice_index (row_at rows j) q)))
        (λ j. field_product (entry_at code.rows p j) (field_product (slice_index (row_at rows j) q) (v q)))
        (λ j _. field_product_comm (v q) (field_product (entry_at code.rows p j) (slice_index (row_at rows j) q)) ∙ field_product_assoc (entry_at code.rows p j) (slice_index (row_at rows j) q) (v q))

-- rows that make the data positions make each byte of a column of its chunks
column_back : (code : CodeRows) (set : ℕ) (rows : List (List ℕ)) (x : List ℕ) (j : ℕ) → IsCode code → MakeData code set rows → IsColumn code.k x → j < code.k
    → sum_below code.n (λ q. field_product (slice_index (row_at rows j) q) (chunk_of code x q)) ≡ slice_index x j
column_back code set rows x j is makes column lj =
    sym (dot_of_combined code.n code.k (row_at rows j) x (row_at code.rows (slice_index code.places j)) (λ q i. entry_at code.rows q i) ((makes j lj).makes))
    ∙ dot_comm code.k (row_at code.rows (slice_index code.places j)) x
    ∙ dot_unit code.k j x (row_at code.rows (slice_index code.places j)) lj (λ i li. is.units j i lj li)
    ∙ mod-eq_of_lt (column.bytes j)

back_of_column : (code : CodeRows) (set : ℕ) (rows : List (List ℕ)) (p : ℕ) (x : List ℕ) → IsCode code → MakeData code set rows → IsColumn code.k x
    → sum_below code.n (λ q. field_product (back code rows p q) (chunk_of code x q)) ≡ chunk_of code x p
back_of_column code set rows p x is makes column =
    back_sum code rows p (chunk_of code x)
    ∙ sum_below-same code.k (λ j. field_product (entry_at code.rows p j) (sum_below code.n (λ q. field_product (slice_index (row_at rows j) q) (chunk_of code x q))))
    (λ j. field_product (entry_at code.rows p j) (slice_index x j)) (λ j lj. ap (field_product (entry_at code.rows p j)) (column_back code set rows x j is makes column lj))

unit_sum : (n p : ℕ) (v : ℕ → ℕ) → p < n → sum_below n (λ q. field_product (unit_entry p q) (v q)) ≡ v p % 2 ^ 8
unit_sum n p v lt =
    sum_below-single n p (λ q. field_product (unit_entry p q) (v q)) lt (λ q _ ne. ap (λ t. field_product t (v q)) (unit_other p q ne) ∙ zero-field_product (v q))
    ∙ ap (λ t. field_product t (v p)) (unit_self p)
    ∙ one-field_product (v p)

-- how far the way there and back is from leaving position p alone
abbrev gap : CodeRows → List (List ℕ) → ℕ → ℕ → ℕ
gap code rows p q = bit_xor (back code rows p q) (unit_entry p q)

gap_of_column : (code : CodeRows) (set : ℕ) (rows : List (List ℕ)) (p : ℕ) (x : List ℕ) → IsCode code → MakeData code set rows → p < code.n → IsColumn code.k x
    → sum_below code.n (λ q. field_product (gap code rows p q) (chunk_of code x q)) ≡ 0
gap_of_column code set rows p x is makes lp column =
    let B = λ (q : ℕ). field_product (back code rows p q) (chunk_of code x q) in
    let U = λ (q : ℕ). field_product (unit_entry p q) (chunk_of code x q) in
    sum_below-same code.n (λ q. field_product (gap code rows p q) (chunk_of code x q)) (λ q. bit_xor (B q) (U q)) (λ q _. sum-field_product (back code rows p q) (unit_entry p q) (chunk_of code x q))
    ∙ sum_below-sum code.n B U
    ∙ ap (λ t. bit_xor t (sum_below code.n U)) (back_of_column code set rows p x is makes column)
    ∙ ap (λ t. bit_xor (chunk_of code x p) t) (unit_sum code.n p (chunk_of code x) lp ∙ mod-eq_of_lt (dot-lt code.k (row_at code.rows p) x))
    ∙ xor_self (chunk_of code x p)

-- a position with a gap is decided by the others
decided_by_others : (code : CodeRows) (set : ℕ) (rows : List (List ℕ)) (p q : ℕ) → IsCode code → MakeData code set rows → p < code.n → HasPosition set p → q < code.n
    → (back code rows p q ≡ unit_entry p q → ⊥) → DecideByOthers code set q
decided_by_others code set rows p q is makes lp has_p lq apart = record { agree = agree } where
  none_outside : (r : ℕ) → r < code.n → (HasPosition set r → ⊥) → gap code rows p r ≡ 0
  none_outside r lr out =
      ap (λ t. bit_xor t (unit_entry p r)) (sum_below-zero code.k (λ j. field_product (entry_at code.rows p j) (slice_index (row_at rows j) r))
      (λ j lj. ap (field_product (entry_at code.rows p j)) ((makes j lj).outside r (omega (arith, lr, is.few)) out) ∙ field_product-zero (entry_at code.rows p j)))
      ∙ ap (λ t. bit_xor 0 t) (unit_other p r (λ e. out (subst (HasPosition set) (sym e) has_p)))
      ∙ xor_self 0

  small : gap code rows p q < 2 ^ 8
  small = xor_of_8 (back code rows p q) (unit_entry p q)
      (sum_below-lt code.k (λ j. field_product (entry_at code.rows p j) (slice_index (row_at rows j) q)) (λ j. field_product-lt (entry_at code.rows p j) (slice_index (row_at rows j) q)))
      (unit_small p q)

  agree : (one other : List ℕ) → IsColumn code.k one → IsColumn code.k other
      → ((r : ℕ) → r < code.n → r ≢ q → HasPosition set r → chunk_of code one r ≡ chunk_of code other r)
      → chunk_of code one q ≡ chunk_of code other q
  agree one other is_one is_other on =
      let F = λ (r : ℕ). field_product (gap code rows p r) (chunk_of code one r) in
      let G = λ (r : ℕ). field_product (gap code rows p r) (chunk_of code other r) in
      let e = bit_xor (G q) (F q) in
      let others : (r : ℕ) → r < code.n → r ≢ q → F r ≡ G r = λ r lr ne. elim (cases_eq (bit_at set r) 1) [
        | inl has ↦ ap (field_product (gap code rows p r)) (on r lr ne has)
        | inr out ↦
            ap (λ t. field_product t (chunk_of code one r)) (none_outside r lr out) ∙ zero-field_product (chunk_of code one r)
            ∙ sym (ap (λ t. field_product t (chunk_of code other r)) (none_outside r lr out) ∙ zero-field_product (chunk_of code other r))
      ] in
      let here : F q ≡ bit_xor (G q) e = sym (sym (xor_assoc (G q) (G q) (F q)) ∙ ap (λ t. bit_xor t (F q)) (xor_self (G q)) ∙ xor_zero_l (F q)) in
      let changed = sum_below-change code.n q e G F lq others here in
      let zero_is : 0 ≡ e =
      sym (gap_of_column code set rows p one is makes lp is_one) ∙ changed ∙ ap (λ t. bit_xor t e) (gap_of_column code set rows p other is makes lp is_other) ∙ xor_zero_l e
      in
      let same : F q ≡ G q = sym (equal_from_sum (G q) (F q) (sym zero_is)) in
      one_quotient (chunk_of code one q) (chunk_of code other q) (gap code rows p q) (λ z. apart (equal_from_sum (back code rows p q) (unit_entry p q) z)) small
      (dot-lt code.k (row_at code.rows q) one) (dot-lt code.k (row_at code.rows q) other)
      (field_product_comm (chunk_of code one q) (gap code rows p q) ∙ same ∙ field_product_comm (gap code rows p q) (chunk_of code other q))

-- from a set with no position to spare the way there and back leaves each of its positions alone
back_is_unit : (code : CodeRows) (set : ℕ) (rows : List (List ℕ)) (p q : ℕ) → IsCode code → MakeData code set rows → NeedsEach code set → p < code.n → HasPosition set p → q < code.n
    → back code rows p q ≡ unit_entry p q
back_is_unit code set rows p q is makes needs lp has lq = elim (cases_eq (back code rows p q) (unit_entry p q)) [
  | inl same ↦ same
  | inr apart ↦ elim (cases_eq (bit_at set q) 1) [
    | inl inside ↦ absurd (needs q inside (decided_by_others code set rows p q is makes lp has lq apart))
    | inr out ↦
        sum_below-zero code.k (λ j. field_product (entry_at code.rows p j) (slice_index (row_at rows j) q))
        (λ j lj. ap (field_product (entry_at code.rows p j)) ((makes j lj).outside q (omega (arith, lq, is.few)) out) ∙ field_product-zero (entry_at code.rows p j))
        ∙ sym (unit_other p q (λ e. out (subst (HasPosition set) (sym e) has)))
  ]
]

-- ---- the chunks of the file

stripes_of_whole : (k unit count : ℕ) → 0 < k * unit → stripe_count k unit (count * k * unit) ≡ count
stripes_of_whole k unit count some = ap (stripe_count k unit) grouped ∙ ap (λ n. n + min 1 (count * (k * unit) % (k * unit))) (mul-div_cancel count some)
    ∙ ap (λ n. count + min 1 n) (mul-mod_left count (k * unit)) ∙ omega arith
  where
    grouped : count * k * unit ≡ count * (k * unit)
    grouped = grind arith

nothing_left : (count k unit : ℕ) → count * (k * unit) - count * k * unit ≡ 0
nothing_left count k unit = let e : count * (k * unit) ≡ count * k * unit = grind arith in omega (arith, e)

whole_is_padded : (k unit count : ℕ) (object : List ℕ) → 0 < k * unit → length object ≡ count * k * unit → padded k unit object ≡ object
whole_is_padded k unit count object some long =
    let none : stripe_count k unit (length object) * (k * unit) - length object ≡ 0 =
    ap (λ l. stripe_count k unit l * (k * unit) - l) long ∙ ap (λ c. c * (k * unit) - count * k * unit) (stripes_of_whole k unit count some) ∙ nothing_left count k unit
    in
    ap (λ n. object ++ replicate n 0) none ∙ append-nil object

-- what is made of chunks holds bytes
pub made_bytes : (k unit n : ℕ) (rows : List (List ℕ)) (chunks : List (Option (List ℕ))) (count : ℕ) (object : List ℕ) → 1 ≤ unit → IsMade k unit n rows chunks count object
    → All (λ b. b < 2 ^ 8) object
made_bytes k unit n rows chunks count object some made = All-from_get_or (λ b. b < 2 ^ 8) object 0 (λ i li.
    let inside = unit_inside i (count * k) unit some (omega (arith, li, made.long)) in
    subst (λ (x : ℕ). slice_index object x < 2 ^ 8) (div-add-mod' i unit)
    (subst (λ (b : ℕ). b < 2 ^ 8) (sym (made.bytes (i / unit) (i % unit) inside (mod-lt i some))) (byte (row_at rows (i / unit % k)) (i / unit / k * unit + i % unit))))
  where
    byte : (row : List ℕ) (at : ℕ) → made_byte n row chunks at < 2 ^ 8
    byte row at = sum_below-lt n (λ q. field_product (slice_index row q) (slice_index (bytes_of (chunk_of_position chunks q)) at))
        (λ q. field_product-lt (slice_index row q) (slice_index (bytes_of (chunk_of_position chunks q)) at))

pub made_has_chunks : (code : CodeRows) (unit set count : ℕ) (rows : List (List ℕ)) (chunks : List (Option (List ℕ))) (object : List ℕ) → IsCode code → 1 ≤ unit
    → MakeData code set rows → IsMade code.k unit code.n rows chunks count object → NeedsEach code set
    → (p : ℕ) (chunk : List ℕ) → p < code.n → HasPosition set p → chunk_of_position chunks p ≡ Some chunk → length chunk ≡ count * unit → All (λ b. b < 2 ^ 8) chunk
    → IsPositionList code unit object p chunk
made_has_chunks code unit set count rows chunks object is some makes made needs p chunk lp has there long bytes = record {
  long = long ∙ ap (λ c. c * unit) (sym stripes);
  sums = λ t b lt lb. sum t b (subst (λ (c : ℕ). t < c) stripes lt) lb;
} where
  positive : 0 < code.k * unit
  positive = omega (arith, mul-le 1 1 code.k unit is.some_data some)

  stripes : stripe_count code.k unit (length object) ≡ count
  stripes = ap (stripe_count code.k unit) made.long ∙ stripes_of_whole code.k unit count positive

  sum : (t b : ℕ) → t < count → b < unit
      → slice_index chunk (t * unit + b) ≡ sum_below code.k (λ j. field_product (entry_at code.rows p j) (slice_index (padded code.k unit object) ((t * code.k + j) * unit + b)))
  sum t b lt lb =
      let v = λ (q : ℕ). slice_index (bytes_of (chunk_of_position chunks q)) (t * unit + b) in
      let own : v p ≡ slice_index chunk (t * unit + b) = ap (λ (o : Option (List ℕ)). slice_index (bytes_of o) (t * unit + b)) there in
      let byte : slice_index chunk (t * unit + b) < 2 ^ 8 = All-get_or (λ b. b < 2 ^ 8) chunk (t * unit + b) 0 (omega (arith, long, mul-add-lt t unit b count lt lb)) bytes in
      sym (mod-eq_of_lt byte)
      ∙ ap (λ x. x % 2 ^ 8) (sym own)
      ∙ sym (unit_sum code.n p v lp)
      ∙ sum_below-same code.n (λ q. field_product (unit_entry p q) (v q)) (λ q. field_product (back code rows p q) (v q))
      (λ q lq. ap (λ t. field_product t (v q)) (sym (back_is_unit code set rows p q is makes needs lp has lq)))
      ∙ back_sum code rows p v
      ∙ sum_below-same code.k (λ j. field_product (entry_at code.rows p j) (sum_below code.n (λ q. field_product (slice_index (row_at rows j) q) (v q))))
      (λ j. field_product (entry_at code.rows p j) (slice_index (padded code.k unit object) ((t * code.k + j) * unit + b)))
      (λ j lj. ap (field_product (entry_at code.rows p j)) (sym (made_there t b j lt lb lj)))
    where
      made_there : (t b j : ℕ) → t < count → b < unit → j < code.k
          → slice_index (padded code.k unit object) ((t * code.k + j) * unit + b) ≡ made_byte code.n (row_at rows j) chunks (t * unit + b)
      made_there t b j lt lb lj =
          ap (λ l. slice_index l ((t * code.k + j) * unit + b)) (whole_is_padded code.k unit count object positive made.long)
          ∙ made.bytes (t * code.k + j) b (omega (arith, mul-add-lt t code.k j count lt lj)) lb
          ∙ ap (λ r. made_byte code.n (row_at rows r) chunks ((t * code.k + j) / code.k * unit + b)) (mod-mul-add t code.k j lj)
          ∙ ap (λ s. made_byte code.n (row_at rows j) chunks (s * unit + b)) (div-mul-add t code.k j lj)

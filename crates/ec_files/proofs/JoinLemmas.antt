-- The file that chunks make, made and written piece after piece.
use Rattle.std.proofs.Common.{◌≡◌, ◌==◌, ◌<◌, ◌≤◌, ◌*◌, ◌/◌, ◌%◌, ◌+◌, ◌-◌, ◌++◌, ℕ, List, [], true, false, Option, Some, None, IsSome, Result, Ok, Err, IsOk, IsErr, get_or, length, max, min, take, drop, slice_index, bit_xor, refl, ap, sym, subst, ◌∙◌, arith, inl, inr, add-one}
use Rattle.std.specs.Int.Bits.{xor_zero_r}
use Rattle.std.proofs.Math.Nat.{mod-lt}
use Rattle.std.proofs.lemmas.Bool.{cases_lt}
use Rattle.std.proofs.lemmas.Grind.{div_ceil_times}
use Rattle.std.proofs.lemmas.List.{get_or_append_left, get_or-append_right, get_or-take, get_or-drop, length-append}
use Rattle.std.proofs.lemmas.Nat.{div-add-mod', div-mul-add, mod-mul-add, mul-add-lt, mul-le}
use Rattle.ec_model.specs.Codes.{CodeRows, IsCode, HasPosition}
use Rattle.ec_model.specs.Field.{field_product}
use Rattle.ec_model.specs.Rows.{sum_below, row_at, entry_at}
use Rattle.gf256.proofs.CallerLemmas.{field_product-zero}
use Rattle.stripe_map.specs.Assembling.{MakeData, IsMade, AddsPosition}
use Rattle.stripe_map.specs.Chunks.{chunk_of_position}
use Rattle.stripe_map.specs.Decoding.{HasLength, bytes_of, made_byte}
use Rattle.stripe_map.proofs.AssemblyLemmas.{made_is_object, unit_inside}
use Rattle.ec_files.specs.Accesses.{HasFile, Told}
use Rattle.ec_files.specs.Decoding.{IsAmong, HaveChunks, AreWhole, IsFileOfChunks, GivesFile}
use Rattle.ec_files.specs.Files.{FileMap}
use Rattle.ec_files.specs.Joining.{ChecksLengths, AreMadeStripes, AddsStripes, PutsStripes, WritesMade}
use Rattle.ec_files.specs.declared.stop.Stop.{Stop}
use Rattle.ec_files.specs.declared.stop.Stop.TheVariants.{Usage, Profile, Missing, Failed, NotDecided, Lengths, TooLong, NoMemory}
use Rattle.ec_files.proofs.OwnChunkLemmas.{made_bytes, made_has_chunks}
use Rattle.ec_files.proofs.PieceLemmas.{is_first, is_later, next_piece, stopped_piece}

-- the bytes of whole units in each of k chunks
bytes_of_units : (k unit long : ℕ) → long % unit ≡ 0 → long / unit * k * unit ≡ long * k
bytes_of_units k unit long whole = grouped ∙ ap (λ n. n * k) units where
  units : long / unit * unit ≡ long
  units = omega (arith, div-add-mod' long unit, whole)

  grouped : long / unit * k * unit ≡ long / unit * unit * k
  grouped = grind arith

pub units_of : (unit long : ℕ) → long % unit ≡ 0 → long / unit * unit ≡ long
units_of unit long whole = omega (arith, div-add-mod' long unit, whole)

-- chunks that make no file
pub lengths_give : (T : Type 0) → (code : CodeRows) (unit : ℕ) (name : List ℕ) (long set : ℕ) (chunks : List (Option (List ℕ))) (stop : Stop)
    → ChecksLengths {T = T} code.k unit name long chunks (Err stop) → GivesFile code unit name long set chunks (Err stop)
lengths_give T code unit name long set chunks Lengths checks = checks
lengths_give T code unit name long set chunks (TooLong shown) checks = checks
lengths_give T code unit name long set chunks NoMemory checks = tt
lengths_give T code unit name long set chunks Usage checks = absurd checks
lengths_give T code unit name long set chunks (Profile f) checks = absurd checks
lengths_give T code unit name long set chunks (Missing f) checks = absurd checks
lengths_give T code unit name long set chunks (Failed f) checks = absurd checks
lengths_give T code unit name long set chunks NotDecided checks = absurd checks

-- ---- one piece

-- the bytes of a piece
pub piece_bytes : (size k unit many : ℕ) → 1 ≤ k → 1 ≤ unit → k ≤ 16 → unit ≤ 65536 → size ≤ 1048576 → many ≡ max (size / (k * unit)) 1 → many * k * unit ≤ 1048576
piece_bytes size k unit many some_k some_unit few small within is = elim (cases_lt (size / (k * unit)) 1) [
  | inl none ↦
      let one : many ≡ 1 = is ∙ omega arith in
      let fits : 1 * k * unit ≤ 1048576 = omega (arith, one_stripe k unit, mul-le k unit 16 65536 few small) in
      subst (λ (m : ℕ). m * k * unit ≤ 1048576) (sym one) fits
  | inr some ↦
      let all : many ≡ size / (k * unit) = is ∙ omega arith in
      let fits : size / (k * unit) * k * unit ≤ 1048576 = omega (arith, grouped (size / (k * unit)), div-add-mod' size (k * unit), within) in
      subst (λ (m : ℕ). m * k * unit ≤ 1048576) (sym all) fits
] where
  one_stripe : (a b : ℕ) → 1 * a * b ≡ a * b
  one_stripe a b = grind arith

  grouped : (m : ℕ) → m * k * unit ≡ m * (k * unit)
  grouped m = grind arith

-- a piece has room for the stripes of it
pub piece_room : (per here k unit : ℕ) → here ≤ per → here * k * unit ≤ per * k * unit
piece_room per here k unit less = mul-le (here * k) unit (per * k) unit (mul-le here k per k less (omega arith)) (omega arith)

-- zeros are what no positions make
pub zeros_are_stripes : (k unit : ℕ) (rows : List (List ℕ)) (chunks : List (Option (List ℕ))) (from count : ℕ) (piece : List ℕ) → length piece ≡ count * k * unit
    → ((i : ℕ) → i < length piece → slice_index piece i ≡ 0) → AreMadeStripes k unit 0 rows chunks from count piece
unfolding sum_below
zeros_are_stripes k unit rows chunks from count piece long zeros = record {
  long = long;
  bytes = λ v b lv lb. zeros (v * unit + b) (omega (arith, mul-add-lt v unit b (count * k) lv lb, long));
}

-- a chunk that is not there adds nothing
pub nothing_adds : (k unit q : ℕ) (rows : List (List ℕ)) (chunk : Option (List ℕ)) (from count : ℕ) (piece : List ℕ) → chunk ≡ None
    → AddsStripes k unit rows q chunk from count piece piece
nothing_adds k unit q rows chunk from count piece none = λ v b lv lb.
    let at = from * unit + (v / k * unit + b) in
    sym (ap (λ (o : Option (List ℕ)). bit_xor (slice_index piece (v * unit + b)) (field_product (entry_at rows (v % k) q) (slice_index (bytes_of o) at))) none
    ∙ ap (bit_xor (slice_index piece (v * unit + b))) (field_product-zero (entry_at rows (v % k) q))
    ∙ xor_zero_r (slice_index piece (v * unit + b)))

-- what the units of a chunk from one on add
pub units_add : (k unit q : ℕ) (rows : List (List ℕ)) (chunk : Option (List ℕ)) (bytes : List ℕ) (from count : ℕ) (old new : List ℕ) → chunk ≡ Some bytes
    → AddsPosition k unit rows q (take (count * unit) (drop (from * unit) bytes)) old new (count * k) → AddsStripes k unit rows q chunk from count old new
units_add k unit q rows chunk bytes from count old new is adds = λ v b lv lb.
    let at = v / k * unit + b in
    let lt : at < count * unit = omega (arith, unit_inside k unit count v lv, lb) in
    adds v b lv lb
    ∙ ap (λ x. bit_xor (slice_index old (v * unit + b)) (field_product (entry_at rows (v % k) q) x))
    (get_or-take (count * unit) (drop (from * unit) bytes) at 0 lt ∙ get_or-drop (from * unit) bytes at 0)
    ∙ ap (λ (o : Option (List ℕ)). bit_xor (slice_index old (v * unit + b)) (field_product (entry_at rows (v % k) q) (slice_index (bytes_of o) (from * unit + at)))) (sym is)

next_sum : (q : ℕ) (f : ℕ → ℕ) (old new : ℕ) → new ≡ bit_xor old (f q) → old ≡ sum_below q f → new ≡ sum_below (q + 1) f
unfolding sum_below
next_sum q f old new step so_far = rw (add-one q) (step ∙ ap (λ t. bit_xor t (f q)) so_far)

-- one position more
pub stripes_of_one_more : (k unit q : ℕ) (rows : List (List ℕ)) (chunks : List (Option (List ℕ))) (chunk : Option (List ℕ)) (from count : ℕ) (old new : List ℕ)
    → chunk ≡ chunk_of_position chunks q → length new ≡ length old → AddsStripes k unit rows q chunk from count old new
    → AreMadeStripes k unit q rows chunks from count old → AreMadeStripes k unit (q + 1) rows chunks from count new
stripes_of_one_more k unit q rows chunks chunk from count old new is same adds made = record {
  long = same ∙ made.long;
  bytes = λ v b lv lb.
      let at = from * unit + (v / k * unit + b) in
      next_sum q (λ p. field_product (slice_index (row_at rows (v % k)) p) (slice_index (bytes_of (chunk_of_position chunks p)) at))
      (slice_index old (v * unit + b)) (slice_index new (v * unit + b))
      (adds v b lv lb ∙ ap (λ (o : Option (List ℕ)). bit_xor (slice_index old (v * unit + b)) (field_product (entry_at rows (v % k) q) (slice_index (bytes_of o) at))) is)
      (made.bytes v b lv lb);
}

-- ---- pieces one after another

nothing_is_made : (k unit n : ℕ) (rows : List (List ℕ)) (chunks : List (Option (List ℕ))) → IsMade k unit n rows chunks 0 []
nothing_is_made k unit n rows chunks = record {
  long = none;
  bytes = λ v b lv lb. absurd (omega (arith, lv, zero_times k));
} where
  zero_times : (m : ℕ) → 0 * m ≡ 0
  zero_times m = grind arith

  none : 0 ≡ 0 * k * unit
  none = grind arith

sum_times : (a c k unit : ℕ) → (a + c) * k * unit ≡ a * k * unit + c * k * unit
sum_times a c k unit = grind arith

times_sum : (a c k : ℕ) → (a + c) * k ≡ a * k + c * k
times_sum a c k = grind arith

-- stripes behind those before them
stripes_follow : (k unit n a c : ℕ) (rows : List (List ℕ)) (chunks : List (Option (List ℕ))) (part piece : List ℕ) → 1 ≤ k → IsMade k unit n rows chunks a part
    → AreMadeStripes k unit n rows chunks a c piece → IsMade k unit n rows chunks (a + c) (part ++ piece)
stripes_follow k unit n a c rows chunks part piece some made stripes = record {
  long = length-append part piece ∙ ap (λ l. l + length piece) made.long ∙ ap (λ l. a * k * unit + l) stripes.long ∙ sym (sum_times a c k unit);
  bytes = λ v b lv lb. elim (cases_lt v (a * k)) [
    | inl less ↦ get_or_append_left part piece 0 (v * unit + b) (omega (arith, mul-add-lt v unit b (a * k) less lb, made.long)) ∙ made.bytes v b less lb
    | inr more ↦ behind v b lv lb more
  ];
} where
  behind : (v b : ℕ) → v < (a + c) * k → b < unit → a * k ≤ v
      → slice_index (part ++ piece) (v * unit + b) ≡ made_byte n (row_at rows (v % k)) chunks (v / k * unit + b)
  behind v b lv lb more =
      let w = v - a * k in
      let split : v ≡ a * k + w = omega arith in
      let lw : w < c * k = omega (arith, times_sum a c k) in
      let place : v ≡ (a + w / k) * k + w % k = omega (arith, div-add-mod' w k, times_sum a (w / k) k) in
      let lm : w % k < k = mod-lt w (omega arith) in
      let stripe : v / k ≡ a + w / k = ap (λ x. x / k) place ∙ div-mul-add (a + w / k) k (w % k) lm in
      let column : v % k ≡ w % k = ap (λ x. x % k) place ∙ mod-mul-add (a + w / k) k (w % k) lm in
      let index : v * unit + b ≡ a * k * unit + (w * unit + b) = ap (λ x. x * unit + b) split ∙ ap (λ x. x + b) (times_sum (a * k) w unit) ∙ omega arith in
      let at : a * unit + (w / k * unit + b) ≡ v / k * unit + b = sym (ap (λ x. x * unit + b) stripe ∙ ap (λ x. x + b) (times_sum a (w / k) unit) ∙ omega arith) in
      get_or-append_right part piece (a * k * unit) (v * unit + b) 0 made.long (omega (arith, index))
      ∙ ap (λ x. get_or piece x 0) (omega (arith, index))
      ∙ stripes.bytes w b lw lb
      ∙ ap (λ x. made_byte n (row_at rows x) chunks (a * unit + (w / k * unit + b))) (sym column)
      ∙ ap (λ x. made_byte n (row_at rows (v % k)) chunks x) at

-- what was written by the first i pieces, of `per` stripes each
pub record WrittenSoFar (k unit n : ℕ) (rows : List (List ℕ)) (chunks : List (Option (List ℕ))) (per count i from : ℕ) (before now : Option FileMap) (name : List ℕ) : Type 0 where
  pub at : from ≡ min (i * per) count
  pub part : List ℕ
  pub made : IsMade k unit n rows chunks from part
  pub none : i ≡ 0 → (now ≡ before) × (part ≡ [])
  pub some : 1 ≤ i → Told before now (HasFile name part)

pub nothing_written : (k unit n : ℕ) (rows : List (List ℕ)) (chunks : List (Option (List ℕ))) (per count : ℕ) (before : Option FileMap) (name : List ℕ)
    → WrittenSoFar k unit n rows chunks per count 0 0 before before name
nothing_written k unit n rows chunks per count before name = record {
  at = omega arith;
  part = [];
  made = nothing_is_made k unit n rows chunks;
  none = λ _. (refl, refl);
  some = λ one. absurd (omega arith);
}

next_times : (i per : ℕ) → (i + 1) * per ≡ i * per + per
next_times i per = grind arith

pub written_more : {T E : Type 0} → (k unit n : ℕ) (rows : List (List ℕ)) (chunks : List (Option (List ℕ))) (per count i from here : ℕ) (before mid now : Option FileMap)
    (name : List ℕ) (result : Result T E) → IsOk result → 1 ≤ k → here ≡ min per (count - from) → WrittenSoFar k unit n rows chunks per count i from before mid name
    → PutsStripes k unit n rows chunks from here mid now name (i == 0) result
    → WrittenSoFar k unit n rows chunks per count (i + 1) (from + here) before now name
written_more {T} {E} k unit n rows chunks per count i from here before mid now name result ok some is so_far puts = record {
  at = omega (arith, is, so_far.at, next_times i per);
  part = so_far.part ++ puts.0;
  made = stripes_follow k unit n from here rows chunks so_far.part puts.0 some so_far.made puts.1;
  none = λ e. absurd (omega arith);
  some = λ _. next_piece before mid now name so_far.part puts.0 (i == 0) result ok (λ t. so_far.none (is_first i t)) (λ f. so_far.some (is_later i f)) puts.2;
}

pub ok_is : {T E : Type 0} → (result : Result T E) (done : T) → result ≡ Ok done → IsOk result
ok_is {T} {E} result done is = subst (λ (r : Result T E). IsOk r) (sym is) refl

pub err_is : {T E : Type 0} → (result : Result T E) (why : E) → result ≡ Err why → IsErr result
err_is {T} {E} result why is = subst (λ (r : Result T E). IsErr r) (sym is) refl

-- a piece could not be put
pub stopped_more : {T E U W : Type 0} → (k unit n : ℕ) (rows : List (List ℕ)) (chunks : List (Option (List ℕ))) (per count i from here : ℕ) (before mid now : Option FileMap)
    (name : List ℕ) (result : Result T E) (answer : Result U W) → IsErr result → IsErr answer → WrittenSoFar k unit n rows chunks per count i from before mid name
    → PutsStripes k unit n rows chunks from here mid now name (i == 0) result
    → WritesMade k unit n rows chunks count before now name answer
stopped_more {T} {E} {U} {W} k unit n rows chunks per count i from here before mid now name result (Ok done) err is so_far puts = absurd cc
stopped_more {T} {E} {U} {W} k unit n rows chunks per count i from here before mid now name result (Err why) err is so_far puts =
    stopped_piece before mid now name so_far.part puts.0 (i == 0) result err (λ t. (so_far.none (is_first i t)).0) (λ f. so_far.some (is_later i f)) puts.2

-- the stripes of a piece are among those of the chunks
pub stripes_inside : (per count from here unit : ℕ) → from ≤ count → here ≡ min per (count - from) → from * unit + here * unit ≤ count * unit
stripes_inside per count from here unit below is = subst (λ (n : ℕ). n ≤ count * unit) (times_sum from here unit) (mul-le (from + here) unit count unit (omega (arith, is, below)) (omega arith))

-- all pieces, one at least
pub all_written : (k unit n : ℕ) (rows : List (List ℕ)) (chunks : List (Option (List ℕ))) (per count i from : ℕ) (before now : Option FileMap) (name : List ℕ)
    → 1 ≤ i → count ≤ i * per → WrittenSoFar k unit n rows chunks per count i from before now name
    → (object : List ℕ) × IsMade k unit n rows chunks count object × Told before now (HasFile name object)
all_written k unit n rows chunks per count i from before now name many enough so_far =
    let all : from ≡ count = omega (arith, so_far.at, enough) in
    (so_far.part, subst (λ c. IsMade k unit n rows chunks c so_far.part) all so_far.made, so_far.some many)

-- as many pieces as hold all stripes
pub enough_pieces : (count per many : ℕ) → 1 ≤ per → count / per + min 1 (count % per) ≤ many → count ≤ many * per
enough_pieces count per many some more =
    omega (arith, (div_ceil_times count per some).0, mul-le (count / per + min 1 (count % per)) per many per more (omega arith))

-- ---- the file

bytes_there : (chunk : Option (List ℕ)) → IsSome chunk → chunk ≡ Some (bytes_of chunk)
bytes_there (Some bytes) is = refl
bytes_there None is = absurd cc

-- what the chunks make by rows of a set
pub made_file : (code : CodeRows) (unit set long : ℕ) (rows : List (List ℕ)) (chunks : List (Option (List ℕ))) (listed object : List ℕ) → IsCode code → 1 ≤ unit
    → MakeData code set rows → ((p : ℕ) → HasPosition set p → IsAmong listed p) → ((p : ℕ) → HasPosition set p → p < code.n) → HaveChunks listed chunks
    → AreWhole unit long chunks → IsMade code.k unit code.n rows chunks (long / unit) object → IsFileOfChunks code unit long set chunks object
made_file code unit set long rows chunks listed object is some makes among inside there whole made =
    let bytes_all : long / unit * code.k * unit ≡ code.k * long = bytes_of_units code.k unit long whole.0 ∙ omega arith in
    record {
      whole = made.long ∙ bytes_all;
      is = λ bytes lb bounded each. made_is_object code unit set (long / unit) rows chunks object bytes is some makes made (lb ∙ sym bytes_all) bounded
          (λ q _ has. each q (bytes_of (chunk_of_position chunks q)) has (bytes_there (chunk_of_position chunks q) ((there q).1 (among q has))));
      all_bytes = made_bytes code.k unit code.n rows chunks (long / unit) object some made;
      own = λ needs p chunk has at bytes. made_has_chunks code unit set (long / unit) rows chunks object is some makes made needs p chunk (inside p has) has at
          (subst (λ (o : Option (List ℕ)). HasLength o long) at (whole.1 p) ∙ sym (units_of unit long whole.0)) bytes;
    }

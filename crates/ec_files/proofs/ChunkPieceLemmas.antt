-- The chunks of a position, written piece after piece: those of some whole stripes, and then those of what stands behind them.
use Rattle.std.proofs.Common.{◌≡◌, ◌<◌, ◌≤◌, ◌+◌, ◌-◌, ◌*◌, ◌/◌, ◌%◌, ◌==◌, ◌++◌, ℕ, List, [], Bool, true, false, Option, Some, None, Result, Ok, Err, length, min, max, take, drop, replicate, slice_index, refl, ap, sym, subst, ◌∙◌, arith, inl, inr, length-append, length-take, append_assoc, append-nil, add-mul, zero-mul, take-add, length-drop, mul-div_cancel}
use Rattle.std.proofs.lemmas.Bool.{cases_lt}
use Rattle.std.proofs.lemmas.List.{get_or_append_left, get_or-append_right, length-take-le, get_or-take, get_or-drop, length-replicate, take_all}
use Rattle.std.specs.Int.{div_ceil}
use Rattle.std.proofs.lemmas.Grind.{div_ceil_times}
use Rattle.std.proofs.lemmas.Nat.{mul-le, mul-add-lt, div-mul-add, mod-mul-add, div-add-mod', mod_below}
use Rattle.ec_matrix.proofs.CallerLemmas.{sum_below-same}
use Rattle.ec_model.specs.Codes.{CodeRows, IsPositionList}
use Rattle.ec_model.specs.Field.{field_product}
use Rattle.ec_model.specs.Rows.{sum_below, entry_at}
use Rattle.ec_model.specs.Stripes.{stripe_count, shard_len, padded}
use borrow.Rule.Slice.PartMut.{put_mid, post_of}
use Rattle.std.specs.Result.{IsOk, IsErr}
use Rattle.ec_code.specs.Encoding.{IsChunk}
use Rattle.ec_files.specs.Accesses.{Told, HasFile, Puts}
use Rattle.ec_files.specs.Files.{FileMap, KeepsOthers}
use Rattle.ec_files.specs.Pieces.{AreRowChunks, HasChunksOf, WritesPieces}
use Rattle.ec_files.proofs.PieceLemmas.{is_first, is_later, next_piece, stopped_piece}

-- ---- what stands behind whole stripes

-- the stripes of t whole ones and of what stands behind them
counts : (width t m : ℕ) → 0 < width → (t * width + m) / width + min 1 ((t * width + m) % width) ≡ t + (m / width + min 1 (m % width))
counts width t m some =
    ap (λ n. n / width + min 1 (n % width)) apart
    ∙ ap (λ n. n + min 1 (((t + m / width) * width + m % width) % width)) (div-mul-add (t + m / width) width (m % width) (mod_below m width some))
    ∙ ap (λ n. t + m / width + min 1 n) (mod-mul-add (t + m / width) width (m % width) (mod_below m width some))
    ∙ omega arith
  where
    apart : t * width + m ≡ (t + m / width) * width + m % width
    apart = omega (arith, add-mul t (m / width) width, div-add-mod' m width)

counted : (k unit t : ℕ) (a b : List ℕ) → 0 < k * unit → length a ≡ t * (k * unit) → stripe_count k unit (length (a ++ b)) ≡ t + stripe_count k unit (length b)
counted k unit t a b some long = ap (stripe_count k unit) (length-append a b ∙ ap (λ n. n + length b) long) ∙ counts (k * unit) t (length b) some

counted_whole : (k unit t : ℕ) (a : List ℕ) → 0 < k * unit → length a ≡ t * (k * unit) → stripe_count k unit (length a) ≡ t
counted_whole k unit t a some long =
    ap (stripe_count k unit) (long ∙ omega arith) ∙ counts (k * unit) t 0 some ∙ ap (λ n. t + (0 / (k * unit) + min 1 n)) (none_left (k * unit)) ∙ ap (λ n. t + (n + 0)) (none_over (k * unit) some) ∙ omega arith
  where
    none_left : (w : ℕ) → 0 % w ≡ 0
    none_left w = grind arith

    none_over : (w : ℕ) → 0 < w → 0 / w ≡ 0
    none_over w pos = grind arith

padded_behind : (k unit t : ℕ) (a b : List ℕ) → 0 < k * unit → length a ≡ t * (k * unit) → padded k unit (a ++ b) ≡ a ++ padded k unit b
padded_behind k unit t a b some long = ap (λ n. (a ++ b) ++ replicate n 0) zeros ∙ append_assoc a b (replicate (stripe_count k unit (length b) * (k * unit) - length b) 0) where
  rows : stripe_count k unit (length (a ++ b)) * (k * unit) ≡ t * (k * unit) + stripe_count k unit (length b) * (k * unit)
  rows = ap (λ n. n * (k * unit)) (counted k unit t a b some long) ∙ add-mul t (stripe_count k unit (length b)) (k * unit)

  zeros : stripe_count k unit (length (a ++ b)) * (k * unit) - length (a ++ b) ≡ stripe_count k unit (length b) * (k * unit) - length b
  zeros = omega (arith, rows, length-append a b, long)

padded_whole : (k unit t : ℕ) (a : List ℕ) → 0 < k * unit → length a ≡ t * (k * unit) → padded k unit a ≡ a
padded_whole k unit t a some long = ap (λ n. a ++ replicate n 0) zeros ∙ append-nil a where
  zeros : stripe_count k unit (length a) * (k * unit) - length a ≡ 0
  zeros = omega (arith, ap (λ n. n * (k * unit)) (counted_whole k unit t a some long), long)

pub padded_long : (k unit : ℕ) (bytes : List ℕ) → 0 < k * unit → length (padded k unit bytes) ≡ stripe_count k unit (length bytes) * (k * unit)
padded_long k unit bytes some =
    let enough = (div_ceil_times (length bytes) (k * unit) some).0 in
    length-append bytes (replicate (stripe_count k unit (length bytes) * (k * unit) - length bytes) 0)
    ∙ ap (λ n. length bytes + n) (length-replicate (stripe_count k unit (length bytes) * (k * unit) - length bytes) 0)
    ∙ omega (arith, enough)

-- the chunks of whole stripes and those of what stands behind them are the chunks of both
pub lists_joined : (code : CodeRows) (unit p t : ℕ) (a b first later : List ℕ) → 0 < code.k * unit → length a ≡ t * (code.k * unit)
    → IsPositionList code unit a p first → IsPositionList code unit b p later → IsPositionList code unit (a ++ b) p (first ++ later)
lists_joined code unit p t a b first later some long is then = record { long = all_long; sums = sums } where
  before : length first ≡ t * unit
  before = is.long ∙ ap (λ n. n * unit) (counted_whole code.k unit t a some long)

  all_long : length (first ++ later) ≡ shard_len code.k unit (length (a ++ b))
  all_long = length-append first later ∙ omega (arith, before, then.long, add-mul t (stripe_count code.k unit (length b)) unit) ∙ ap (λ n. n * unit) (sym (counted code.k unit t a b some long))

  term : List ℕ → ℕ → ℕ → ℕ → ℕ
  term whole s x j = field_product (entry_at code.rows p j) (slice_index whole ((s * code.k + j) * unit + x))

  place_inside : (s j x : ℕ) → s < t → j < code.k → x < unit → (s * code.k + j) * unit + x < length a
  place_inside s j x ls lj lx = omega (arith, long, mul-add-lt (s * code.k + j) unit x (t * code.k) (unit_inside s j ls lj) lx, regroup t) where
    unit_inside : (s j : ℕ) → s < t → j < code.k → s * code.k + j < t * code.k
    unit_inside s j ls lj = omega (arith, mul-add-lt s code.k j t ls lj)

    regroup : (n : ℕ) → n * code.k * unit ≡ n * (code.k * unit)
    regroup n = grind arith

  place_behind : (r j x : ℕ) → ((t + r) * code.k + j) * unit + x ≡ t * (code.k * unit) + ((r * code.k + j) * unit + x)
  place_behind r j x = grind arith

  in_first : (s x : ℕ) → s < t → x < unit → slice_index (first ++ later) (s * unit + x) ≡ sum_below code.k (term (padded code.k unit (a ++ b)) s x)
  in_first s x ls lx =
      get_or_append_left first later 0 (s * unit + x) (omega (arith, before, mul-add-lt s unit x t ls lx))
      ∙ is.sums s x (omega (arith, ls, counted_whole code.k unit t a some long)) lx
      ∙ sum_below-same code.k (term (padded code.k unit a) s x) (term (padded code.k unit (a ++ b)) s x)
      (λ j lj. ap (field_product (entry_at code.rows p j))
      (ap (λ l. slice_index l ((s * code.k + j) * unit + x)) (padded_whole code.k unit t a some long)
      ∙ sym (get_or_append_left a (padded code.k unit b) 0 ((s * code.k + j) * unit + x) (place_inside s j x ls lj lx))
      ∙ ap (λ l. slice_index l ((s * code.k + j) * unit + x)) (sym (padded_behind code.k unit t a b some long))))

  in_later : (r x : ℕ) → r < stripe_count code.k unit (length b) → x < unit
      → slice_index (first ++ later) ((t + r) * unit + x) ≡ sum_below code.k (term (padded code.k unit (a ++ b)) (t + r) x)
  in_later r x lr lx =
      get_or-append_right first later (t * unit) ((t + r) * unit + x) 0 before (omega (arith, add-mul t r unit))
      ∙ ap (slice_index later) (omega (arith, add-mul t r unit))
      ∙ then.sums r x lr lx
      ∙ sum_below-same code.k (term (padded code.k unit b) r x) (term (padded code.k unit (a ++ b)) (t + r) x)
      (λ j lj. ap (field_product (entry_at code.rows p j))
      (sym (get_or-append_right a (padded code.k unit b) (t * (code.k * unit)) (((t + r) * code.k + j) * unit + x) 0 long (omega (arith, place_behind r j x))
      ∙ ap (slice_index (padded code.k unit b)) (omega (arith, place_behind r j x)))
      ∙ ap (λ l. slice_index l (((t + r) * code.k + j) * unit + x)) (sym (padded_behind code.k unit t a b some long))))

  sums : (s x : ℕ) → s < stripe_count code.k unit (length (a ++ b)) → x < unit → slice_index (first ++ later) (s * unit + x) ≡ sum_below code.k (term (padded code.k unit (a ++ b)) s x)
  sums s x ls lx = elim (cases_lt s t) [
    | inl lt ↦ in_first s x lt lx
    | inr ge ↦
        let e : t + (s - t) ≡ s = omega arith in
        subst (λ (n : ℕ). slice_index (first ++ later) (n * unit + x) ≡ sum_below code.k (term (padded code.k unit (a ++ b)) n x)) e
        (in_later (s - t) x (omega (arith, ls, counted code.k unit t a b some long)) lx)
  ]

-- a list of the padded bytes is one of the bytes
pub list_of_padded : (code : CodeRows) (unit p : ℕ) (bytes list : List ℕ) → 0 < code.k * unit → IsPositionList code unit (padded code.k unit bytes) p list → IsPositionList code unit bytes p list
list_of_padded code unit p bytes list some is = record {
  long = is.long ∙ ap (λ n. n * unit) same;
  sums = λ t b lt lb. subst (λ (whole : List ℕ). slice_index list (t * unit + b) ≡ sum_below code.k (λ j. field_product (entry_at code.rows p j) (slice_index whole ((t * code.k + j) * unit + b))))
      (padded_whole code.k unit (stripe_count code.k unit (length bytes)) (padded code.k unit bytes) some (padded_long code.k unit bytes some)) (is.sums t b (omega (arith, lt, same)) lb);
} where
  same : stripe_count code.k unit (length (padded code.k unit bytes)) ≡ stripe_count code.k unit (length bytes)
  same = counted_whole code.k unit (stripe_count code.k unit (length bytes)) (padded code.k unit bytes) some (padded_long code.k unit bytes some)

-- ---- one stripe after another

-- a byte of stripe t, as a byte of all
stripe_byte : (k unit : ℕ) (stripes : List ℕ) (t j b : ℕ) → j < k → b < unit
    → slice_index (take (k * unit) (drop (t * (k * unit)) stripes)) (j * unit + b) ≡ slice_index stripes ((t * k + j) * unit + b)
stripe_byte k unit stripes t j b lj lb =
    let below : j * unit + b < k * unit = omega (arith, mul-add-lt j unit b k lj lb) in
    let place : t * (k * unit) + (j * unit + b) ≡ (t * k + j) * unit + b = grind arith in
    get_or-take (k * unit) (drop (t * (k * unit)) stripes) (j * unit + b) 0 below ∙ get_or-drop (t * (k * unit)) stripes (j * unit + b) 0 ∙ ap (slice_index stripes) place

pub next_row : (unit t count : ℕ) → t < count → t * unit + unit ≤ count * unit
next_row unit t count lt = omega (arith, mul-le (t + 1) unit count unit (omega arith) (omega arith), add-mul t 1 unit)

-- the chunk of one stripe more was written behind those of the stripes before it
pub next_in_place : (k unit count t : ℕ) (row stripes now chunk : List ℕ) → t < count → length now ≡ count * unit → length chunk ≡ unit
    → AreRowChunks k unit row stripes t now → IsChunk k row (take (k * unit) (drop (t * (k * unit)) stripes)) unit chunk
    → AreRowChunks k unit row stripes (t + 1) (put_mid (t * unit) (t * unit + unit - t * unit) now chunk)
next_in_place k unit count t row stripes now chunk lt room long has is = λ s b ls lb.
    ap (λ l. slice_index l (s * unit + b)) (sym (append_assoc (take (t * unit) now) chunk (post_of (t * unit) (t * unit + unit - t * unit) now)))
    ∙ get_or_append_left (take (t * unit) now ++ chunk) (post_of (t * unit) (t * unit + unit - t * unit) now) 0 (s * unit + b)
    (omega (arith, mul-add-lt s unit b (t + 1) ls lb, length-append (take (t * unit) now) chunk, out_long, long, add-mul t 1 unit))
    ∙ elim (cases_lt s t) [
      | inl before ↦
          get_or_append_left (take (t * unit) now) chunk 0 (s * unit + b) (omega (arith, out_long, mul-add-lt s unit b t before lb))
          ∙ get_or-take (t * unit) now (s * unit + b) 0 (omega (arith, mul-add-lt s unit b t before lb))
          ∙ has s b before lb
      | inr past ↦ subst (λ (n : ℕ). slice_index (take (t * unit) now ++ chunk) (n * unit + b) ≡ sum_below k (λ j. field_product (slice_index row j) (slice_index stripes ((n * k + j) * unit + b))))
          (same s ls past) (last b lb)
    ]
  where
    out_long : length (take (t * unit) now) ≡ t * unit
    out_long = length-take-le (t * unit) now (omega (arith, room, mul-le t unit count unit (omega arith) (omega arith)))

    same : (s : ℕ) → s < t + 1 → t ≤ s → t ≡ s
    same s ls past = omega arith

    last : (b : ℕ) → b < unit → slice_index (take (t * unit) now ++ chunk) (t * unit + b) ≡ sum_below k (λ j. field_product (slice_index row j) (slice_index stripes ((t * k + j) * unit + b)))
    last b lb =
        get_or-append_right (take (t * unit) now) chunk (t * unit) (t * unit + b) 0 out_long (omega arith)
        ∙ ap (slice_index chunk) (omega arith)
        ∙ is b lb
        ∙ sum_below-same k (λ j. field_product (slice_index row j) (slice_index (take (k * unit) (drop (t * (k * unit)) stripes)) (j * unit + b)))
        (λ j. field_product (slice_index row j) (slice_index stripes ((t * k + j) * unit + b)))
        (λ j lj. ap (field_product (slice_index row j)) (stripe_byte k unit stripes t j b lj lb))

-- the chunks of whole stripes by a position's row are the position's list
pub made_list : (code : CodeRows) (k unit count p : ℕ) (row stripes piece : List ℕ) → 0 < k * unit → k ≡ code.k → ((j : ℕ) → j < code.k → slice_index row j ≡ entry_at code.rows p j) → length stripes ≡ count * (k * unit)
    → length piece ≡ count * unit → AreRowChunks k unit row stripes count piece → IsPositionList code unit stripes p piece
made_list code k unit count p row stripes piece some same entries whole long has =
    by_k (subst (λ (n : ℕ). 0 < n * unit) same some) (subst (λ (n : ℕ). length stripes ≡ count * (n * unit)) same whole) (subst (λ (n : ℕ). AreRowChunks n unit row stripes count piece) same has)
  where
    by_k : 0 < code.k * unit → length stripes ≡ count * (code.k * unit) → AreRowChunks code.k unit row stripes count piece → IsPositionList code unit stripes p piece
    by_k pos all are = record {
      long = long ∙ ap (λ n. n * unit) (sym (counted_whole code.k unit count stripes pos all));
      sums = λ t b lt lb.
          are t b (omega (arith, lt, counted_whole code.k unit count stripes pos all)) lb
          ∙ sum_below-same code.k (λ j. field_product (slice_index row j) (slice_index stripes ((t * code.k + j) * unit + b)))
          (λ j. field_product (entry_at code.rows p j) (slice_index (padded code.k unit stripes) ((t * code.k + j) * unit + b)))
          (λ j lj. ap (λ e. field_product e (slice_index stripes ((t * code.k + j) * unit + b))) (entries j lj)
          ∙ ap (λ l. field_product (entry_at code.rows p j) (slice_index l ((t * code.k + j) * unit + b))) (sym (padded_whole code.k unit count stripes pos all)));
    }

-- ---- one piece after another

-- the chunks of the first bytes were written into a file, and no other file changed; nothing changed if there was no piece
pub record HasPart (code : CodeRows) (unit : ℕ) (file bytes : List ℕ) (p size count : ℕ) (before now : Option FileMap) : Type 0 where
  pub list : List ℕ
  pub are : IsPositionList code unit (take (count * size) bytes) p list
  pub none : count ≡ 0 → (now ≡ before) × (list ≡ [])
  pub some : 1 ≤ count → Told before now (HasFile file list)

no_list : (code : CodeRows) (unit p : ℕ) → 0 < code.k * unit → IsPositionList code unit [] p []
no_list code unit p some =
    let none = counted_whole code.k unit 0 [] some (sym (zero-mul (code.k * unit))) in
    record { long = sym (ap (λ n. n * unit) none ∙ zero-mul unit); sums = λ t b lt lb. absurd (omega (arith, lt, none)) }

pub no_part : (code : CodeRows) (unit : ℕ) (file bytes : List ℕ) (p size : ℕ) (files : Option FileMap) → 0 < code.k * unit → HasPart code unit file bytes p size 0 files files
no_part code unit file bytes p size files some = record {
  list = [];
  are = subst (λ (n : ℕ). IsPositionList code unit (take n bytes) p []) (sym (zero-mul size)) (no_list code unit p some);
  none = λ _. (refl, refl);
  some = λ more. absurd (omega arith);
}

pub next_part : {T E : Type 0} → (code : CodeRows) (unit : ℕ) (file bytes : List ℕ) (p each size i : ℕ) (piece : List ℕ) (before mid now : Option FileMap) (result : Result T E)
    → 0 < code.k * unit → size ≡ each * (code.k * unit) → i * size ≤ length bytes → HasPart code unit file bytes p size i before mid
    → IsPositionList code unit (take size (drop (i * size) bytes)) p piece → IsOk result → Puts mid now file (i == 0) piece result
    → HasPart code unit file bytes p size (i + 1) before now
next_part {T} {E} code unit file bytes p each size i piece before mid now result some is room has next ok puts = record {
  list = has.list ++ piece;
  are = subst (λ (l : List ℕ). IsPositionList code unit l p (has.list ++ piece)) (sym (ap (λ n. take n bytes) (add_one i) ∙ take-add (i * size) size bytes))
      (lists_joined code unit p (i * each) (take (i * size) bytes) (take size (drop (i * size) bytes)) has.list piece some
      (length-take-le (i * size) bytes room ∙ ap (λ n. i * n) is ∙ grouped i each (code.k * unit)) has.are next);
  none = λ e. absurd (omega arith);
  some = λ _. next_piece before mid now file has.list piece (i == 0) result ok (λ t. has.none (is_first i t)) (λ f. has.some (is_later i f)) puts;
} where
  add_one : (n : ℕ) → (n + 1) * size ≡ n * size + size
  add_one n = grind arith

  grouped : (a b c : ℕ) → a * (b * c) ≡ a * b * c
  grouped a b c = grind arith

-- all pieces
pub whole_part : (code : CodeRows) (unit : ℕ) (file bytes : List ℕ) (p size count : ℕ) (before now : Option FileMap) → 1 ≤ count → length bytes ≤ count * size
    → HasPart code unit file bytes p size count before now → Told before now (HasChunksOf code unit file bytes p)
whole_part code unit file bytes p size count before now some all has = told before now (has.some some) where
  are : IsPositionList code unit bytes p has.list
  are = subst (λ (l : List ℕ). IsPositionList code unit l p has.list) (take_all (count * size) bytes all) has.are

  told : (b n : Option FileMap) → Told b n (HasFile file has.list) → Told b n (HasChunksOf code unit file bytes p)
  told None None is = tt
  told None (Some n) is = absurd is
  told (Some b) None is = absurd is
  told (Some b) (Some n) is = (has.list, are, is)

-- a piece can't be put
pub stopped_part : {T E : Type 0} → (code : CodeRows) (unit : ℕ) (file bytes : List ℕ) (p size i : ℕ) (piece : List ℕ) (before mid now : Option FileMap) (result : Result T E)
    → HasPart code unit file bytes p size i before mid → IsErr result → Puts mid now file (i == 0) piece result → Told before now (λ old new. KeepsOthers old new file)
stopped_part {T} {E} code unit file bytes p size i piece before mid now result has err puts =
    stopped_piece before mid now file has.list piece (i == 0) result err (λ t. (has.none (is_first i t)).0) (λ f. has.some (is_later i f)) puts

pub written_in_part : {T E : Type 0} → (code : CodeRows) (unit : ℕ) (file bytes : List ℕ) (p : ℕ) (before now : Option FileMap) (result : Result T E) → IsErr result
    → Told before now (λ old new. KeepsOthers old new file) → WritesPieces code unit file bytes p before now result
written_in_part {T} {E} code unit file bytes p before now (Ok done) err keeps = absurd cc
written_in_part {T} {E} code unit file bytes p before now (Err why) err keeps = keeps

-- the stripes of a piece
pub part_stripes : (width each i total : ℕ) (bytes : List ℕ) → 0 < width → length bytes ≡ total * width → i * (each * width) ≤ length bytes
    → (length (take (each * width) (drop (i * (each * width)) bytes)) ≡ length (take (each * width) (drop (i * (each * width)) bytes)) / width * width)
    × (length (take (each * width) (drop (i * (each * width)) bytes)) / width ≤ each)
part_stripes width each i total bytes some whole room = (is ∙ ap (λ n. n * width) (sym count), omega (arith, count)) where
  long : length (take (each * width) (drop (i * (each * width)) bytes)) ≡ min (each * width) (total * width - i * (each * width))
  long = length-take (each * width) (drop (i * (each * width)) bytes) ∙ ap (min (each * width)) (length-drop (i * (each * width)) bytes ∙ ap (λ n. n - i * (each * width)) whole)

  regroup : i * (each * width) ≡ i * each * width
  regroup = grind arith

  is : length (take (each * width) (drop (i * (each * width)) bytes)) ≡ min each (total - i * each) * width
  is = elim (cases_lt (total - i * each) each) [
    | inl lt ↦
        let e : (total - i * each) * width + i * each * width ≡ total * width = rest (i * each) (inside) in
        long ∙ omega (arith, e, regroup, mul-le (total - i * each) width each width (omega arith) (omega arith), ap (λ n. n * width) (least lt))
    | inr ge ↦
        let most : (each + i * each) * width ≤ total * width = mul-le (each + i * each) width total width (omega (arith, ge, inside)) (omega arith) in
        long ∙ omega (arith, most, regroup, add-mul each (i * each) width, ap (λ n. n * width) (all ge))
  ] where
    inside : i * each ≤ total
    inside = elim (cases_lt total (i * each)) [
      | inl lt ↦ absurd (omega (arith, mul-le (total + 1) width (i * each) width (omega arith) (omega arith), add-mul total 1 width, room, whole, regroup))
      | inr ge ↦ omega (arith, ge)
    ]

    rest : (n : ℕ) → n ≤ total → (total - n) * width + n * width ≡ total * width
    rest n le = sym (add-mul (total - n) n width) ∙ ap (λ m. m * width) (omega arith)

    least : total - i * each < each → min each (total - i * each) ≡ total - i * each
    least lt = omega arith

    all : each ≤ total - i * each → min each (total - i * each) ≡ each
    all ge = omega arith

  count : length (take (each * width) (drop (i * (each * width)) bytes)) / width ≡ min each (total - i * each)
  count = ap (λ n. n / width) is ∙ mul-div_cancel (min each (total - i * each)) some

-- ---- how many pieces

-- each piece begins inside the bytes, or where they end
pub piece_begins : (size long i count : ℕ) → 1 ≤ size → count ≡ max (div_ceil long size) 1 → i < count → i * size ≤ long
piece_begins size long i count some is lt = elim (cases_lt i (div_ceil long size)) [
  | inl below ↦ omega (arith, before i below)
  | inr past ↦ omega (arith, ap (λ n. n * size) (none past), zero-mul size)
] where
  none : div_ceil long size ≤ i → i ≡ 0
  none past = omega (arith, is, lt, past)

  before : (j : ℕ) → j < div_ceil long size → j * size < long
  before j below = by_rows (mul-le (j + 1) size (div_ceil long size) size (omega (arith, below)) (omega arith)) (div_ceil_times long size (omega arith)).1 where
    by_rows : (j + 1) * size ≤ div_ceil long size * size → div_ceil long size * size < long + size → j * size < long
    by_rows a b = omega (arith, a, b, add-mul j 1 size)

-- the last one ends with them
pub pieces_reach : (size long count : ℕ) → 1 ≤ size → count ≡ max (div_ceil long size) 1 → long ≤ count * size
pieces_reach size long count some is =
    let one = (div_ceil_times long size (omega arith)).0 in
    let most = mul-le (div_ceil long size) size count size (omega (arith, is)) (omega arith) in
    omega (arith, one, most)

-- Chunk files that were written are decoded to the file that they are of, padded.
use Rattle.std.proofs.Common.{◌≡◌, ◌<◌, ◌≤◌, ◌+◌, ◌-◌, ◌*◌, ◌/◌, ◌%◌, ◌^◌, ℕ, zero, suc, List, [], ◌∷◌, ◌++◌, Option, Some, length, get_or, slice_index, drop, replicate, min, refl, ap, sym, subst, ◌∙◌, arith, inl, inr, lit<, append-nil, append_assoc}
use Rattle.std.specs.Int.{bit_at}
use Rattle.std.specs.List.{All}
use Rattle.std.specs.FinMap as map
use Rattle.std.specs.Fmt.{decimal}
use Rattle.std.proofs.lemmas.Bool.{cases_eq, cases_lt}
use Rattle.std.proofs.lemmas.Fmt.{decimal_injective}
use Rattle.std.proofs.lemmas.List.{drop_at}
use Rattle.std.proofs.lemmas.List.Elements.{All-append, All-replicate}
use Rattle.std.proofs.lemmas.Nat.{mul-le}
use Rattle.std.proofs.Math.Nat.{mul-div_cancel, mul-mod_left}
use Rattle.ec_model.specs.Codes.{CodeRows, IsCode, HasPosition, IsPositionList}
use Rattle.ec_model.specs.Field.{field_product}
use Rattle.ec_model.specs.Rows.{sum_below, entry_at}
use Rattle.ec_model.specs.Stripes.{stripe_count, shard_len, padded}
use Rattle.ec_model.proofs.StripeLemmas.{length-padded}
use Rattle.ec_files.specs.Chunks.{AreBelow, Written, after, AreChunkFiles, IsReadPlan, AreReadable, HaveLength, AreChunksOf, chunk_name}
use Rattle.ec_files.specs.Decoding.{IsAmong}
use Rattle.ec_files.specs.Files.{FileMap, max_file}
use Rattle.ec_files.specs.Laws.{ComesBack, EncodedFilesComeBack}
use Rattle.ec_files.specs.Runs.{DecodesFiles, IsFileOf}
use Rattle.ec_files.specs.Texts.{too_long_line}
use Rattle.ec_files.specs.Jobs.{Job}
use Rattle.ec_files.proofs.EncodeLemmas.{same_some}
use Rattle.ec_files.proofs.FileLemmas.{written, others_stay}

-- ---- the files of chunks are found

-- a position's chunks are found in its file
abbrev HasFile : CodeRows → ℕ → List ℕ → List ℕ → FileMap → ℕ → Type 0
HasFile code unit name bytes files p = (chunks : List ℕ) × (map.get files (chunk_name name p) ≡ Some chunks) × IsPositionList code unit bytes p chunks

front : (name : List ℕ) (n : ℕ) → drop (length (name ++ 46 ∷ [])) (chunk_name name n) ≡ decimal n
front name n =
    ap (drop (length (name ++ 46 ∷ []))) (sym (append_assoc name (46 ∷ []) (decimal n)))
    ∙ drop_at (name ++ 46 ∷ []) (decimal n) (length (name ++ 46 ∷ [])) refl

same_name : (name : List ℕ) (p q : ℕ) → p < 2 ^ 64 → q < 2 ^ 64 → chunk_name name p ≡ chunk_name name q → p ≡ q
same_name name p q lp lq e = decimal_injective p q lp lq (sym (front name p) ∙ ap (drop (length (name ++ 46 ∷ []))) e ∙ front name q)

just_written : (code : CodeRows) (unit : ℕ) (name bytes : List ℕ) (files : FileMap) (q : ℕ) (one : Written) → one.0 ≡ chunk_name name q
    → IsPositionList code unit bytes q one.1 → HasFile code unit name bytes (map.insert files one.0 one.1) q
just_written code unit name bytes files q one named is = (one.1, ap (map.get (map.insert files one.0 one.1)) (sym named) ∙ written files one.0 one.1, is)

one_stays : (code : CodeRows) (unit : ℕ) (name bytes : List ℕ) (files : FileMap) (p q : ℕ) (one : Written) → p < 2 ^ 64 → q < 2 ^ 64
    → one.0 ≡ chunk_name name q → IsPositionList code unit bytes q one.1 → HasFile code unit name bytes files p
    → HasFile code unit name bytes (map.insert files one.0 one.1) p
one_stays code unit name bytes files p q one lp lq named is has = elim (cases_eq p q) [
  | inl e ↦ subst (λ (r : ℕ). HasFile code unit name bytes (map.insert files one.0 one.1) r) (sym e) (just_written code unit name bytes files q one named is)
  | inr ne ↦ (has.0, others_stay files one.0 one.1 (chunk_name name p) (λ e. ne (same_name name p q lp lq (e ∙ named))) ∙ has.1, has.2)
]

small : (n q : ℕ) → n ≤ 16 → q < n → q < 2 ^ 64
small n q few lt = omega arith

below_first : (n q : ℕ) (wanted : List ℕ) → AreBelow n (q ∷ wanted) → q < n
below_first n q wanted below = below 0 0 (omega arith)

below_rest : (n q : ℕ) (wanted : List ℕ) → AreBelow n (q ∷ wanted) → AreBelow n wanted
below_rest n q wanted below = λ k d lt. below (suc k) d (omega (arith, lt))

all_stay : (code : CodeRows) (unit : ℕ) (name bytes wanted : List ℕ) (list : List Written) (files : FileMap) (p : ℕ) → code.n ≤ 16 → p < 2 ^ 64 → AreBelow code.n wanted
    → AreChunkFiles code unit name bytes wanted list → HasFile code unit name bytes files p → HasFile code unit name bytes (after files list) p
all_stay code unit name bytes [] [] files p few lp below are has = has
all_stay code unit name bytes [] (one ∷ more) files p few lp below are has = absurd are
all_stay code unit name bytes (q ∷ wanted) [] files p few lp below are has = absurd are
all_stay code unit name bytes (q ∷ wanted) (one ∷ more) files p few lp below are has =
    all_stay code unit name bytes wanted more (map.insert files one.0 one.1) p few lp (below_rest code.n q wanted below) are.2
    (one_stays code unit name bytes files p q one lp (small code.n q few (below_first code.n q wanted below)) are.0 are.1 has)

each_found : (code : CodeRows) (unit : ℕ) (name bytes wanted : List ℕ) (list : List Written) (files : FileMap) (i : ℕ) → code.n ≤ 16 → AreBelow code.n wanted
    → AreChunkFiles code unit name bytes wanted list → i < length wanted → HasFile code unit name bytes (after files list) (get_or wanted i 0)
each_found code unit name bytes [] list files i few below are lt = absurd (omega (arith, lt))
each_found code unit name bytes (q ∷ wanted) [] files i few below are lt = absurd are
each_found code unit name bytes (q ∷ wanted) (one ∷ more) files zero few below are lt =
    all_stay code unit name bytes wanted more (map.insert files one.0 one.1) q few (small code.n q few (below_first code.n q wanted below)) (below_rest code.n q wanted below) are.2
    (just_written code unit name bytes files q one are.0 are.1)
each_found code unit name bytes (q ∷ wanted) (one ∷ more) files (suc i) few below are lt =
    each_found code unit name bytes wanted more (map.insert files one.0 one.1) i few (below_rest code.n q wanted below) are.2 (omega (arith, lt))

-- ---- the padded file has the same chunks

count_of_whole : (n width : ℕ) → 0 < width → n * width / width + min 1 (n * width % width) ≡ n
count_of_whole n width some =
    ap (λ m. m + min 1 (n * width % width)) (mul-div_cancel n some) ∙ ap (λ m. n + min 1 m) (mul-mod_left n width) ∙ omega arith

count_padded : (k unit : ℕ) (bytes : List ℕ) → 1 ≤ k * unit → stripe_count k unit (length (padded k unit bytes)) ≡ stripe_count k unit (length bytes)
count_padded k unit bytes some = ap (stripe_count k unit) (length-padded k unit bytes some) ∙ count_of_whole (stripe_count k unit (length bytes)) (k * unit) (omega arith)

nothing_left : (n : ℕ) → n - n ≡ 0
nothing_left n = omega arith

padded_again : (k unit : ℕ) (bytes : List ℕ) → 1 ≤ k * unit → padded k unit (padded k unit bytes) ≡ padded k unit bytes
padded_again k unit bytes some =
    let whole = padded k unit bytes in
    let count = stripe_count k unit (length bytes) in
    let none : stripe_count k unit (length whole) * (k * unit) - length whole ≡ 0 =
    ap (λ n. n * (k * unit) - length whole) (count_padded k unit bytes some) ∙ ap (λ n. count * (k * unit) - n) (length-padded k unit bytes some) ∙ nothing_left (count * (k * unit))
    in
    ap (λ n. whole ++ replicate n 0) none ∙ append-nil whole

list_of_padded : (code : CodeRows) (unit : ℕ) (bytes : List ℕ) (p : ℕ) (list : List ℕ) → 1 ≤ code.k * unit → IsPositionList code unit bytes p list
    → IsPositionList code unit (padded code.k unit bytes) p list
list_of_padded code unit bytes p list some is = record {
  long = is.long ∙ ap (λ n. n * unit) (sym (count_padded code.k unit bytes some));
  sums = λ t b lt lb.
      is.sums t b (subst (λ n. t < n) (count_padded code.k unit bytes some) lt) lb
      ∙ ap (λ whole. sum_below code.k (λ j. field_product (entry_at code.rows p j) (slice_index whole ((t * code.k + j) * unit + b)))) (sym (padded_again code.k unit bytes some));
}

all_bytes : (k unit : ℕ) (bytes : List ℕ) → All (λ b. b < 2 ^ 8) bytes → All (λ b. b < 2 ^ 8) (padded k unit bytes)
all_bytes k unit bytes all =
    All-append (λ b. b < 2 ^ 8) bytes (replicate (stripe_count k unit (length bytes) * (k * unit) - length bytes) 0) all (All-replicate (λ b. b < 2 ^ 8) _ 0 (lit< tt))

regroup : (n k unit : ℕ) → n * (k * unit) ≡ k * (n * unit)
regroup n k unit = grind arith

total : (k unit : ℕ) (bytes : List ℕ) → 1 ≤ k * unit → length (padded k unit bytes) ≡ k * shard_len k unit (length bytes)
total k unit bytes some = length-padded k unit bytes some ∙ regroup (stripe_count k unit (length bytes)) k unit

-- ---- the file comes back

-- the positions that are read are listed
pub plan_listed : (code : CodeRows) (listed : List ℕ) (plan p : ℕ) → IsReadPlan code listed plan → HasPosition plan p → IsAmong listed p
plan_listed code listed plan p is has = elim (cases_eq (bit_at is.given p) 1) [
  | inl here ↦ (is.is_given p).0 here
  | inr out ↦ absurd (out ((is.least (λ lies. out (lies p (subst (λ (set : ℕ). HasPosition set p) (is.itself lies) has)))).available p has))
]

abbrev AreFound : CodeRows → Job → List ℕ → FileMap → Type 0
AreFound code job bytes files = (i : ℕ) → i < length job.wanted → HasFile code job.unit job.name bytes files (get_or job.wanted i 0)

are_chunks_of : (code : CodeRows) (job : Job) (bytes : List ℕ) (files : FileMap) (plan : ℕ) → 1 ≤ code.k * job.unit → All (λ b. b < 2 ^ 8) bytes
    → AreFound code job bytes files → IsReadPlan code job.wanted plan → AreChunksOf code job.unit files job.name plan (padded code.k job.unit bytes)
are_chunks_of code job bytes files plan some all found is = record {
  all_bytes = all_bytes code.k job.unit bytes all;
  each = λ p chunks has e.
      let at = plan_listed code job.wanted plan p is has in
      let file = subst (λ (q : ℕ). HasFile code job.unit job.name bytes files q) at.1.1 (found at.0 at.1.0) in
      subst (λ (c : List ℕ). IsPositionList code job.unit (padded code.k job.unit bytes) p c) (same_some file.0 chunks (sym file.1 ∙ e))
      (list_of_padded code job.unit bytes p file.0 some file.2);
}

no_more_alone : (k long most : ℕ) → 1 ≤ k → k * long ≤ most → long ≤ most
no_more_alone k long most some le = let one : 1 * long ≤ k * long = mul-le 1 long k long some (omega arith) in omega (arith, one, le)

found_back : (code : CodeRows) (job : Job) (bytes : List ℕ) (files : FileMap) (status : ℕ) (line : List ℕ) (now : Option FileMap) → IsCode code → 1 ≤ job.unit
    → 1 ≤ length job.wanted → All (λ b. b < 2 ^ 8) bytes → AreFound code job bytes files → DecodesFiles code job status line now files
    → ComesBack job files (padded code.k job.unit bytes) status line now
found_back code job bytes files status line now is some_unit some_listed all found decodes = record { whole = whole; too_long = too_long } where
  some : 1 ≤ code.k * job.unit
  some = mul-le 1 1 code.k job.unit is.some_data some_unit

  units : shard_len code.k job.unit (length bytes) % job.unit ≡ 0
  units = mul-mod_left (stripe_count code.k job.unit (length bytes)) job.unit

  have : HaveLength files job.name job.wanted (shard_len code.k job.unit (length bytes))
  have i lt = let file = found i lt in (file.0, file.1, file.2.long)

  readable : shard_len code.k job.unit (length bytes) ≤ max_file → AreReadable files job.name job.wanted
  readable few i lt = let file = found i lt in (file.0, file.1, subst (λ (n : ℕ). n ≤ max_file) (sym file.2.long) few)

  whole : length (padded code.k job.unit bytes) ≤ max_file
      → (status ≡ 0) × (line ≡ []) × (now ≡ Some (map.insert files job.name (padded code.k job.unit bytes)))
  whole few =
      let long = shard_len code.k job.unit (length bytes) in
      let fits : code.k * long ≤ max_file = subst (λ (n : ℕ). n ≤ max_file) (total code.k job.unit bytes some) few in
      let done = decodes.done long (readable (no_more_alone code.k long max_file is.some_data fits)) units have fits in
      let same = done.2.3.is (padded code.k job.unit bytes) (total code.k job.unit bytes some) (are_chunks_of code job bytes files done.2.0 some all found done.2.2) in
      (done.0, done.1, done.2.4 ∙ ap (λ (b : List ℕ). Some (map.insert files job.name b)) same)

  too_long : max_file < length (padded code.k job.unit bytes)
      → (status ≡ 8) × ((name : List ℕ) × IsFileOf job name × (line ≡ too_long_line name)) × (now ≡ Some files)
  too_long much =
      let long = shard_len code.k job.unit (length bytes) in
      elim (cases_lt max_file long) [
        | inl lt ↦
            let file = found 0 some_listed in
            let stop = decodes.too_long_chunks 0 file.0 some_listed (λ i li. absurd (omega (arith, li))) file.1 (subst (λ (n : ℕ). max_file < n) (sym file.2.long) lt) in
            (stop.0, (chunk_name job.name (get_or job.wanted 0 0), inr (0, (some_listed, refl)), stop.1), stop.2)
        | inr few ↦
            let stop = decodes.too_long long (readable few) units have (subst (λ (n : ℕ). max_file < n) (total code.k job.unit bytes some) much) in
            (stop.0, (job.name, inl refl, stop.1), stop.2)
      ]

pub come_back : EncodedFilesComeBack
come_back code bytes encoded files list job status line now is listed decodes =
    found_back code job bytes (after files list) status line now is listed.some_unit listed.some_listed listed.all_bytes
    (λ i lt.
    let at = listed.among i lt in
    subst (λ (p : ℕ). HasFile code job.unit job.name bytes (after files list) p) at.1.1
    (each_found code job.unit job.name bytes encoded list files at.0 is.few listed.encoded_below listed.are at.1.0))
    (decodes.files listed.listed_below listed.decide)

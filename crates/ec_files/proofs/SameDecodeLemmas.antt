-- What is decoded is one function of the words and the files.
use Rattle.std.proofs.Common.{◌≡◌, ◌⊎◌, ◌*◌, ◌%◌, ◌<◌, ◌≤◌, zero, suc, ℕ, List, Option, Some, None, length, slice_index, take, refl, ap, sym, subst, ◌∙◌, arith, inl, inr}
use Rattle.std.specs.FinMap as map
use Rattle.std.proofs.lemmas.Bool.{cases_eq, cases_lt}
use Rattle.std.proofs.lemmas.List.{get_or-take, length-take-le}
use Rattle.ec_model.specs.Codes.{CodeRows, IsCode, IsColumn, DecidesOne, Decides, chunk_of}
use Rattle.ec_model.specs.Field.{field_product}
use Rattle.ec_model.specs.Rows.{sum_below, row_at}
use Rattle.ec_matrix.proofs.CallerLemmas.{sum_below-same}
use Rattle.lrc_layers.specs.Laws.{AreAlike}
use Rattle.read_plan.specs.Laws.{LeastPlanIsOne}
use Rattle.read_plan.specs.Plans.{LiesIn, IsLeastPlan}
use Rattle.stripe_map.specs.DecodingLaws.{IsDataMask}
use Rattle.stripe_map.proofs.DecodingMaskLemmas.{same_masks}
use Rattle.ec_files.specs.Chunks.{AreBelow, DecideTheData, IsReadPlan, IsReadable, AreReadable, HaveLength, IsDecoded, chunk_name}
use Rattle.ec_files.specs.Decoding.{IsAmong}
use Rattle.ec_files.specs.Files.{FileMap, max_file}
use Rattle.ec_files.specs.Runs.{Decodes, DecodesFiles}
use Rattle.ec_files.specs.Laws.{HoldBytes}
use Rattle.ec_files.specs.Jobs.{Job}
use Rattle.ec_files.proofs.BackLemmas.{plan_listed}
use Rattle.ec_files.proofs.EncodeLemmas.{same_some, no_bytes}
use Rattle.ec_files.proofs.SameEncodeLemmas.{Same, stops_same, list_as, below_or_not}

-- ---- codes that are alike

alike_back : (one other : CodeRows) → AreAlike one other → AreAlike other one
alike_back one other alike = record {
  data_chunks = sym alike.data_chunks;
  positions = sym alike.positions;
  divisor = sym alike.divisor;
  rows = λ p j lp lj. sym (alike.rows p j (omega (arith, lp, alike.positions)) (omega (arith, lj, alike.data_chunks)));
  places = λ j lj. sym (alike.places j (omega (arith, lj, alike.data_chunks)));
}

chunk_as : (one other : CodeRows) (x : List ℕ) (p : ℕ) → AreAlike one other → p < one.n → chunk_of one x p ≡ chunk_of other x p
chunk_as one other x p alike lp =
    sum_below-same one.k (λ j. field_product (slice_index (row_at one.rows p) j) (slice_index x j)) (λ j. field_product (slice_index (row_at other.rows p) j) (slice_index x j))
    (λ j lj. ap (λ e. field_product e (slice_index x j)) (alike.rows p j lp lj))
    ∙ ap (λ k. sum_below k (λ j. field_product (slice_index (row_at other.rows p) j) (slice_index x j))) alike.data_chunks

decides_as : (one other : CodeRows) (set p : ℕ) → AreAlike one other → p < one.n → DecidesOne one set p → DecidesOne other set p
decides_as one other set p alike lp is = record {
  agree = λ x y is_x is_y on.
      sym (chunk_as one other x p alike lp)
      ∙ is.agree x y (subst (λ (k : ℕ). IsColumn k x) (sym alike.data_chunks) is_x) (subst (λ (k : ℕ). IsColumn k y) (sym alike.data_chunks) is_y)
      (λ q lq has. chunk_as one other x q alike lq ∙ on q (omega (arith, lq, alike.positions)) has ∙ sym (chunk_as one other y q alike lq))
      ∙ chunk_as one other y p alike lp;
}

all_decided_as : (one other : CodeRows) (set wanted : ℕ) → AreAlike one other → Decides one set wanted → Decides other set wanted
all_decided_as one other set wanted alike is p lp has =
    let inside : p < one.n = omega (arith, lp, alike.positions) in
    decides_as one other set p alike inside (is p inside has)

data_decided_as : (one other : CodeRows) (positions : List ℕ) → IsCode one → AreAlike one other → DecideTheData one positions → DecideTheData other positions
data_decided_as one other positions is_code alike is set is_set j lj =
    let inside : j < one.k = omega (arith, lj, alike.data_chunks) in
    subst (λ (p : ℕ). DecidesOne other set p) (alike.places j inside)
    (decides_as one other set (slice_index one.places j) alike (is_code.placed j inside) (is set is_set j inside))

data_decided_back : (one other : CodeRows) (positions : List ℕ) → IsCode one → AreAlike one other → DecideTheData other positions → DecideTheData one positions
data_decided_back one other positions is_code alike is set is_set j lj =
    let its : j < other.k = omega (arith, lj, alike.data_chunks) in
    let placed : slice_index one.places j < other.n = omega (arith, is_code.placed j lj, alike.positions) in
    decides_as other one set (slice_index one.places j) (alike_back one other alike) placed
    (subst (λ (p : ℕ). DecidesOne other set p) (sym (alike.places j lj)) (is set is_set j its))

-- what can't be refuted of deciding is so, as it says that numbers are equal
pub decided_or_not : (code : CodeRows) (positions : List ℕ) → ((DecideTheData code positions → ⊥) → ⊥) → DecideTheData code positions
decided_or_not code positions refuted set is j lj = record {
  agree = λ x y is_x is_y on. elim (cases_eq (chunk_of code x (slice_index code.places j)) (chunk_of code y (slice_index code.places j))) [
    | inl e ↦ e
    | inr ne ↦ absurd (refuted (λ all. ne ((all set is j lj).agree x y is_x is_y on)))
  ];
}

-- ---- one set is read

data_mask_as : (one other : CodeRows) (set : ℕ) → AreAlike one other → IsDataMask other set → IsDataMask one set
data_mask_as one other set alike is p = (
  λ has. let at = (is p).0 has in
      let inside : at.0 < one.k = omega (arith, at.1.0, alike.data_chunks) in
      (at.0, (inside, alike.places at.0 inside ∙ at.1.1)),
  λ found. (is p).1 (found.0, (omega (arith, found.1.0, alike.data_chunks), sym (alike.places found.0 found.1.0) ∙ found.1.1)),
)

least_as : (one other : CodeRows) (avail wanted plan : ℕ) → AreAlike one other → IsLeastPlan other avail wanted plan → IsLeastPlan one avail wanted plan
least_as one other avail wanted plan alike is = record {
  available = is.available;
  decides = all_decided_as other one plan wanted (alike_back one other alike) is.decides;
  least = λ set inside decides apart. is.least set inside (all_decided_as one other set wanted alike decides) apart;
}

one_plan : LeastPlanIsOne → (one other : CodeRows) (listed : List ℕ) (plan its_plan : ℕ) → AreAlike one other → IsReadPlan one listed plan → IsReadPlan other listed its_plan
    → plan ≡ its_plan
one_plan law one other listed plan its_plan alike a b = elim (cases_eq plan its_plan) [
  | inl same ↦ same
  | inr apart ↦
      let given : a.given ≡ b.given = same_masks (λ p. IsAmong listed p) a.given b.given a.is_given b.is_given in
      let is_its : a.data_set ≡ b.data_set =
      same_masks (λ p. (j : ℕ) × ((j < one.k) × (slice_index one.places j ≡ p))) a.data_set b.data_set a.is_data (data_mask_as one other b.data_set alike b.is_data)
      in
      let itself : LiesIn a.data_set a.given → ⊥ = λ lies. apart (a.itself lies ∙ is_its ∙ sym (b.itself
      (subst (λ (g : ℕ). LiesIn b.data_set g) given (subst (λ (d : ℕ). LiesIn d a.given) is_its lies)))) in
      let never : LiesIn b.data_set b.given → ⊥ = λ lies. itself
      (subst (λ (g : ℕ). LiesIn a.data_set g) (sym given) (subst (λ (d : ℕ). LiesIn d b.given) (sym is_its) lies)) in
      let its0 = least_as one other b.given b.data_set its_plan alike (b.least never) in
      let its1 = subst (λ (g : ℕ). IsLeastPlan one g b.data_set its_plan) (sym given) its0 in
      let its = subst (λ (d : ℕ). IsLeastPlan one a.given d its_plan) (sym is_its) its1 in
      law one a.given a.data_set plan its_plan (a.least itself) its
]

-- ---- one file is decoded

one_found : (one other : CodeRows) (job : Job) (files : FileMap) (plan long : ℕ) (found its_found : List ℕ) → AreAlike one other → HoldBytes files → AreBelow one.n job.wanted
    → IsReadPlan one job.wanted plan → IsDecoded one job.unit files job.name plan long found → IsDecoded other job.unit files job.name plan long its_found → found ≡ its_found
one_found one other job files plan long found its_found alike hold below read a b =
    sym (b.is found (a.whole ∙ ap (λ k. k * long) alike.data_chunks) (record {
      all_bytes = a.all_bytes;
      each = λ p chunks has e.
          let at = plan_listed one job.wanted plan p read has in
          let inside : p < one.n = subst (λ (q : ℕ). q < one.n) at.1.1 (below at.0 0 at.1.0) in
          list_as one other job.unit found p chunks alike inside (a.own p chunks has e (hold (chunk_name job.name p) chunks e));
    }))

-- ---- the files in turn

-- all below n are so, or there is a first that isn't
first_not : (P : ℕ → Type 0) (n : ℕ) → ((i : ℕ) → P i ⊎ (P i → ⊥))
    → ((i : ℕ) → i < n → P i) ⊎ ((i : ℕ) × (i < n) × (P i → ⊥) × ((j : ℕ) → j < i → P j))
first_not P zero test = inl (λ i lt. absurd (omega (arith, lt)))
first_not P (suc n) test = elim (first_not P n test) [
  | inl all ↦ elim (test n) [
    | inl here ↦ inl (λ i lt. elim (cases_eq i n) [ inl e ↦ subst P (sym e) here | inr ne ↦ all i (below i n lt ne) ])
    | inr out ↦ inr (n, omega arith, out, all)
  ]
  | inr found ↦ inr (found.0, omega (arith, found.1), found.2, found.3)
] where
  below : (i n : ℕ) → i < suc n → (i ≡ n → ⊥) → i < n
  below i n lt ne = grind arith

readable_or_not : (files : FileMap) (name : List ℕ) → IsReadable files name ⊎ (IsReadable files name → ⊥)
readable_or_not files name = by_file (map.get files name) refl where
  by_file : (o : Option (List ℕ)) → map.get files name ≡ o → IsReadable files name ⊎ (IsReadable files name → ⊥)
  by_file None e = inr (λ has. no_bytes (map.get files name) has.0 has.1 e)
  by_file (Some bytes) e = elim (cases_lt max_file (length bytes)) [
    | inl long ↦ inr (λ has. absurd (omega (arith, long, has.2, ap length (same_some bytes has.0 (sym e ∙ has.1)))))
    | inr few ↦ inl (bytes, e, few)
  ]

first_readable : (files : FileMap) (name wanted : List ℕ) (i : ℕ) → i < length wanted
    → ((j : ℕ) → j < i → IsReadable files (chunk_name name (slice_index wanted j))) → AreReadable files name (take i wanted)
first_readable files name wanted i lt all j lj =
    let short : j < i = omega (arith, lj, length-take-le i wanted (omega arith)) in
    subst (λ (p : ℕ). IsReadable files (chunk_name name p)) (sym (get_or-take i wanted j 0 short)) (all j short)

-- a file is there with bytes of this length
abbrev IsLong : FileMap → List ℕ → ℕ → Type 0
IsLong files name long = (bytes : List ℕ) × (map.get files name ≡ Some bytes) × (length bytes ≡ long)

long_or_not : (files : FileMap) (name : List ℕ) (long : ℕ) → IsLong files name long ⊎ (IsLong files name long → ⊥)
long_or_not files name long = by_file (map.get files name) refl where
  by_file : (o : Option (List ℕ)) → map.get files name ≡ o → IsLong files name long ⊎ (IsLong files name long → ⊥)
  by_file None e = inr (λ has. no_bytes (map.get files name) has.0 has.1 e)
  by_file (Some bytes) e = elim (cases_eq (length bytes) long) [
    | inl same ↦ inl (bytes, e, same)
    | inr other ↦ inr (λ has. other (ap length (same_some bytes has.0 (sym e ∙ has.1)) ∙ has.2))
  ]

one_length : (files : FileMap) (name : List ℕ) (long its_long : ℕ) → IsLong files name long → IsLong files name its_long → long ≡ its_long
one_length files name long its_long a b = sym a.2 ∙ ap length (same_some a.0 b.0 (sym a.1 ∙ b.1)) ∙ b.2

-- the files have one length, that of whole units
abbrev AreOfUnits : FileMap → List ℕ → List ℕ → ℕ → ℕ → Type 0
AreOfUnits files name wanted unit long = (long % unit ≡ 0) × HaveLength files name wanted long

by_first : (files : FileMap) (name wanted : List ℕ) (unit long : ℕ) → 1 ≤ length wanted → IsLong files (chunk_name name (slice_index wanted 0)) long
    → ((l : ℕ) × AreOfUnits files name wanted unit l) ⊎ ((l : ℕ) → l % unit ≡ 0 → HaveLength files name wanted l → ⊥)
by_first files name wanted unit long some first =
    elim (first_not (λ i. IsLong files (chunk_name name (slice_index wanted i)) long) (length wanted) (λ i. long_or_not files (chunk_name name (slice_index wanted i)) long)) [
      | inl all ↦ elim (cases_eq (long % unit) 0) [
        | inl units ↦ inl (long, (units, all))
        | inr part ↦ inr (λ l units have. part (subst (λ (x : ℕ). x % unit ≡ 0) (one_length files (chunk_name name (slice_index wanted 0)) l long (have 0 some) first) units))
      ]
      | inr found ↦ inr (λ l units have. found.2 (subst (λ (x : ℕ). IsLong files (chunk_name name (slice_index wanted found.0)) x)
          (one_length files (chunk_name name (slice_index wanted 0)) l long (have 0 some) first) (have found.0 found.1)))
    ]

units_or_not : (files : FileMap) (name wanted : List ℕ) (unit : ℕ) → 1 ≤ length wanted → AreReadable files name wanted
    → ((l : ℕ) × AreOfUnits files name wanted unit l) ⊎ ((l : ℕ) → l % unit ≡ 0 → HaveLength files name wanted l → ⊥)
units_or_not files name wanted unit some readable = let first = readable 0 some in by_first files name wanted unit (length first.0) some (first.0, first.1, refl)

files_one : LeastPlanIsOne → (one other : CodeRows) (job : Job) (files : FileMap) (status : ℕ) (line : List ℕ) (now : Option FileMap) (its_status : ℕ) (its_line : List ℕ) (its_now : Option FileMap)
    → AreAlike one other → 1 ≤ length job.wanted → HoldBytes files → AreBelow one.n job.wanted → DecodesFiles one job status line now files → DecodesFiles other job its_status its_line its_now files
    → Same status line now its_status its_line its_now
files_one law one other job files status line now its_status its_line its_now alike some hold below a b =
    elim (first_not (λ i. IsReadable files (name i)) (length job.wanted) (λ i. readable_or_not files (name i))) [
      | inl readable ↦ all_readable readable (units_or_not files job.name job.wanted job.unit some readable)
      | inr found ↦ unreadable found.0 found.1 found.2 (first_readable files job.name job.wanted found.0 found.1 found.3) (map.get files (name found.0)) refl
    ]
  where
    name : ℕ → List ℕ
    name i = chunk_name job.name (slice_index job.wanted i)

    unreadable : (i : ℕ) → i < length job.wanted → (IsReadable files (chunk_name job.name (slice_index job.wanted i)) → ⊥) → AreReadable files job.name (take i job.wanted) → (o : Option (List ℕ))
        → map.get files (chunk_name job.name (slice_index job.wanted i)) ≡ o → Same status line now its_status its_line its_now
    unreadable i lt out before None e = stops_same 4 _ status line (Some files) now its_status its_line its_now (a.missing i lt before e) (b.missing i lt before e)
    unreadable i lt out before (Some bytes) e = elim (cases_lt max_file (length bytes)) [
      | inl long ↦ stops_same 8 _ status line (Some files) now its_status its_line its_now (a.too_long_chunks i bytes lt before e long) (b.too_long_chunks i bytes lt before e long)
      | inr few ↦ absurd (out (bytes, e, few))
    ]

    decoded : (long : ℕ) → AreReadable files job.name job.wanted → long % job.unit ≡ 0 → HaveLength files job.name job.wanted long → one.k * long ≤ max_file
        → Same status line now its_status its_line its_now
    decoded long readable units have fits =
        let x = a.done long readable units have fits in
        let y = b.done long readable units have (subst (λ (k : ℕ). k * long ≤ max_file) alike.data_chunks fits) in
        let plan = one_plan law one other job.wanted x.2.0 y.2.0 alike x.2.2 y.2.2 in
        let its = subst (λ (s : ℕ). IsDecoded other job.unit files job.name s long y.2.1) (sym plan) y.2.3 in
        let same = one_found one other job files x.2.0 long x.2.1 y.2.1 alike hold below x.2.2 x.2.3 its in
        (x.0 ∙ sym y.0, x.1 ∙ sym y.1, x.2.4 ∙ ap (λ (f : List ℕ). Some (map.insert files job.name f)) same ∙ sym y.2.4)

    all_readable : AreReadable files job.name job.wanted
        → ((l : ℕ) × AreOfUnits files job.name job.wanted job.unit l) ⊎ ((l : ℕ) → l % job.unit ≡ 0 → HaveLength files job.name job.wanted l → ⊥)
        → Same status line now its_status its_line its_now
    all_readable readable (inr never) = stops_same 7 _ status line (Some files) now its_status its_line its_now (a.lengths readable never) (b.lengths readable never)
    all_readable readable (inl (long, (units, have))) = elim (cases_lt max_file (one.k * long)) [
      | inl much ↦
          stops_same 8 _ status line (Some files) now its_status its_line its_now (a.too_long long readable units have much)
          (b.too_long long readable units have (subst (λ (k : ℕ). max_file < k * long) alike.data_chunks much))
      | inr fits ↦ decoded long readable units have fits
    ]

pub decodes_one : LeastPlanIsOne → (one other : CodeRows) (job : Job) (files : FileMap) (status : ℕ) (line : List ℕ) (now : Option FileMap) (its_status : ℕ) (its_line : List ℕ) (its_now : Option FileMap)
    → IsCode one → AreAlike one other → 1 ≤ length job.wanted → HoldBytes files → Decodes one job (Some files) status line now → Decodes other job (Some files) its_status its_line its_now
    → Same status line now its_status its_line its_now
decodes_one law one other job files status line now its_status its_line its_now is_code alike some hold a b = elim (below_or_not one.n job.wanted) [
  | inr never ↦
      stops_same 2 _ status line (Some files) now its_status its_line its_now (a.outside never)
      (b.outside (λ below. never (subst (λ (n : ℕ). AreBelow n job.wanted) (sym alike.positions) below)))
  | inl below ↦
      let its_below = subst (λ (n : ℕ). AreBelow n job.wanted) alike.positions below in
      elim (cases_eq status 6) [
        | inl six ↦
            let never = a.only_not_decided six in
            let its_never : DecideTheData other job.wanted → ⊥ = λ decide. never (data_decided_back one other job.wanted is_code alike decide) in
            stops_same 6 _ status line (Some files) now its_status its_line its_now (a.not_decided below never) (b.not_decided its_below its_never)
        | inr other_status ↦
            let decide = decided_or_not one job.wanted (λ never. other_status (a.not_decided below never).0) in
            files_one law one other job files status line now its_status its_line its_now alike some hold below (a.files below decide)
            (b.files its_below (data_decided_as one other job.wanted is_code alike decide))
      ]
]

-- The set of positions that is read.
use Rattle.std.proofs.Common.{◌≡◌, ◌≢◌, ◌<◌, ◌≤◌, ◌-◌, ◌^◌, ◌↔◌, ℕ, List, Option, Some, None, IfSome, slice_index, replicate, set as put, bit_xor, ap, sym, subst, ◌∙◌, arith, inl, inr, lit<}
use Rattle.std.proofs.Math.Pow.{pow-sub-lt}
use Rattle.std.proofs.Math.Nat.{mod-eq_of_lt}
use Rattle.std.proofs.lemmas.Bool.{cases_eq, cases_lt}
use Rattle.std.proofs.lemmas.List.{get_or-set_same, get_or-set_other, get_or-replicate, get_or_past, length-replicate, length-set}
use Rattle.std.proofs.lemmas.Nat.Bits.{bit_at_ones}
use Rattle.ec_model.specs.Codes.{CodeRows, IsCode, IsColumn, HasPosition, LiesBelow, Decides, chunk_of}
use Rattle.ec_model.specs.Rows.{row_at}
use Rattle.ec_matrix.proofs.CallerLemmas.{dot_comm, dot_unit}
use Rattle.ec_words.specs.declared.mask.Mask.{Mask}
use Rattle.read_plan.specs.Plans.{LiesIn, IsLeastPlan, IsLess}
use Rattle.read_plan.proofs.SetLemmas.{in-lt, less_one, size-with}
use Rattle.stripe_map.specs.Decoding.{DecidesData}
use Rattle.stripe_map.specs.DecodingLaws.{IsDataMask}
use Rattle.stripe_map.proofs.DecodingMaskLemmas.{same_masks, data_is_its_mask}
use Rattle.ec_files.specs.Chunks.{AreBelow, IsSetOf, DecideTheData, NeedsEach, IsReadPlan}
use Rattle.ec_files.specs.Decoding.{IsAmong}

pub all_below_16 : (n : ℕ) (list : List ℕ) → n ≤ 16 → AreBelow n list → AreBelow 16 list
all_below_16 n list few below k d lt = let one = below k d lt in omega arith

-- a set whose positions are below n
set_below : (n set : ℕ) → ((p : ℕ) → HasPosition set p → p < n) → LiesBelow n set
set_below n set each = in-lt set (2 ^ n - 1) (2 ^ n) (one_less n) (λ p has. bit_at_ones n p (each p has)) where
  one_less : (k : ℕ) → 2 ^ k - 1 < 2 ^ k
  one_less k = pow-sub-lt k (omega arith)

pub listed_below : (n : ℕ) (listed : List ℕ) (set : ℕ) → AreBelow n listed → IsSetOf listed set → LiesBelow n set
listed_below n listed set below is = set_below n set (λ p has. let found = (is p).0 has in subst (λ q. q < n) found.1.1 (below found.0 0 found.1.0))

pub data_below : (code : CodeRows) (set : ℕ) → IsCode code → IsDataMask code set → LiesBelow code.n set
data_below code set is_code is = set_below code.n set (λ p has. let found = (is p).0 has in subst (λ q. q < code.n) found.1.1 (is_code.placed found.0 found.1.0))

abbrev mask_or : Option Mask → ℕ
mask_or (Some mask) = mask.0
mask_or None = 0

pub plan_if : (code : CodeRows) (listed : List ℕ) (given data_set : Mask) (found : Option Mask) → IsSetOf listed given.0 → IsDataMask code data_set.0
    → (LiesIn data_set.0 given.0 → found ≡ Some data_set) → ((LiesIn data_set.0 given.0 → ⊥) → IfSome found (λ set. IsLeastPlan code given.0 data_set.0 set.0))
    → IfSome found (λ set. IsReadPlan code listed set.0)
plan_if code listed given data_set None is_given is_data itself least = tt
plan_if code listed given data_set (Some set) is_given is_data itself least = record {
  given = given.0;
  data_set = data_set.0;
  is_given = is_given;
  is_data = is_data;
  itself = λ lies. ap mask_or (itself lies);
  least = least;
}

pub decides_if : (code : CodeRows) (given data_set : ℕ) (found : Option Mask) → IsCode code → IsDataMask code data_set
    → IfSome found (λ set. LiesIn set.0 given × Decides code set.0 data_set) → IfSome found (λ set. DecidesData code set.0)
decides_if code given data_set None is_code is_data some = tt
decides_if code given data_set (Some set) is_code is_data some = (data_is_its_mask code set.0 data_set is_code is_data).1 some.1

pub listed_if : (code : CodeRows) (listed : List ℕ) (given data_set : ℕ) (found : Option Mask) → IsSetOf listed given
    → IfSome found (λ set. LiesIn set.0 given × Decides code set.0 data_set) → IfSome found (λ set. (p : ℕ) → HasPosition set.0 p → IsAmong listed p)
listed_if code listed given data_set None is_given some = tt
listed_if code listed given data_set (Some set) is_given some = λ p has. (is_given p).0 (some.0 p has)

pub decided : (code : CodeRows) (listed : List ℕ) (given data_set : ℕ) → IsCode code → IsSetOf listed given → IsDataMask code data_set
    → DecideTheData code listed ↔ Decides code given data_set
decided code listed given data_set is_code is_given is_data = (
  λ decide. (data_is_its_mask code given data_set is_code is_data).0 (decide given is_given),
  λ decides set is. subst (DecidesData code) (same_masks (λ p. IsAmong listed p) given set is_given is) ((data_is_its_mask code given data_set is_code is_data).1 decides),
)

-- what a part of some positions decides they decide
pub part_decides : (code : CodeRows) (listed : List ℕ) (part : ℕ) → DecidesData code part → ((p : ℕ) → HasPosition part p → IsAmong listed p) → DecideTheData code listed
part_decides code listed part decides inside set is j lt = record {
  agree = λ one other is_one is_other on. (decides j lt).agree one other is_one is_other (λ q lq has. on q lq ((is q).1 (inside q has)));
}

-- ---- no position to spare

-- the least set has none
least_needs : (code : CodeRows) (avail wanted plan : ℕ) → IsLeastPlan code avail wanted plan → ((p : ℕ) → HasPosition plan p → p < 16) → NeedsEach code plan
least_needs code avail wanted plan is below p has by = never (is.least less (λ q here. is.available q (inside q here)) decides apart) where
  less : ℕ
  less = bit_xor plan (2 ^ p)

  inside : LiesIn less plan
  inside q here = elim (cases_eq q p) [
    | inl e ↦ absurd ((less_one plan p has).lacks (subst (HasPosition less) e here))
    | inr ne ↦ (less_one plan p has).others q ne ∙ here
  ]

  decides : Decides code less wanted
  decides w lw hw = record {
    agree = λ one other is_one is_other on. (is.decides w lw hw).agree one other is_one is_other (λ q lq here. elim (cases_eq q p) [
      | inl e ↦ subst (λ (r : ℕ). chunk_of code one r ≡ chunk_of code other r) (sym e)
          (by.agree one other is_one is_other (λ r lr ne there. on r lr (sym ((less_one plan p has).others r ne) ∙ there)))
      | inr ne ↦ on q lq (sym ((less_one plan p has).others q ne) ∙ here)
    ]);
  }

  apart : less ≢ plan
  apart e = (less_one plan p has).lacks (subst (λ (s : ℕ). HasPosition s p) (sym e) has)

  never : IsLess plan less → ⊥
  never (inl lt) = omega (arith, lt, size-with p less plan (below p has) (less_one plan p has))
  never (inr eq) = omega (arith, eq.0, size-with p less plan (below p has) (less_one plan p has))

-- the chunk of a column at a data position
own_chunk : (code : CodeRows) (x : List ℕ) (i : ℕ) → IsCode code → IsColumn code.k x → i < code.k → chunk_of code x (slice_index code.places i) ≡ slice_index x i
own_chunk code x i is column li =
    dot_comm code.k (row_at code.rows (slice_index code.places i)) x
    ∙ dot_unit code.k i x (row_at code.rows (slice_index code.places i)) li (λ j lj. is.units i j li lj)
    ∙ mod-eq_of_lt (column.bytes i)

zero_at : (k q : ℕ) → slice_index (replicate k 0) q ≡ 0
zero_at k q = elim (cases_lt q k) [
  | inl lt ↦ get_or-replicate k q 0 0 lt
  | inr ge ↦ get_or_past (replicate k 0) q 0 (omega (arith, ge, length-replicate {A = ℕ} k 0))
]

zeros : (k : ℕ) → IsColumn k (replicate k 0)
zeros k = record { long = length-replicate {A = ℕ} k 0; bytes = λ j. subst (λ (b : ℕ). b < 2 ^ 8) (sym (zero_at k j)) (lit< tt) }

one_at : (k j : ℕ) → j < k → slice_index (put (replicate k 0) j 1) j ≡ 1
one_at k j lj = get_or-set_same (replicate k 0) j 1 0 (omega (arith, lj, length-replicate {A = ℕ} k 0))

other_at : (k j q : ℕ) → (q ≡ j → ⊥) → slice_index (put (replicate k 0) j 1) q ≡ 0
other_at k j q ne = get_or-set_other (replicate k 0) j q 1 0 ne ∙ zero_at k q

single : (k j : ℕ) → j < k → IsColumn k (put (replicate k 0) j 1)
single k j lj = record {
  long = length-set (replicate k 0) j 1 ∙ length-replicate {A = ℕ} k 0;
  bytes = λ q. elim (cases_eq q j) [
    | inl e ↦ subst (λ (b : ℕ). b < 2 ^ 8) (sym (ap (slice_index (put (replicate k 0) j 1)) e ∙ one_at k j lj)) (lit< tt)
    | inr ne ↦ subst (λ (b : ℕ). b < 2 ^ 8) (sym (other_at k j q ne)) (lit< tt)
  ];
}

-- the data positions have none
data_needs : (code : CodeRows) (set : ℕ) → IsCode code → IsDataMask code set → NeedsEach code set
data_needs code set is_code is p has by = apart at.0 at.1.0 at.1.1 where
  at : (j : ℕ) × ((j < code.k) × (slice_index code.places j ≡ p))
  at = (is p).0 has

  apart : (j : ℕ) → j < code.k → slice_index code.places j ≡ p → ⊥
  apart j lj place =
      let one = put (replicate code.k 0) j 1 in
      let other = replicate code.k 0 in
      let alike = by.agree one other (single code.k j lj) (zeros code.k) (λ q lq ne here.
      let found = (is q).0 here in
      let elsewhere : found.0 ≡ j → ⊥ = λ e. ne (sym found.1.1 ∙ ap (slice_index code.places) e ∙ place) in
      subst (λ (r : ℕ). chunk_of code one r ≡ chunk_of code other r) found.1.1
      (own_chunk code one found.0 is_code (single code.k j lj) found.1.0 ∙ other_at code.k j found.0 elsewhere
      ∙ sym (own_chunk code other found.0 is_code (zeros code.k) found.1.0 ∙ zero_at code.k found.0))) in
      let same = subst (λ (r : ℕ). chunk_of code one r ≡ chunk_of code other r) (sym place) alike in
      let no : 1 ≡ 0 = sym (own_chunk code one j is_code (single code.k j lj) lj ∙ one_at code.k j lj) ∙ same ∙ own_chunk code other j is_code (zeros code.k) lj ∙ zero_at code.k j in
      omega (arith, no)

-- the set that is read has none
pub read_needs : (code : CodeRows) (listed : List ℕ) (plan : ℕ) → IsCode code → AreBelow code.n listed → IsReadPlan code listed plan → NeedsEach code plan
read_needs code listed plan is_code below is p has by =
    let outside : LiesIn is.data_set is.given → ⊥ = λ lies. data_needs code plan is_code (subst (IsDataMask code) (sym (is.itself lies)) is.is_data) p has by in
    let least = is.least outside in
    least_needs code is.given is.data_set plan least
    (λ q here. let at = (is.is_given q).0 (least.available q here) in omega (arith, at.1.1, below at.0 0 at.1.0, is_code.few)) p has by

-- What the rows of a table settle is what the positions of its code decide.
use Rattle.std.proofs.Common.{◌≡◌, ◌<◌, ◌≤◌, ◌%◌, ◌^◌, ◌⊎◌, ℕ, List, zero, suc, slice_index, bit_xor, refl, ap, sym, ◌∙◌, arith, inl, inr, lit<}
use Rattle.std.proofs.Common.{Some, None}
use Rattle.std.specs.declared.option.Option.{Option}
use Rattle.std.specs.Prelude.{replicate, IfSome, IfNone, IsNone}
use Rattle.ec_words.specs.declared.mask.Mask.{Mask}
use Rattle.std.specs.Int.Bits.{xor_self, xor_zero_r, xor_zero_l, xor_assoc}
use Rattle.std.proofs.Math.Nat.{mod-lt}
use Rattle.std.proofs.lemmas.Nat.{pow_pos}
use Rattle.std.proofs.lemmas.Nat.Bits.{bit_at_above}
use Rattle.gf256.proofs.CallerLemmas.{field_product-sum, field_product-zero, field_product_low_right}
use Rattle.ec_matrix.proofs.CallerLemmas.{sum_below-same, sum_below-sum, sum_below-zero, dot_front}
use Rattle.ec_model.specs.Field.{field_product}
use Rattle.ec_model.specs.Rows.{dot, row_at, entry_at}
use Rattle.ec_model.specs.Codes.{CodeRows, IsCode, IsColumn, HasPosition, LiesBelow, Decides, chunk_of}
use Rattle.read_plan.specs.Plans.{LiesIn, IsLeastPlan}
use Rattle.read_plan.specs.Settling.{IsTable, Settles, IsLeastSettling}
use Rattle.read_plan.proofs.SetLemmas.{bit-of_zero, in-lt}
use Rattle.read_plan.proofs.SettlingLemmas.{line_of, line_of-at, line_of-long, line_of-byte}

zero_at : (n r : ℕ) → slice_index (replicate n 0) r ≡ 0
zero_at zero r = refl
zero_at (suc n) zero = refl
zero_at (suc n) (suc r) = zero_at n r

pub zeros_at : (n m r c : ℕ) → entry_at (replicate n (replicate m 0)) r c ≡ 0
zeros_at zero m r c = refl
zeros_at (suc n) m zero c = zero_at m c
zeros_at (suc n) m (suc r) c = zeros_at n m r c

-- a set below 2 ^ n has positions below n only
pub position_below : (n set p : ℕ) → set < 2 ^ n → HasPosition set p → p < n
position_below n set p fits has = elim (low_or_high p) [
  | inl lt ↦ lt
  | inr high ↦ absurd (bit-of_zero set p (bit_at_above set n p fits high) has)
]
  where
    low_or_high : (p : ℕ) → (p < n) ⊎ (n ≤ p)
    low_or_high p = grind arith

module _ (code : CodeRows) (rows : List (List ℕ)) (is_code : IsCode code) (table : IsTable code rows) where
  narrow : code.k ≤ 16
  narrow = omega (arith, is_code.few, is_code.as_many)

  -- the product of a table's row with a column whose first k bytes are those of another
  row_chunk : (column front : List ℕ) (p : ℕ) → p < code.n → ((j : ℕ) → j < code.k → field_product (entry_at code.rows p j) (slice_index front j) ≡ field_product (entry_at code.rows p j) (slice_index column j))
      → chunk_of code front p ≡ dot 16 (row_at rows p) column
  row_chunk column front p lt same =
      sum_below-same code.k (λ j. field_product (entry_at code.rows p j) (slice_index front j)) (λ j. field_product (entry_at rows p j) (slice_index column j))
      (λ j lj. same j lj ∙ ap (λ t. field_product t (slice_index column j)) (sym (table.inside p j lt lj)))
      ∙ dot_front 16 code.k (row_at rows p) column column narrow (λ j le. table.past p j le) (λ j lj. refl)

  -- ---- what is settled is decided

  abbrev difference : List ℕ → List ℕ → List ℕ
  difference one other = line_of code.k (λ j. bit_xor (slice_index one j) (slice_index other j))

  difference_chunk : (one other : List ℕ) (p : ℕ) → p < code.n → dot 16 (row_at rows p) (difference one other) ≡ bit_xor (chunk_of code one p) (chunk_of code other p)
  difference_chunk one other p lt =
      sym (row_chunk (difference one other) (difference one other) p lt (λ j lj. refl))
      ∙ sum_below-same code.k (λ j. field_product (entry_at code.rows p j) (slice_index (difference one other) j))
      (λ j. bit_xor (field_product (entry_at code.rows p j) (slice_index one j)) (field_product (entry_at code.rows p j) (slice_index other j)))
      (λ j lj. ap (λ t. field_product (entry_at code.rows p j) t) (line_of-at code.k (λ j. bit_xor (slice_index one j) (slice_index other j)) j lj)
      ∙ field_product-sum (entry_at code.rows p j) (slice_index one j) (slice_index other j))
      ∙ sum_below-sum code.k (λ j. field_product (entry_at code.rows p j) (slice_index one j)) (λ j. field_product (entry_at code.rows p j) (slice_index other j))

  same_by_zero : (a b : ℕ) → bit_xor a b ≡ 0 → a ≡ b
  same_by_zero a b z = sym (xor_zero_r a) ∙ ap (λ t. bit_xor a t) (sym (xor_self b)) ∙ sym (xor_assoc a b b) ∙ ap (λ t. bit_xor t b) z ∙ xor_zero_l b

  zero_by_same : (a b : ℕ) → a ≡ b → bit_xor a b ≡ 0
  zero_by_same a b e = ap (λ t. bit_xor t b) e ∙ xor_self b

  pub decides_of_settles : (from wanted : ℕ) → ((q : ℕ) → HasPosition from q → q < code.n) → Settles rows from wanted → Decides code from wanted
  decides_of_settles from wanted fits settles p lt has = record {
    agree = λ one other _ _ same.
        same_by_zero (chunk_of code one p) (chunk_of code other p)
        (sym (difference_chunk one other p lt)
        ∙ settles.zero (difference one other)
        (λ q _ at. let lq = fits q at in
        difference_chunk one other q lq ∙ zero_by_same (chunk_of code one q) (chunk_of code other q) (same q lq at))
        p (omega (arith, is_code.few)) has);
  }

  -- ---- what is decided is settled

  abbrev low : List ℕ → List ℕ
  low column = line_of code.k (λ j. slice_index column j % 2 ^ 8)

  low_is_column : (column : List ℕ) → IsColumn code.k (low column)
  low_is_column column = record {
    long = line_of-long code.k (λ j. slice_index column j % 2 ^ 8);
    bytes = λ j. line_of-byte code.k (λ j. slice_index column j % 2 ^ 8) (λ i. mod-lt (slice_index column i) (pow_pos 8)) j;
  }

  low_chunk : (column : List ℕ) (p : ℕ) → p < code.n → chunk_of code (low column) p ≡ dot 16 (row_at rows p) column
  low_chunk column p lt = row_chunk column (low column) p lt
      (λ j lj. ap (λ t. field_product (entry_at code.rows p j) t) (line_of-at code.k (λ j. slice_index column j % 2 ^ 8) j lj) ∙ field_product_low_right (entry_at code.rows p j) (slice_index column j))

  abbrev nothing : List ℕ
  nothing = line_of code.k (λ j. 0)

  nothing_is_column : IsColumn code.k nothing
  nothing_is_column = record { long = line_of-long code.k (λ j. 0); bytes = λ j. line_of-byte code.k (λ j. 0) (λ i. lit< tt) j }

  nothing_chunk : (p : ℕ) → chunk_of code nothing p ≡ 0
  nothing_chunk p = sum_below-zero code.k (λ j. field_product (entry_at code.rows p j) (slice_index nothing j))
      (λ j lj. ap (λ t. field_product (entry_at code.rows p j) t) (line_of-at code.k (λ j. 0) j lj) ∙ field_product-zero (entry_at code.rows p j))

  pub settles_of_decides : (from wanted : ℕ) → wanted < 2 ^ code.n → Decides code from wanted → Settles rows from wanted
  settles_of_decides from wanted fits decides = record {
    zero = λ column on p _ has.
        let lt = position_below code.n wanted p fits has in
        sym (low_chunk column p lt)
        ∙ (decides p lt has).agree (low column) nothing (low_is_column column) nothing_is_column
        (λ q lq at. low_chunk column q lq ∙ on q (omega (arith, is_code.few)) at ∙ sym (nothing_chunk q))
        ∙ nothing_chunk p;
  }

  -- a set that lies in one below 2 ^ n is below 2 ^ n
  inside_below : (one avail p : ℕ) → avail < 2 ^ code.n → LiesIn one avail → HasPosition one p → p < code.n
  inside_below one avail p fits inside has = position_below code.n avail p fits (inside p has)

  pub least_plan : (avail wanted found : ℕ) → avail < 2 ^ code.n → wanted < 2 ^ code.n → IsLeastSettling rows avail wanted found → IsLeastPlan code avail wanted found
  least_plan avail wanted found few fits h = record {
    available = h.available;
    decides = decides_of_settles found wanted (λ q at. inside_below found avail q few h.available at) h.settles;
    least = λ other also decides ne. h.least other also (settles_of_decides other wanted fits decides) ne;
  }

  pub least_plan_if : (avail wanted : ℕ) (found : Option Mask) → avail < 2 ^ code.n → wanted < 2 ^ code.n → IfSome found (λ set. IsLeastSettling rows avail wanted set.0)
      → IfSome found (λ set. IsLeastPlan code avail wanted set.0)
  least_plan_if avail wanted None few fits h = h
  least_plan_if avail wanted (Some set) few fits h = least_plan avail wanted set.0 few fits h

pub plan_decides_if : (code : CodeRows) (avail wanted : ℕ) (found : Option Mask) → IfSome found (λ set. IsLeastPlan code avail wanted set.0) → IfSome found (λ set. LiesIn set.0 avail × Decides code set.0 wanted)
plan_decides_if code avail wanted None h = h
plan_decides_if code avail wanted (Some set) h = (h.available, h.decides)

pub below_if : (code : CodeRows) (avail wanted : ℕ) (found : Option Mask) → avail < 2 ^ code.n → IfSome found (λ set. IsLeastPlan code avail wanted set.0) → IfSome found (λ set. LiesBelow code.n set.0)
below_if code avail wanted None fits h = h
below_if code avail wanted (Some set) fits h = in-lt set.0 avail (2 ^ code.n) fits h.available

pub none_if : (P : Type 0) (found : Option Mask) → IsNone found → IfNone found P → P
none_if P None e h = h
none_if P (Some set) e h = absurd (cc)

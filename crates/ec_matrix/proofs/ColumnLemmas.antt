-- A row reduces the columns further.
use Rattle.std.proofs.Common.{◌≡◌, ◌≢◌, ℕ, List, [], ◌+◌, ◌<◌, zero, suc, length, slice_index, bit_xor, refl, ap, sym, ◌∙◌, arith, inl, inr, ◌⊎◌, Some, None, get_or-set_same, get_or-set_other}
use Rattle.std.specs.declared.option.Option.{Option}
use Rattle.std.specs.Prelude.{replicate}
use Rattle.std.specs.Int.Bits.{xor_self}
use Rattle.std.proofs.Math.ListN.{set}
use Rattle.std.specs.Int.Bits.{xor_zero_r}
use Rattle.std.proofs.Math.Nat.{mod-eq_of_lt}
use Rattle.std.proofs.lemmas.Bool.{cases_eq}
use Rattle.ec_matrix.proofs.SumLaws.{dot-lt, dot_of_times, dot_unit}
use Rattle.ec_model.specs.Field.{field_product}
use Rattle.gf256.proofs.FieldLemmas.{field_product-zero, field_product_assoc, field_product_comm, one-field_product}
use Rattle.ec_model.specs.Rows.{dot, unit_entry, row_at}
use Rattle.ec_matrix.specs.Columns.{column_at, owner, IsReduced}

-- the last row is 0 on the free columns
pub reduced_without : (rows columns : List (List ℕ)) (owners : List (Option ℕ)) (at : ℕ) → IsReduced rows columns owners at →
    ((i : ℕ) → i < 16 → owner owners i ≡ None → dot 16 (row_at rows at) (column_at columns i) ≡ 0) → IsReduced rows columns owners (at + 1)
reduced_without rows columns owners at r zero_there = record {
  free = λ i q hi hq f. elim (last_or_before q at hq) [ inl e ↦ rw e (zero_there i hi f) | inr lt ↦ r.free i q hi lt f ];
  bound = λ i q hi o. let h = r.bound i q hi o in omega arith;
  own = r.own;
  others = r.others;
  whole = r.whole;
} where
  last_or_before : (q at : ℕ) → q < at + 1 → (q ≡ at) ⊎ (q < at)
  last_or_before q at h = grind arith

-- what a pivot makes of the columns, as any row sees them
pub record IsCleared (row : List ℕ) (columns new : List (List ℕ)) (p u : ℕ) : Type 0 where
  pub inverse : field_product (dot 16 row (column_at columns p)) u ≡ 1
  pub at_pivot : (x : List ℕ) → dot 16 x (column_at new p) ≡ field_product u (dot 16 x (column_at columns p))
  pub elsewhere : (i : ℕ) (x : List ℕ) → i < 16 → i ≢ p →
      dot 16 x (column_at new i) ≡ bit_xor (dot 16 x (column_at columns i)) (field_product (dot 16 row (column_at columns i)) (field_product u (dot 16 x (column_at columns p))))

unit_at_pivot : (row : List ℕ) (columns new : List (List ℕ)) (p u : ℕ) → IsCleared row columns new p u → field_product u (dot 16 row (column_at columns p)) ≡ 1
unit_at_pivot row columns new p u h = field_product_comm u (dot 16 row (column_at columns p)) ∙ h.inverse

zero_elsewhere : (row : List ℕ) (columns new : List (List ℕ)) (p u : ℕ) → IsCleared row columns new p u → (i : ℕ) → i < 16 → i ≢ p → dot 16 row (column_at new i) ≡ 0
zero_elsewhere row columns new p u h i hi ne =
    let v = dot 16 row (column_at columns i) in
    h.elsewhere i row hi ne
    ∙ ap (λ t. bit_xor v (field_product v t)) (unit_at_pivot row columns new p u h)
    ∙ ap (λ t. bit_xor v t) (field_product_comm v 1 ∙ one-field_product v ∙ mod-eq_of_lt (dot-lt 16 row (column_at columns i)))
    ∙ xor_self v

unchanged : (row : List ℕ) (columns new : List (List ℕ)) (p u : ℕ) → IsCleared row columns new p u → (i : ℕ) (x : List ℕ) → i < 16 → i ≢ p →
    dot 16 x (column_at columns p) ≡ 0 → dot 16 x (column_at new i) ≡ dot 16 x (column_at columns i)
unchanged row columns new p u h i x hi ne z =
    let v = dot 16 row (column_at columns i) in
    h.elsewhere i x hi ne
    ∙ ap (λ t. bit_xor (dot 16 x (column_at columns i)) (field_product v (field_product u t))) z
    ∙ ap (λ t. bit_xor (dot 16 x (column_at columns i)) (field_product v t)) (field_product-zero u)
    ∙ ap (λ t. bit_xor (dot 16 x (column_at columns i)) t) (field_product-zero v)
    ∙ xor_zero_r (dot 16 x (column_at columns i))

zero_at_pivot : (row : List ℕ) (columns new : List (List ℕ)) (p u : ℕ) → IsCleared row columns new p u → (x : List ℕ) →
    dot 16 x (column_at columns p) ≡ 0 → dot 16 x (column_at new p) ≡ 0
zero_at_pivot row columns new p u h x z = h.at_pivot x ∙ ap (λ t. field_product u t) z ∙ field_product-zero u

-- what is 0 on the new columns is 0 on the old
back_at_pivot : (row : List ℕ) (columns new : List (List ℕ)) (p u : ℕ) → IsCleared row columns new p u → (x : List ℕ) →
    dot 16 x (column_at new p) ≡ 0 → dot 16 x (column_at columns p) ≡ 0
back_at_pivot row columns new p u h x z =
    let v = dot 16 row (column_at columns p) in
    let d = dot 16 x (column_at columns p) in
    sym (mod-eq_of_lt (dot-lt 16 x (column_at columns p))) ∙ sym (one-field_product d) ∙ ap (λ t. field_product t d) (sym h.inverse)
    ∙ field_product_assoc v u d ∙ ap (λ t. field_product v t) (sym (h.at_pivot x) ∙ z) ∙ field_product-zero v

pub reduced_by : (rows columns new : List (List ℕ)) (owners : List (Option ℕ)) (at p u : ℕ) → IsReduced rows columns owners at →
    p < 16 → length owners ≡ 16 → owner owners p ≡ None → IsCleared (row_at rows at) columns new p u →
    IsReduced rows new (set owners p (Some at)) (at + 1)
reduced_by rows columns new owners at p u r hp long none h = record {
  free = λ i q hi hq f. elim (cases_eq i p) [
    | inl e ↦ absurd (never_none (sym (here i e) ∙ f))
    | inr ne ↦ elim (last_or_before q hq) [
      | inl e ↦ rw e (zero_elsewhere (row_at rows at) columns new p u h i hi ne)
      | inr lt ↦ unchanged (row_at rows at) columns new p u h i (row_at rows q) hi ne (r.free p q hp lt none) ∙ r.free i q hi lt (sym (there i ne) ∙ f)
    ]
  ];
  bound = λ i q hi o. elim (cases_eq i p) [
    | inl e ↦ let k : at ≡ q = same_value (sym (here i e) ∙ o) in omega arith
    | inr ne ↦ let k = r.bound i q hi (sym (there i ne) ∙ o) in omega arith
  ];
  own = λ i q hi o. elim (cases_eq i p) [
    | inl e ↦ let k : at ≡ q = same_value (sym (here i e) ∙ o) in
        rw (e, ← k) (h.at_pivot (row_at rows at) ∙ unit_at_pivot (row_at rows at) columns new p u h)
    | inr ne ↦
        unchanged (row_at rows at) columns new p u h i (row_at rows q) hi ne (r.others i p q hi hp (λ e. ne (sym e)) (sym (there i ne) ∙ o))
        ∙ r.own i q hi (sym (there i ne) ∙ o)
  ];
  others = λ i k q hi hk ne o. elim (cases_eq i p) [
    | inl e ↦ let s : at ≡ q = same_value (sym (here i e) ∙ o) in
        rw (← s) (zero_elsewhere (row_at rows at) columns new p u h k hk (λ d. ne (d ∙ sym e)))
    | inr np ↦
        let o' = sym (there i np) ∙ o in
        let z = r.others i p q hi hp (λ e. np (sym e)) o' in
        elim (cases_eq k p) [
          | inl e ↦ rw e (zero_at_pivot (row_at rows at) columns new p u h (row_at rows q) z)
          | inr nk ↦ unchanged (row_at rows at) columns new p u h k (row_at rows q) hk nk z ∙ r.others i k q hi hk ne o'
        ]
  ];
  whole = λ x zero j hj.
      let z = back_at_pivot (row_at rows at) columns new p u h x (zero p hp) in
      r.whole x (λ i hi. elim (cases_eq i p) [
        | inl e ↦ rw e z
        | inr ne ↦ sym (unchanged (row_at rows at) columns new p u h i x hi ne z) ∙ zero i hi
      ]) j hj;
} where
  here : (i : ℕ) → i ≡ p → owner (set owners p (Some at)) i ≡ Some at
  here i e = rw e (get_or-set_same owners p (Some at) None (omega arith))

  there : (i : ℕ) → i ≢ p → owner (set owners p (Some at)) i ≡ owner owners i
  there i ne = get_or-set_other owners p i (Some at) None ne

  never_none : (let n : Option ℕ = None in Some at ≡ n) → ⊥
  never_none e = cc

  same_value : {q : ℕ} → Some at ≡ Some q → at ≡ q
  same_value e = cc

  last_or_before : (q : ℕ) → q < at + 1 → (q ≡ at) ⊎ (q < at)
  last_or_before q hq = grind arith

-- the columns that the code makes: the pivot's is scaled, and its multiples are added to the others
pub cleared_by : (row : List ℕ) (columns new : List (List ℕ)) (scaled : List ℕ) (p u : ℕ) → p < length columns →
    field_product (dot 16 row (column_at columns p)) u ≡ 1 →
    ((j : ℕ) → j < 16 → slice_index scaled j ≡ field_product u (slice_index (column_at columns p) j)) →
    column_at new p ≡ column_at (set columns p scaled) p →
    ((i : ℕ) (x : List ℕ) → i < 16 → i ≢ p → dot 16 x (column_at new i)
    ≡ bit_xor (dot 16 x (column_at (set columns p scaled) i)) (field_product (dot 16 row (column_at (set columns p scaled) i)) (dot 16 x (column_at (set columns p scaled) p)))) →
    IsCleared row columns new p u
cleared_by row columns new scaled p u hp inverse times pivot others = record {
  inverse = inverse;
  at_pivot = λ x. ap (λ t. dot 16 x t) (pivot ∙ same) ∙ dot_of_times 16 u x (column_at columns p) scaled times;
  elsewhere = λ i x hi ne.
      let kept : column_at (set columns p scaled) i ≡ column_at columns i = get_or-set_other columns p i scaled [] ne in
      others i x hi ne
      ∙ ap (λ t. bit_xor (dot 16 x t) (field_product (dot 16 row t) (dot 16 x (column_at (set columns p scaled) p)))) kept
      ∙ ap (λ t. bit_xor (dot 16 x (column_at columns i)) (field_product (dot 16 row (column_at columns i)) t)) (ap (λ t. dot 16 x t) same ∙ dot_of_times 16 u x (column_at columns p) scaled times);
} where
  same : column_at (set columns p scaled) p ≡ scaled
  same = get_or-set_same columns p scaled [] hp

none_at : (n i : ℕ) → owner (replicate n None) i ≡ None
none_at zero i = refl
none_at (suc n) zero = refl
none_at (suc n) (suc i) = none_at n i

-- the unit columns are reduced by no row
pub reduced_at_first : (rows columns : List (List ℕ)) → ((i j : ℕ) → i < 16 → j < 16 → slice_index (column_at columns i) j ≡ unit_entry i j) →
    IsReduced rows columns (replicate 16 None) 0
reduced_at_first rows columns unit = record {
  free = λ i q hi hq f. absurd (omega arith);
  bound = λ i q hi o. absurd (never q (sym (none_at 16 i) ∙ o));
  own = λ i q hi o. absurd (never q (sym (none_at 16 i) ∙ o));
  others = λ i k q hi hk ne o. absurd (never q (sym (none_at 16 i) ∙ o));
  whole = λ x zero j hj. sym (dot_unit 16 j x (column_at columns j) hj (λ k hk. unit j k hj hk)) ∙ zero j hj;
} where
  never : (q : ℕ) → (let n : Option ℕ = None in n ≡ Some q) → ⊥
  never q e = cc

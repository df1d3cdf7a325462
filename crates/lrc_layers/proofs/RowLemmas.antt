-- Rows that layers make.
use Rattle.std.proofs.Common.{◌≡◌, ◌≢◌, ◌⊎◌, ℕ, List, [], ◌+◌, ◌<◌, ◌≤◌, length, set, refl, ap, sym, subst, ◌∙◌, arith, inl, inr}
use Rattle.std.specs.Prelude.{slice_index}
use Rattle.std.proofs.lemmas.List.{get_or-set_other, get_or_past}
use Rattle.std.proofs.lemmas.Grind.{get_or-set_at}
use Rattle.ec_model.specs.Field.{field_product}
use Rattle.ec_model.specs.Rows.{sum_below, entry_at}
use Rattle.ec_model.specs.ReedSolVan.{IsCodingEntry}
use Rattle.ec_model.specs.Lrc.{IsData, IsCoding, AreCoefficients, IsMadeBy, mark_number, layer_text, IsMadeBefore, HasInputFault, HasOutputFault}
use Rattle.gf256.proofs.CallerLemmas.{zero-field_product}
use Rattle.ec_matrix.proofs.CallerLemmas.{sum_below-same}
use Rattle.lrc_layers.proofs.CheckLemmas.{has_mark_or_not, made_or_not, made_later, up_to_next}

pub coding_entry_same : (k l m n r s j e : ℕ) → k ≡ l → m ≡ n → r ≡ s → IsCodingEntry k m r j e → IsCodingEntry l n s j e
coding_entry_same k l m n r s j e ek em er is =
    subst (λ t. IsCodingEntry l n t j e) er (subst (λ t. IsCodingEntry l t r j e) em (subst (λ t. IsCodingEntry t m r j e) ek is))

pub entry_set_at : (rows : List (List ℕ)) (row : List ℕ) (p q j : ℕ) → q ≡ p → p < length rows → entry_at (set rows p row) q j ≡ slice_index row j
entry_set_at rows row p q j e lt = ap (λ t. slice_index t j) (get_or-set_at rows p q row [] e lt)

pub entry_set_other : (rows : List (List ℕ)) (row : List ℕ) (p q j : ℕ) → q ≢ p → entry_at (set rows p row) q j ≡ entry_at rows q j
entry_set_other rows row p q j ne = ap (λ t. slice_index t j) (get_or-set_other rows p q row [] ne)

-- a sum by a layer's coefficients depends on the rows at its inputs alone
pub sum_of_inputs : (layer coefficients : List ℕ) (rows others : List (List ℕ)) (r n j : ℕ) → AreCoefficients layer r coefficients
    → ((q : ℕ) → IsData layer q → entry_at others q j ≡ entry_at rows q j)
    → sum_below n (λ q. field_product (slice_index coefficients q) (entry_at rows q j)) ≡ sum_below n (λ q. field_product (slice_index coefficients q) (entry_at others q j))
sum_of_inputs layer coefficients rows others r n j are same =
    sum_below-same n (λ q. field_product (slice_index coefficients q) (entry_at rows q j)) (λ q. field_product (slice_index coefficients q) (entry_at others q j))
    (λ q lt. elim (has_mark_or_not layer q 68) [
      | inl is ↦ ap (λ t. field_product (slice_index coefficients q) t) (sym (same q is))
      | inr other ↦
          ap (λ t. field_product t (entry_at rows q j)) (are.others q other) ∙ zero-field_product (entry_at rows q j)
          ∙ sym (ap (λ t. field_product t (entry_at others q j)) (are.others q other) ∙ zero-field_product (entry_at others q j))
    ])

-- a row stays made where it and the rows at its layer's inputs stay
pub made_still : (layer : List ℕ) (rows others : List (List ℕ)) (k p : ℕ) → IsMadeBy layer rows k p
    → ((j : ℕ) → entry_at others p j ≡ entry_at rows p j) → ((q j : ℕ) → IsData layer q → entry_at others q j ≡ entry_at rows q j) → IsMadeBy layer others k p
made_still layer rows others k p is here same = record {
  coefficients = is.coefficients;
  are = is.are;
  sums = λ j lt. here j ∙ is.sums j lt ∙ sum_of_inputs layer is.coefficients rows others (mark_number 99 layer p) (length layer) j is.are (λ q d. same q j d);
}

-- no place has two marks
pub one_mark : (text : List ℕ) (p q : ℕ) → IsCoding text p → IsData text q → q ≢ p
one_mark text p q coding is e = omega (arith, sym is ∙ ap (λ t. slice_index text t) e ∙ coding)

-- the row that is set at an output
pub made_here : (layer coefficients row : List ℕ) (rows : List (List ℕ)) (n p : ℕ) → length rows ≡ 16 → p < 16 → IsCoding layer p → n ≡ length layer
    → AreCoefficients layer (mark_number 99 layer p) coefficients
    → ((j : ℕ) → j < 16 → slice_index row j ≡ sum_below n (λ q. field_product (slice_index coefficients q) (entry_at rows q j)))
    → IsMadeBy layer (set rows p row) 16 p
made_here layer coefficients row rows n p long lt coding size are sums = record {
  coefficients = coefficients;
  are = are;
  sums = λ j lj.
      entry_set_at rows row p p j refl (omega (arith, long)) ∙ sums j lj
      ∙ sum_of_inputs layer coefficients rows (set rows p row) (mark_number 99 layer p) n j are
      (λ q is. entry_set_other rows row p q j (one_mark layer p q coding is))
      ∙ ap (λ t. sum_below t (λ q. field_product (slice_index coefficients q) (entry_at (set rows p row) q j))) size;
}

-- the rows that were made before it
pub made_already : (layer row : List ℕ) (rows : List (List ℕ)) (p q : ℕ) → q ≢ p → IsCoding layer p → IsMadeBy layer rows 16 q → IsMadeBy layer (set rows p row) 16 q
made_already layer row rows p q ne coding is =
    made_still layer rows (set rows p row) 16 q is (λ j. entry_set_other rows row p q j ne) (λ x j d. entry_set_other rows row p x j (one_mark layer p x coding d))

-- an output of a layer is not made before it, and an input is
not_output : (mapping : List ℕ) (layers : List (List ℕ)) (i p : ℕ) → i < length layers → (HasOutputFault mapping layers → ⊥) → IsMadeBefore mapping layers i p
    → IsCoding (layer_text layers i) p → ⊥
not_output mapping layers i p lt ok made coding = ok (inl (i, lt, inr (p, coding, made)))

pub input_made : (mapping : List ℕ) (layers : List (List ℕ)) (i p : ℕ) → i < length layers → (HasInputFault mapping layers → ⊥) → IsData (layer_text layers i) p
    → IsMadeBefore mapping layers i p
input_made mapping layers i p lt ok is = elim (made_or_not mapping layers i p) [
  | inl made ↦ made
  | inr unmade ↦ absurd (ok (i, lt, inr (p, is, unmade)))
]

-- an output is one of a layer that is there
pub output_inside : (layers : List (List ℕ)) (i p : ℕ) → IsCoding (layer_text layers i) p → i < length layers
output_inside layers i p is = elim (either i (length layers)) [
  | inl lt ↦ lt
  | inr past ↦ absurd (omega (arith, sym is ∙ ap (λ t. slice_index t p) (get_or_past layers i [] past)))
] where
  either : (a b : ℕ) → (a < b) ⊎ (b ≤ a)
  either a b = grind arith

-- what one layer leaves of the rows, and makes
pub record AddsLayer (layer : List ℕ) (old new : List (List ℕ)) : Type 0 where
  pub made : (p : ℕ) → IsCoding layer p → IsMadeBy layer new 16 p
  pub kept : (q j : ℕ) → (IsCoding layer q → ⊥) → entry_at new q j ≡ entry_at old q j

pub units_stay : (mapping : List ℕ) (layers old new : List (List ℕ)) (i p j : ℕ) → i < length layers → (HasOutputFault mapping layers → ⊥)
    → AddsLayer (layer_text layers i) old new → IsData mapping p → entry_at new p j ≡ entry_at old p j
units_stay mapping layers old new i p j lt outputs adds is = adds.kept p j (not_output mapping layers i p lt outputs (inl is))

-- the rows of the layers so far, with one more
pub next_layer : (mapping : List ℕ) (layers old new : List (List ℕ)) (i : ℕ) → i < length layers → (HasInputFault mapping layers → ⊥) → (HasOutputFault mapping layers → ⊥)
    → AddsLayer (layer_text layers i) old new → ((h p : ℕ) → h < i → IsCoding (layer_text layers h) p → IsMadeBy (layer_text layers h) old 16 p)
    → (h p : ℕ) → h < i + 1 → IsCoding (layer_text layers h) p → IsMadeBy (layer_text layers h) new 16 p
next_layer mapping layers old new i lt inputs outputs adds before h p lh is =
    up_to_next (λ h. IsCoding (layer_text layers h) p → IsMadeBy (layer_text layers h) new 16 p) i
    (λ h less coding. made_still (layer_text layers h) old new 16 p (before h p less coding)
    (λ j. adds.kept p j (not_output mapping layers i p lt outputs (inr (h, less, coding))))
    (λ q j d. adds.kept q j (not_output mapping layers i q lt outputs
    (made_later mapping layers h i q (omega (arith, less)) (input_made mapping layers h q (omega (arith, less, lt)) inputs d)))))
    (adds.made p) h lh is

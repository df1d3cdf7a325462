-- The code of a mapping and layers without a fault.
use Rattle.std.proofs.Common.{◌≡◌, ◌⊎◌, ℕ, List, ◌<◌, ◌≤◌, suc, zero, length, refl, ap, sym, ◌∙◌, arith, add-one, inl, inr}
use Rattle.std.specs.Prelude.{slice_index}
use Rattle.std.proofs.Math.Nat.{eq-zero-or-pos}
use Rattle.ec_model.specs.Rows.{entry_at, unit_entry}
use Rattle.ec_model.specs.Codes.{IsCode}
use Rattle.ec_model.specs.Lrc.{IsData, IsCoding, IsMadeBy, IsLrc, mark_number, data_count, layer_text}
use Rattle.ec_code.specs.Tables.{AreFullRows, code_of}
use Rattle.ec_code.proofs.TableLemmas.{code_of_table}
use Rattle.lrc_layers.specs.Layouts.{IsSound}
use Rattle.lrc_layers.proofs.TextLemmas.{more_marks, whole_count}
use Rattle.lrc_layers.proofs.CheckLemmas.{has_mark_or_not}
use Rattle.lrc_layers.proofs.MarkLemmas.{place_with}

-- where not all places have a mark, some place has another
place_without : (mark : ℕ) (text : List ℕ) (p : ℕ) → p ≤ length text → mark_number mark text p < p
    → (q : ℕ) × (q < p) × (slice_index text q ≡ mark → ⊥)
place_without mark text zero room lt = absurd (omega (arith, lt))
place_without mark text (suc p) room lt = elim (has_mark_or_not text p mark) [
  | inl is ↦ (let h = place_without mark text p (omega arith) (omega (arith, lt, ap (λ t. mark_number mark text t) (sym (add-one p)), more_marks mark text p (omega arith) is)) in (h.0, omega (arith, h.1), h.2))
  | inr other ↦ (p, omega arith, other)
]

-- there is a layer, since some position is made by one
pub some_layer : (mapping : List ℕ) (layers : List (List ℕ)) → IsSound mapping layers → 0 < length layers
some_layer mapping layers sound = elim (eq-zero-or-pos (length layers)) [
  | inr some ↦ some
  | inl none ↦
      let place = place_without 68 mapping (length mapping) (omega arith) (omega (arith, sound.whole.some_coding, whole_count 68 mapping (length mapping) refl)) in
      absurd (sound.outputs (inr (
        place.0,
        place.1,
        λ made. elim made [
          | inl is ↦ place.2 is
          | inr earlier ↦ absurd (omega (arith, none, earlier.1))
        ],
      )))
]

pub first_inputs : (mapping : List ℕ) (layers : List (List ℕ)) → IsSound mapping layers → 2 ≤ data_count (layer_text layers 0)
first_inputs mapping layers sound = elim (either (data_count (layer_text layers 0))) [
  | inl few ↦ absurd (sound.inputs (0, some_layer mapping layers sound, inl few))
  | inr enough ↦ enough
] where
  either : (n : ℕ) → (n < 2) ⊎ (2 ≤ n)
  either n = grind arith

-- the numbers of a code, its rows and its data positions, as they are made
pub record IsMade (mapping : List ℕ) (layers : List (List ℕ)) (k n lead : ℕ) (rows : List (List ℕ)) (places : List ℕ) : Type 0 where
  pub data_chunks : k ≡ data_count mapping
  pub positions : n ≡ length mapping
  pub divisor : lead ≡ data_count (layer_text layers 0)
  pub units : (p j : ℕ) → IsData mapping p → j < 16 → entry_at rows p j ≡ unit_entry (mark_number 68 mapping p) j
  pub outputs : (i p : ℕ) → IsCoding (layer_text layers i) p → IsMadeBy (layer_text layers i) rows 16 p
  pub data_places : (p : ℕ) → IsData mapping p → slice_index places (mark_number 68 mapping p) ≡ p

fewer_columns : (layer : List ℕ) (rows : List (List ℕ)) (k p : ℕ) → k ≤ 16 → IsMadeBy layer rows 16 p → IsMadeBy layer rows k p
fewer_columns layer rows k p few is = record { coefficients = is.coefficients; are = is.are; sums = λ j lt. is.sums j (omega arith) }

data_few : (mapping : List ℕ) (layers : List (List ℕ)) (k : ℕ) → IsSound mapping layers → k ≡ data_count mapping → k ≤ 16
data_few mapping layers k sound e = omega (arith, sound.whole.few, sound.whole.some_coding, e)

pub lrc_of_made : (mapping : List ℕ) (layers : List (List ℕ)) (k n lead : ℕ) (rows : List (List ℕ)) (places : List ℕ) → IsSound mapping layers
    → IsMade mapping layers k n lead rows places → IsLrc mapping layers (code_of k n lead rows places)
lrc_of_made mapping layers k n lead rows places sound is = record {
  data_chunks = is.data_chunks;
  positions = is.positions;
  divisor = is.divisor;
  places = is.data_places;
  units = λ p j d lt. is.units p j d (omega (arith, lt, data_few mapping layers k sound is.data_chunks));
  outputs = λ i p c. fewer_columns (layer_text layers i) rows k p (data_few mapping layers k sound is.data_chunks) (is.outputs i p c);
}

-- the place of a data chunk
pub place_of : (mapping : List ℕ) (k j : ℕ) → k ≡ data_count mapping → j < k → (q : ℕ) × (q < length mapping) × IsData mapping q × (mark_number 68 mapping q ≡ j)
place_of mapping k j e lt = place_with 68 mapping j (length mapping) (omega arith) (omega (arith, e, lt, whole_count 68 mapping (length mapping) refl))

pub code_of_made : (mapping : List ℕ) (layers : List (List ℕ)) (k n lead : ℕ) (rows : List (List ℕ)) (places : List ℕ) → AreFullRows rows → IsSound mapping layers
    → IsMade mapping layers k n lead rows places → IsCode (code_of k n lead rows places)
code_of_made mapping layers k n lead rows places are sound is = code_of_table k n lead rows places are
    (omega (arith, is.data_chunks, sound.whole.some_data))
    (omega (arith, is.data_chunks, is.positions, sound.whole.some_coding))
    (omega (arith, is.positions, sound.whole.few))
    (omega (arith, is.divisor, first_inputs mapping layers sound))
    (λ j lt.
    let at = place_of mapping k j is.data_chunks lt in
    omega (arith, at.1, is.positions, ap (λ t. slice_index places t) (sym at.3) ∙ is.data_places at.0 at.2))
    (λ i j li lj.
    let at = place_of mapping k i is.data_chunks li in
    ap (λ t. entry_at rows t j) (ap (λ t. slice_index places t) (sym at.3) ∙ is.data_places at.0 at.2)
    ∙ is.units at.0 j at.2 (omega (arith, lj, data_few mapping layers k sound is.data_chunks))
    ∙ ap (λ t. unit_entry t j) at.3)

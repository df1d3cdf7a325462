-- What is asked of a mapping and its layers.
use Rattle.std.proofs.Common.{◌≡◌, ◌⊎◌, ℕ, List, ◌+◌, ◌<◌, ◌≤◌, suc, zero, length, ap, sym, subst, ◌∙◌, arith, add-one, inl, inr}
use Rattle.std.proofs.lemmas.Bool.Decides.{eqb_tells}
use Rattle.std.specs.Prelude.{slice_index}
use Rattle.ec_model.specs.Lrc.{layer_text, IsCoding, IsMadeBefore, HasLengthFault}
use Rattle.ec_code.specs.declared.mapping.Layer.{Layer}
use Rattle.ec_code.specs.declared.mapping.Layers.{Layers}
use Rattle.ec_code.specs.LrcFaults.{text_of_layer, layer_texts}
use Rattle.ec_code.proofs.LayoutLemmas.{length_of_text}
use Rattle.lrc_layers.proofs.TextLemmas.{length_of_texts, mark_past}

pub same_length : (mapping : List ℕ) (layers : List (List ℕ)) (i : ℕ) → i < length layers → (HasLengthFault mapping layers → ⊥) → length (layer_text layers i) ≡ length mapping
same_length mapping layers i lt ok = elim (eqb_tells (length (layer_text layers i)) (length mapping)) [
  | inl same ↦ same.1
  | inr other ↦ absurd (ok (i, lt, other.1))
]

-- the layers are as short as the mapping
pub short_layer : (mapping : Layer) (layers : Layers) (i : ℕ) (layer : Layer) → text_of_layer layer ≡ layer_text (layer_texts layers) i → i < layers.count
    → (HasLengthFault (text_of_layer mapping) (layer_texts layers) → ⊥) → layer.len ≡ mapping.len
short_layer mapping layers i layer e lt ok =
    sym (length_of_text layer.first layer.len) ∙ ap (λ t. length t) e
    ∙ same_length (text_of_layer mapping) (layer_texts layers) i (omega (arith, length_of_texts layers)) ok
    ∙ length_of_text mapping.first mapping.len

-- what holds below i, and at i
last_or_below : (p i : ℕ) → p < i + 1 → (p ≡ i) ⊎ (p < i)
last_or_below p i lt = grind arith

pub up_to_next : (P : ℕ → Type 0) (i : ℕ) → ((g : ℕ) → g < i → P g) → P i → (g : ℕ) → g < i + 1 → P g
up_to_next P i before here g lt = elim (last_or_below g i lt) [ inl e ↦ subst P (sym e) here | inr below ↦ before g below ]

pub same_len : (layer mapping : Layer) (text : List ℕ) → text_of_layer layer ≡ text → length text ≡ length (text_of_layer mapping) → layer.len ≡ mapping.len
same_len layer mapping text e same =
    sym (length_of_text layer.first layer.len) ∙ ap (λ t. length t) e ∙ same ∙ length_of_text mapping.first mapping.len

pub layer_is_short : (mapping : Layer) (layers : Layers) (i : ℕ) → i < layers.count → (HasLengthFault (text_of_layer mapping) (layer_texts layers) → ⊥)
    → mapping.len ≤ 16 → length (layer_text (layer_texts layers) i) ≤ 16
layer_is_short mapping layers i lt ok few =
    omega (arith, same_length (text_of_layer mapping) (layer_texts layers) i (omega (arith, length_of_texts layers)) ok, length_of_text mapping.first mapping.len)

-- a mark stands within its text
pub marked_below : (text : List ℕ) (p mark n : ℕ) → 0 < mark → length text ≤ n → slice_index text p ≡ mark → p < n
marked_below text p mark n some le e = elim (below_or_past p n) [
  | inl lt ↦ lt
  | inr past ↦ absurd (omega (arith, some, sym e ∙ mark_past text p (omega arith)))
] where
  below_or_past : (p n : ℕ) → (p < n) ⊎ (n ≤ p)
  below_or_past p n = grind arith

pub has_mark_or_not : (text : List ℕ) (p mark : ℕ) → (slice_index text p ≡ mark) ⊎ (slice_index text p ≡ mark → ⊥)
has_mark_or_not text p mark = elim (eqb_tells (slice_index text p) mark) [ inl e ↦ inl e.1 | inr e ↦ inr e.1 ]

-- a position that is made before a layer is made before the next one
pub made_later : (mapping : List ℕ) (layers : List (List ℕ)) (h i p : ℕ) → h ≤ i → IsMadeBefore mapping layers h p → IsMadeBefore mapping layers i p
made_later mapping layers h i p le (inl is) = inl is
made_later mapping layers h i p le (inr (g, lt, is)) = inr (g, omega arith, is)

-- what is made before the next layer is made before this one, or is its output
pub made_earlier : (mapping : List ℕ) (layers : List (List ℕ)) (i p : ℕ) → IsMadeBefore mapping layers (i + 1) p
    → IsMadeBefore mapping layers i p ⊎ IsCoding (layer_text layers i) p
made_earlier mapping layers i p (inl is) = inl (inl is)
made_earlier mapping layers i p (inr (h, lt, is)) = elim (last_or_below h i lt) [
  | inl e ↦ inr (ap (λ t. slice_index (layer_text layers t) p) (sym e) ∙ is)
  | inr below ↦ inl (inr (h, below, is))
]

-- a position is made before a layer, or it isn't
pub made_or_not : (mapping : List ℕ) (layers : List (List ℕ)) (i p : ℕ) → IsMadeBefore mapping layers i p ⊎ (IsMadeBefore mapping layers i p → ⊥)
made_or_not mapping layers zero p = elim (has_mark_or_not mapping p 68) [
  | inl is ↦ inl (inl is)
  | inr unmarked ↦ inr (λ made. elim made [ inl is ↦ unmarked is | inr earlier ↦ absurd (omega (arith, earlier.1)) ])
]
made_or_not mapping layers (suc i) p =
    let P : ℕ → Type 0 = λ t. IsMadeBefore mapping layers t p ⊎ (IsMadeBefore mapping layers t p → ⊥) in
    subst P (add-one i) (elim (made_or_not mapping layers i p) [
      | inl made ↦ inl (made_later mapping layers i (i + 1) p (omega arith) made)
      | inr unmade ↦ elim (has_mark_or_not (layer_text layers i) p 99) [
        | inl is ↦ inl (inr (i, omega arith, is))
        | inr neither ↦ inr (λ made. elim (made_earlier mapping layers i p made) [ inl before ↦ unmade before | inr is ↦ neither is ])
      ]
    ])

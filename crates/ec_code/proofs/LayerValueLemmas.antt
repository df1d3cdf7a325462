-- Mappings and layers are told by the texts that they are of.
use Rattle.std.proofs.Common.{◌≡◌, ◌⊎◌, ℕ, List, [], ◌∷◌, ◌++◌, ◌+◌, ◌<◌, ◌≤◌, length, get_or, refl, ap, sym, subst, ◌∙◌, arith, inl, inr}
use Rattle.std.specs.Prelude.{◌==◌, if◌then◌else◌, slice_index, slice_index_or, slice_set}
use Rattle.std.proofs.lemmas.Bool.{eq-eqb, ne_eqb}
use Rattle.std.proofs.Math.Bridge.{le_prop}
use Rattle.std.proofs.Math.Seq.{get_or-append_seam}
use Rattle.std.proofs.lemmas.List.{same_lists, get_or_past, get_or_default, get_or_append_left, length-append, length-set, get_or-set_same, get_or-set_other}
use Rattle.std.proofs.lemmas.Grind.{same_number_lists}
use Rattle.std.proofs.lemmas.List.FromFn.{get_or-map-range_with_len, length-map-range_with_len}
use Rattle.ec_code.specs.declared.mapping.Layer.{Layer}
use Rattle.ec_code.specs.declared.mapping.Layers.{Layers}
use Rattle.ec_code.specs.LayerValues.{front_of, layer_value, layers_value}
use Rattle.ec_code.specs.Mappings.{IsFront, IsLayer, layer_at, no_layer}

pub front_is : (text first : List ℕ) → IsFront text first → first ≡ front_of text
front_is text first is =
    same_number_lists first (front_of text) (is.long ∙ sym (length-map-range_with_len (slice_index text) 0 16))
    (λ k lt. is.same k (omega (arith, lt, is.long)) ∙ sym (get_or-map-range_with_len (slice_index text) 0 16 k k 0 (omega (arith, lt, is.long)) (omega arith)))

pub layer_is : (text : List ℕ) (layer : Layer) → IsLayer text layer → layer ≡ layer_value text
layer_is text layer is =
    ap (λ first. record { first = first; len = layer.len }) (front_is text layer.first is.front)
    ∙ ap (λ len. record { first = front_of text; len = len }) is.len

-- what is kept at place i of some texts
abbrev each_of : List (List ℕ) → ℕ → Layer
each_of texts i = layer_value (slice_index_or texts i [])

sides : (a b : ℕ) → (a < b) ⊎ ((a ≡ b) ⊎ (b < a))
sides a b = grind arith

abbrev make : (count : ℕ) (each : List Layer) → count ≤ 16 → Layers
make count each few = record { count = count; each = each; few = few }

same_count : (c d : ℕ) (each : List Layer) (few : c ≤ 16) → c ≡ d → (less : d ≤ 16) → make c each few ≡ make d each less
same_count c d each few e = subst (λ (n : ℕ). (less : n ≤ 16) → make c each few ≡ make n each less) e (λ less. ap (make c each) (le_prop few less))

same_layers : (a b : Layers) → a.count ≡ b.count → a.each ≡ b.each → a ≡ b
same_layers a b count each = ap (λ e. make a.count e a.few) each ∙ same_count a.count b.count b.each a.few count b.few

kept_at : (texts : List (List ℕ)) (layers : Layers) (k : ℕ) → layers ≡ layers_value texts → k < 16 → layer_at layers.each k ≡ each_of texts k
kept_at texts layers k is lt = ap (λ l. layer_at l.each k) is ∙ get_or-map-range_with_len (each_of texts) 0 16 k k no_layer lt (omega arith)

added_at : (texts : List (List ℕ)) (text : List ℕ) (k : ℕ) → (k < length texts) ⊎ ((k ≡ length texts) ⊎ (length texts < k))
    → slice_index_or (texts ++ text ∷ []) k [] ≡ (if k == length texts then text else slice_index_or texts k [])
added_at texts text k (inl less) = rw (ne_eqb k (length texts) (λ e. omega (arith, e, less))) (get_or_append_left texts (text ∷ []) [] k less)
added_at texts text k (inr (inl same)) = rw (eq-eqb k (length texts) same) (ap (λ i. get_or (texts ++ text ∷ []) i []) same ∙ get_or-append_seam texts text [] [])
added_at texts text k (inr (inr more)) =
    rw (ne_eqb k (length texts) (λ e. omega (arith, e, more)))
    (get_or_past (texts ++ text ∷ []) k [] (omega (arith, more, length-append texts (text ∷ []))) ∙ sym (get_or_past texts k [] (omega (arith, more))))

module _ (texts : List (List ℕ)) (text : List ℕ) (old new : Layers) (is : old ≡ layers_value texts) (few : length texts < 16) (long : length new.each ≡ 16)
    (count : new.count ≡ old.count + 1) (layer : IsLayer text (layer_at new.each old.count)) (kept : (i : ℕ) → (i ≡ old.count → ⊥) → layer_at new.each i ≡ layer_at old.each i) where
  old_count : old.count ≡ length texts
  old_count = omega (arith, ap (λ l. l.count) is)

  place : (k : ℕ) → k < 16 → (k < length texts) ⊎ ((k ≡ length texts) ⊎ (length texts < k)) → layer_at new.each k ≡ each_of (texts ++ text ∷ []) k
  place k lt (inr (inl same)) =
      let here : k ≡ old.count = omega (arith, same, old_count) in
      ap (λ i. layer_at new.each i) here ∙ layer_is text (layer_at new.each old.count) layer
      ∙ ap layer_value (sym (added_at texts text k (inr (inl same)) ∙ rw (eq-eqb k (length texts) same) refl))
  place k lt (inl less) =
      kept k (λ e. omega (arith, e, less, old_count)) ∙ kept_at texts old k is lt
      ∙ ap layer_value (sym (added_at texts text k (inl less) ∙ rw (ne_eqb k (length texts) (λ e. omega (arith, e, less))) refl))
  place k lt (inr (inr more)) =
      kept k (λ e. omega (arith, e, more, old_count)) ∙ kept_at texts old k is lt
      ∙ ap layer_value (sym (added_at texts text k (inr (inr more)) ∙ rw (ne_eqb k (length texts) (λ e. omega (arith, e, more))) refl))

  pub layers_added : new ≡ layers_value (texts ++ text ∷ [])
  layers_added =
      same_layers new (layers_value (texts ++ text ∷ []))
      (omega (arith, count, old_count, few, length-append texts (text ∷ [])))
      (same_lists new.each (layers_value (texts ++ text ∷ [])).each (long ∙ sym (length-map-range_with_len (each_of (texts ++ text ∷ [])) 0 16))
      (λ k d lt. get_or_default new.each k d no_layer lt ∙ place k (omega (arith, lt, long)) (sides k (length texts))
      ∙ sym (get_or-map-range_with_len (each_of (texts ++ text ∷ [])) 0 16 k k d (omega (arith, lt, long)) (omega arith))))

pub layers_set : (texts : List (List ℕ)) (text : List ℕ) (old : Layers) (layer : Layer) (few : old.count + 1 ≤ 16) → old ≡ layers_value texts → length texts < 16 → IsLayer text layer
    → ◌≡◌ {A = Layers} (record { count = old.count + 1; each = slice_set old.each old.count layer; few = few }) (layers_value (texts ++ text ∷ []))
layers_set texts text old layer few is less is_layer =
    let long : length old.each ≡ 16 = ap (λ l. length l.each) is ∙ length-map-range_with_len (each_of texts) 0 16 in
    layers_added texts text old (record { count = old.count + 1; each = slice_set old.each old.count layer; few = few }) is less
    (length-set old.each old.count layer ∙ long) refl
    (subst (λ l. IsLayer text l) (sym (get_or-set_same old.each old.count layer no_layer (omega (arith, few, long)))) is_layer)
    (λ i ne. get_or-set_other old.each old.count i layer no_layer ne)

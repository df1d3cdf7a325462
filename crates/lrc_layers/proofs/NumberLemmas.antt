-- The mapping and the layers that three numbers make.
use Rattle.std.proofs.Common.{◌≡◌, ◌⊎◌, ℕ, List, ◌∷◌, ◌+◌, ◌*◌, ◌<◌, ◌≤◌, suc, zero, length, take, get_or, map, ap, sym, ◌∙◌, arith, add-one, inl, inr}
use Rattle.std.specs.Prelude.{slice_index}
use Rattle.std.specs.List.{range_with_len}
use Rattle.std.proofs.Math.Nat.{suc-mul}
use Rattle.std.proofs.lemmas.List.{length-take-le, get_or-take}
use Rattle.std.proofs.lemmas.List.{same_lists}
use Rattle.std.proofs.lemmas.Grind.{same_number_lists}
use Rattle.std.proofs.lemmas.List.FromFn.{get_or-map-range_with_len, length-map-range_with_len}
use Rattle.ec_model.specs.Lrc.{data_count, group_count, position_count, MakesGroups, mapping_of}
use Rattle.ec_code.specs.declared.mapping.Layer.{Layer}
use Rattle.ec_code.specs.declared.mapping.Mapping.{Mapping}
use Rattle.ec_code.specs.declared.mapping.Layers.{Layers}
use Rattle.ec_code.specs.Mappings.{IsFront, IsLayer, layer_at}
use Rattle.ec_code.specs.LrcFaults.{data_chunks_of, text_of, mapping_text, text_of_layer, layer_texts}
use Rattle.ec_code.proofs.LayoutLemmas.{counted, uncounted, mark_of_made, length_of_text, length_of_made, data_of_made, shares_evenly}
use Rattle.lrc_layers.specs.Layouts.{IsMapping}
use Rattle.lrc_layers.proofs.TextLemmas.{mark_inside, length_of_texts}

-- a text of at most 16 characters is kept whole
pub kept_whole : (text first : List ℕ) (len : ℕ) → IsFront text first → len ≡ length text → length text ≤ 16 → text_of first len ≡ text
kept_whole text first len front e few =
    same_number_lists (text_of first len) text (length_of_text first len ∙ e)
    (λ k lt. mark_inside first len k (inside k lt) ∙ front.same k (omega (arith, inside k lt)))
  where
    inside : (k : ℕ) → k < length (text_of first len) → k < len
    inside k lt = omega (arith, lt, length_of_text first len)

pub counted_whole : (text : List ℕ) (m : Mapping) → IsFront text m.first → m.len ≡ length text → m.data_chunks ≡ data_count text → data_chunks_of m ≡ data_count text
counted_whole text m front e count = elim (either 16 m.len) [
  | inl long ↦ uncounted m long ∙ count
  | inr short ↦ counted m short ∙ ap (λ t. data_count t) (kept_whole text m.first m.len front e (omega (arith, e, short)))
] where
  either : (a b : ℕ) → (a < b) ⊎ (b ≤ a)
  either a b = grind arith

-- the first marks that are made position by position
pub made_marks : (f : ℕ → ℕ) (marks : List ℕ) (n : ℕ) → length marks ≡ 16 → n ≤ 16 → ((p : ℕ) → p < n → slice_index marks p ≡ f p)
    → take n marks ≡ map f (range_with_len 0 n)
made_marks f marks n long few each =
    same_number_lists (take n marks) (map f (range_with_len 0 n)) (size ∙ sym (length-map-range_with_len f 0 n))
    (λ k lt. get_or-take n marks k 0 (inside k lt) ∙ each k (inside k lt) ∙ sym (mark_of_made f n k (inside k lt)))
  where
    size : length (take n marks) ≡ n
    size = length-take-le n marks (omega (arith, long))

    inside : (k : ℕ) → k < length (take n marks) → k < n
    inside k lt = omega (arith, lt, size)

pub made_text : (f : ℕ → ℕ) (marks first : List ℕ) (n len : ℕ) → IsFront (take n marks) first → len ≡ length (take n marks) → length marks ≡ 16 → n ≤ 16
    → ((p : ℕ) → p < n → slice_index marks p ≡ f p) → text_of first len ≡ map f (range_with_len 0 n)
made_text f marks first n len front e long few each =
    let same = made_marks f marks n long few each in
    kept_whole (take n marks) first len front e (omega (arith, ap (λ t. length t) same ∙ length-map-range_with_len f 0 n)) ∙ same

-- the text of a layer that was added at place i
pub text_of_added : (f : ℕ → ℕ) (marks : List ℕ) (n : ℕ) (each : List Layer) (i j : ℕ) → i ≡ j → IsLayer (take n marks) (layer_at each i) → length marks ≡ 16 → n ≤ 16
    → ((p : ℕ) → p < n → slice_index marks p ≡ f p) → text_of_layer (layer_at each j) ≡ map f (range_with_len 0 n)
text_of_added f marks n each i j e is long few value =
    ap (λ t. text_of_layer (layer_at each t)) (sym e)
    ∙ made_text f marks (layer_at each i).first n (layer_at each i).len is.front is.len long few value

pub made_layers : (layers : Layers) (first : List ℕ) (others : ℕ → List ℕ) (g : ℕ) → layers.count ≡ g + 1 → text_of_layer (layer_at layers.each 0) ≡ first
    → ((h : ℕ) → h < g → text_of_layer (layer_at layers.each (h + 1)) ≡ others h) → layer_texts layers ≡ first ∷ map others (range_with_len 0 g)
made_layers layers first others g count start each =
    same_lists (layer_texts layers) (first ∷ map others (range_with_len 0 g))
    (length_of_texts layers ∙ count ∙ add-one g ∙ ap (λ t. suc t) (sym (length-map-range_with_len others 0 g)))
    (λ k d lt. at k d (omega (arith, lt, length_of_texts layers)))
  where
    at : (k : ℕ) (d : List ℕ) → k < layers.count → get_or (layer_texts layers) k d ≡ get_or (first ∷ map others (range_with_len 0 g)) k d
    at zero d lt = get_or-map-range_with_len (λ i. text_of_layer (layer_at layers.each i)) 0 layers.count 0 0 d lt (omega arith) ∙ start
    at (suc h) d lt =
        get_or-map-range_with_len (λ i. text_of_layer (layer_at layers.each i)) 0 layers.count (suc h) (suc h) d lt (omega arith)
        ∙ ap (λ t. text_of_layer (layer_at layers.each t)) (sym (add-one h)) ∙ each h (omega (arith, lt, count))
        ∙ sym (get_or-map-range_with_len others 0 g h h d (omega (arith, lt, count)) (omega arith))

either : (a b : ℕ) → (a < b) ⊎ (b ≤ a)
either a b = grind arith

-- numbers that make groups make at most 16 positions, in groups of no more chunks than there are
pub positions_few : (k m l : ℕ) → MakesGroups k m l → position_count k m l ≤ 16
positions_few k m l is = elim (either 16 (position_count k m l)) [
  | inl many ↦ absurd (is.few ((shares_evenly k m l is.even).some, many))
  | inr few ↦ few
]

pub group_small : (k m l : ℕ) → MakesGroups k m l → l ≤ k + m
group_small k m l is = divides (group_count k m l) (shares_evenly k m l is.even).whole where
  divides : (g : ℕ) → g * l ≡ k + m → l ≤ k + m
  divides zero e = absurd (omega (arith, e, is.some_data))
  divides (suc g) e = omega (arith, sym (suc-mul g l) ∙ e)

pub made_len : (mapping : Mapping) (k m l : ℕ) → mapping_text mapping ≡ mapping_of k m l → mapping.len ≡ position_count k m l
made_len mapping k m l e = sym (length_of_text mapping.first mapping.len) ∙ ap (λ t. length t) e ∙ length_of_made k m l

pub made_mapping : (k m l : ℕ) → MakesGroups k m l → IsMapping (mapping_of k m l)
made_mapping k m l is =
    let data_chunks = data_of_made k m l is.some_data is.even in
    let positions = length_of_made k m l in
    record {
      few = omega (arith, positions, positions_few k m l is);
      some_data = omega (arith, data_chunks, is.some_data);
      some_coding = omega (arith, data_chunks, positions, is.some_coding);
    }

-- What is kept of a mapping and of layers of at most 16 characters is all of them.
use Rattle.std.proofs.Common.{◌≡◌, ℕ, List, [], ◌<◌, ◌≤◌, length, min, ap, ◌∙◌, arith}
use Rattle.std.specs.Prelude.{slice_index, slice_index_or}
use Rattle.std.proofs.lemmas.List.{same_lists, get_or_default}
use Rattle.std.proofs.lemmas.List.FromFn.{get_or-map-range_with_len, length-map-range_with_len}
use Rattle.ec_code.specs.declared.mapping.Layers.{Layers}
use Rattle.ec_code.specs.LayerValues.{front_of, mapping_value, layer_value, layers_value}
use Rattle.ec_code.specs.LrcFaults.{text_of, mapping_text, text_of_layer, layer_texts}
use Rattle.ec_code.specs.Mappings.{no_layer, layer_at}
use Rattle.ec_code.proofs.LayoutLemmas.{length_of_text}

pub front_back : (text : List ℕ) → length text ≤ 16 → text_of (front_of text) (length text) ≡ text
front_back text few =
    let long = length_of_text (front_of text) (length text) in
    same_lists (text_of (front_of text) (length text)) text long (λ p d lt.
    get_or-map-range_with_len (λ q. slice_index (front_of text) q) 0 (length text) p p d (omega (arith, lt, long)) (omega arith)
    ∙ get_or-map-range_with_len (slice_index text) 0 16 p p 0 (omega (arith, lt, long, few)) (omega arith)
    ∙ get_or_default text p 0 d (omega (arith, lt, long)))

-- the mapping of a text has that text
pub mapping_back : (text : List ℕ) → length text ≤ 16 → mapping_text (mapping_value text) ≡ text
mapping_back text few = front_back text few

-- no text is longer than 16 characters
abbrev pub AreShort : List (List ℕ) → Type 0
AreShort texts = (i : ℕ) → i < length texts → length (slice_index_or texts i []) ≤ 16

pub layer_value_at : (texts : List (List ℕ)) (i : ℕ) → i < 16 → layer_at (layers_value texts).each i ≡ layer_value (slice_index_or texts i [])
layer_value_at texts i lt = get_or-map-range_with_len (λ i. layer_value (slice_index_or texts i [])) 0 16 i i no_layer lt (omega arith)

-- the layers of at most 16 short texts have those texts
pub layer_texts_back : (texts : List (List ℕ)) → length texts ≤ 16 → AreShort texts → layer_texts (layers_value texts) ≡ texts
layer_texts_back texts few short =
    let long : length (layer_texts (layers_value texts)) ≡ min (length texts) 16 =
    length-map-range_with_len (λ i. text_of_layer (layer_at (layers_value texts).each i)) 0 (min (length texts) 16) in
    same_lists (layer_texts (layers_value texts)) texts (omega (arith, long, few)) (λ i d lt.
    get_or-map-range_with_len (λ i. text_of_layer (layer_at (layers_value texts).each i)) 0 (min (length texts) 16) i i d (omega (arith, lt, long)) (omega arith)
    ∙ ap text_of_layer (layer_value_at texts i (omega (arith, lt, long)))
    ∙ front_back (slice_index_or texts i []) (short i (omega (arith, lt, long)))
    ∙ get_or_default texts i [] d (omega (arith, lt, long)))

-- there are at most 16 layers
pub few_layers : (layers : Layers) → length (layer_texts layers) ≤ 16
few_layers layers =
    let few = layers.few in
    let long = length-map-range_with_len (λ i. text_of_layer (layer_at layers.each i)) 0 layers.count in
    omega (arith, few, long)

-- The text of layers is read as those layers.
use Rattle.std.proofs.Common.{◌≡◌, ℕ, true, cond, List, [], ◌∷◌, ◌++◌, ◌≤◌, length, Some, None, option_map, option_and_then, refl, ap, sym, ◌∙◌, arith, append-nil}
use Rattle.std.specs.Prelude.{codes, nat_lt}
use Rattle.std.specs.List.{list_all}
use Rattle.std.specs.Str.{is_utf8}
use Rattle.std.proofs.lemmas.List.{append_assoc}
use Rattle.std.proofs.lemmas.Bool.{and_parts, and_from, le-leb}
use Rattle.std.proofs.lemmas.Str.{is_utf8-from_IsUtf8}
use Rattle.json.specs.Lex.{tokens}
use Rattle.json.specs.Print.{escape, escape_byte}
use Rattle.json.specs.Json as json
use Rattle.json.specs.Tree as tree
use Rattle.json.proofs.Printed.Tokens.{tokens-print}
use Rattle.json.proofs.Printed.Trees.{value-json_tokens, ArePrintable-json_tokens}
use Rattle.json.proofs.Printed.Utf8.{are_ascii, IsUtf8-are_ascii}
use Rattle.serde_json.specs.Data.{Data, string, array, Items, no_items, item}
use Rattle.serde_json.specs.Events.{items_len}
use Rattle.serde_json.specs.Find.{as_array}
use Rattle.serde_json.specs.Read.{read, of_json, of_items, max_depth}
use Rattle.serde_json.specs.Written.{items_outline, compact_text, items_text}
use Rattle.serde_json.proofs.Texts.{print-outline}
use Rattle.ec_code.specs.LayerTexts.{is_mark, layer_of_value, each_layer, layers_of_items, layers_of_json, layers_of_text}
use Rattle.ec_code.proofs.LayerTextLemmas.{item_text, more_texts, array_text, AreMarks, by_mark, array_stays, array_all}

-- a layer as a value, and layers as items
abbrev pub layer_data : List ℕ → Data
layer_data layer = array (item (string layer) (item (string []) no_items))

abbrev pub layer_items : List (List ℕ) → Items
layer_items [] = no_items
layer_items (layer ∷ layers) = item (layer_data layer) (layer_items layers)

-- marks need no escape
mark_alone : (b : ℕ) → is_mark b ≡ true → escape_byte b ≡ b ∷ []
unfolding escape_byte
mark_alone b e = by_mark (λ b. escape_byte b ≡ b ∷ []) refl refl refl b e

marks_alone : (text : List ℕ) → list_all is_mark text ≡ true → escape text ≡ text
marks_alone [] e = refl
marks_alone (b ∷ text) e =
    let both = and_parts (is_mark b) (list_all is_mark text) e in
    ap (λ t. t ++ escape text) (mark_alone b both.0) ∙ ap (λ t. b ∷ t) (marks_alone text both.1)

-- the compact text of a layer's value is the item, and that of all layers the array
item_compact : (layer : List ℕ) → list_all is_mark layer ≡ true → compact_text (layer_data layer) ≡ item_text layer
item_compact layer e =
    ap (λ t. 91 ∷ 34 ∷ ((t ++ 34 ∷ []) ++ codes ",\"\"]")) (marks_alone layer e)
    ∙ ap (λ t. 91 ∷ 34 ∷ t) (append_assoc layer (34 ∷ []) (codes ",\"\"]"))

more_compact : (layers : List (List ℕ)) → AreMarks layers → items_text true (layer_items layers) ≡ more_texts layers ++ 93 ∷ []
more_compact [] are = refl
more_compact (layer ∷ layers) are =
    ap (λ t. 44 ∷ (t ++ items_text true (layer_items layers))) (item_compact layer are.0)
    ∙ ap (λ t. 44 ∷ (item_text layer ++ t)) (more_compact layers are.1)
    ∙ ap (λ t. 44 ∷ t) (sym (append_assoc (item_text layer) (more_texts layers) (93 ∷ [])))

array_compact : (layers : List (List ℕ)) → AreMarks layers → compact_text (array (layer_items layers)) ≡ array_text layers
array_compact [] are = refl
array_compact (layer ∷ layers) are =
    ap (λ t. 91 ∷ (t ++ items_text true (layer_items layers))) (item_compact layer are.0)
    ∙ ap (λ t. 91 ∷ (item_text layer ++ t)) (more_compact layers are.1)

-- the values of layers have no numbers, and are not deep
items_plain : (layers : List (List ℕ)) → tree.ItemsHaveNumbers (items_outline (layer_items layers))
items_plain [] = tt
items_plain (layer ∷ layers) = ((tt, (tt, tt)), items_plain layers)

items_shallow : (layers : List (List ℕ)) → tree.items_depth (items_outline (layer_items layers)) ≤ 1
items_shallow [] = omega arith
items_shallow (layer ∷ layers) = let rest = items_shallow layers in omega (arith, rest)

items_back : (layers : List (List ℕ)) → of_items (items_outline (layer_items layers)) ≡ Some (layer_items layers)
items_back [] = refl
items_back (layer ∷ layers) = ap (option_map (item (layer_data layer))) (items_back layers)

-- the text is read as the value
array_read : (layers : List (List ℕ)) → AreMarks layers → read (array_text layers) ≡ Some (array (layer_items layers))
array_read layers are =
    let j = json.array (items_outline (layer_items layers)) in
    let same : tokens (array_text layers) ≡ tree.json_tokens j ++ [] =
    ap tokens (sym (array_compact layers are) ∙ sym (print-outline (array (layer_items layers))))
    ∙ tokens-print (tree.json_tokens j) (ArePrintable-json_tokens j (items_plain layers))
    ∙ sym (append-nil (tree.json_tokens j)) in
    ap (λ o. option_and_then of_json (option_and_then (λ p. json.if_last p.0 p.1) o))
    (ap (json.value max_depth) same ∙ value-json_tokens j max_depth [] (let shallow = items_shallow layers in omega (arith, shallow)))
    ∙ ap (option_map array) (items_back layers)

-- the value has those layers
layer_back : (layer : List ℕ) → list_all is_mark layer ≡ true → layer_of_value (layer_data layer) ≡ Some layer
layer_back layer e = ap (λ b. cond b (Some layer) None) e

each_back : (layers : List (List ℕ)) → AreMarks layers → each_layer (layer_items layers) ≡ Some layers
each_back [] are = refl
each_back (layer ∷ layers) are =
    ap (option_and_then (λ one. option_map (λ rest. one ∷ rest) (each_layer (layer_items layers)))) (layer_back layer are.0)
    ∙ ap (option_map (λ rest. layer ∷ rest)) (each_back layers are.1)

items_len_back : (layers : List (List ℕ)) → items_len (layer_items layers) ≡ length layers
items_len_back [] = refl
items_len_back (layer ∷ layers) = omega (arith, items_len_back layers)

items_are : (layers : List (List ℕ)) → AreMarks layers → length layers ≤ 16 → layers_of_items (layer_items layers) ≡ Some layers
items_are layers are few =
    ap (λ b. cond b (each_layer (layer_items layers)) None) (le-leb (items_len (layer_items layers)) 16 (omega (arith, items_len_back layers, few)))
    ∙ each_back layers are

-- a list of bytes below 128
ascii_all : (text : List ℕ) → list_all (λ b. nat_lt b 128) text ≡ true → are_ascii text ≡ true
ascii_all [] e = refl
ascii_all (b ∷ text) e =
    let both = and_parts (nat_lt b 128) (list_all (λ b. nat_lt b 128) text) e in
    and_from (nat_lt b 128) (are_ascii text) both.0 (ascii_all text both.1)

ascii_marks : (text : List ℕ) → list_all is_mark text ≡ true → list_all (λ b. nat_lt b 128) text ≡ true
ascii_marks [] e = refl
ascii_marks (b ∷ text) e =
    let both = and_parts (is_mark b) (list_all is_mark text) e in
    and_from (nat_lt b 128) (list_all (λ b. nat_lt b 128) text) (by_mark (λ b. nat_lt b 128 ≡ true) refl refl refl b both.0) (ascii_marks text both.1)

array_utf8 : (layers : List (List ℕ)) → AreMarks layers → is_utf8 (array_text layers) ≡ true
array_utf8 layers are =
    is_utf8-from_IsUtf8 (array_text layers)
    (IsUtf8-are_ascii (array_text layers) (ascii_all (array_text layers) (array_all (λ b. nat_lt b 128) ascii_marks refl refl refl layers are)))

-- the text of at most 16 layers of marks is read as those layers
pub layers_back : (layers : List (List ℕ)) → AreMarks layers → length layers ≤ 16 → layers_of_text (array_text layers) ≡ Some layers
layers_back layers are few =
    ap layers_of_json (array_stays layers are)
    ∙ ap (λ b. cond b (option_and_then layers_of_items (option_and_then as_array (read (array_text layers)))) None) (array_utf8 layers are)
    ∙ ap (λ o. option_and_then layers_of_items (option_and_then as_array o)) (array_read layers are)
    ∙ items_are layers are few

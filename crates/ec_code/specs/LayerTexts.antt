-- The layers that a text or a JSON value gives. Source: Ceph's plugin lrc, with layers as an array of arrays. The bound of 16
-- layers is this project's.
-- Bytes: 9 is a tab, 32 a space, 34 `"`, 44 a comma, 68 `D`, 92 `\`, 93 `]`, 95 `_`, 99 `c`.
use Rattle.std.specs.Prelude.{ℕ, Bool, true, false, not, ◌==◌, ◌&&◌, ◌||◌, nat_eq, nat_le, if◌then◌else◌, List, [], ◌∷◌, drop, codes, bytes_eq, Some, None}
use Rattle.std.specs.List.{list_all, prefix_len, starts_with, slice_split}
use Rattle.std.specs.Option.{option_and_then, option_map}
use Rattle.std.specs.Str.{is_utf8}
use Rattle.std.specs.declared.option.Option.{Option}
use Rattle.serde_json.specs.Data.{Data, string, array, object, Items, no_items, item, no_members}
use Rattle.serde_json.specs.Read.{read}
use Rattle.serde_json.specs.Find.{as_array}
use Rattle.serde_json.specs.Events.{items_len}
use Rattle.ec_code.specs.Settings.{is_blank, is_empty}

-- whether what follows a byte stands in quotes, and whether it stands behind a `\` there
abbrev pub quoted_after : Bool → Bool → ℕ → Bool
quoted_after quoted escaped b = if quoted then escaped || not (b == 34) else b == 34

abbrev pub escaped_after : Bool → Bool → ℕ → Bool
escaped_after quoted escaped b = quoted && (not escaped && (b == 92))

-- a `]` is the first byte past blanks and line feeds
abbrev pub is_closed : List ℕ → Bool
is_closed text = starts_with nat_eq (drop (prefix_len is_blank text) text) (93 ∷ [])

-- a text without each comma that stands outside quotes before a `]`
unfoldable pub uncommaed : Bool → Bool → List ℕ → List ℕ
uncommaed quoted escaped [] = []
uncommaed quoted escaped (b ∷ text) =
    if not quoted && ((b == 44) && is_closed text) then uncommaed quoted escaped text
    else b ∷ uncommaed (quoted_after quoted escaped b) (escaped_after quoted escaped b) text

-- a character of a layer: `D` for an input, `c` for an output, `_` for a position that it does not use
abbrev pub is_mark : ℕ → Bool
is_mark b = (b == 68) || ((b == 99) || (b == 95))

abbrev pub is_space : ℕ → Bool
is_space b = (b == 32) || (b == 9)

-- a word of a layer's settings: its code is always reed_sol_van of jerasure
abbrev pub is_layer_word : List ℕ → Bool
is_layer_word word = is_empty word || (bytes_eq word (codes "plugin=jerasure") || bytes_eq word (codes "technique=reed_sol_van"))

-- the settings of a layer: a text of such words, or an object without members
abbrev pub are_layer_settings : Data → Bool
are_layer_settings (string text) = list_all is_layer_word (slice_split is_space text)
are_layer_settings (object no_members) = true
are_layer_settings _ = false

-- the characters of a layer
abbrev pub layer_marks : Data → Option (List ℕ)
layer_marks (string text) = if list_all is_mark text then Some text else None
layer_marks _ = None

-- a layer: its characters, and its settings if they are written
abbrev pub layer_of_items : Items → Option (List ℕ)
layer_of_items (item marks no_items) = layer_marks marks
layer_of_items (item marks (item settings no_items)) = if are_layer_settings settings then layer_marks marks else None
layer_of_items _ = None

abbrev pub layer_of_value : Data → Option (List ℕ)
layer_of_value value = option_and_then layer_of_items (as_array value)

-- all layers of an array, if each item is one
abbrev pub each_layer : Items → Option (List (List ℕ))
each_layer no_items = Some []
each_layer (item value items) = option_and_then (λ layer. option_map (λ layers. layer ∷ layers) (each_layer items)) (layer_of_value value)

-- at most 16 layers
abbrev pub layers_of_items : Items → Option (List (List ℕ))
layers_of_items items = if nat_le (items_len items) 16 then each_layer items else None

-- the layers of a text of JSON
abbrev pub layers_of_json : List ℕ → Option (List (List ℕ))
layers_of_json text = if is_utf8 text then option_and_then layers_of_items (option_and_then as_array (read text)) else None

-- the layers of a setting's value: JSON, without commas before a `]`
abbrev pub layers_of_text : List ℕ → Option (List (List ℕ))
layers_of_text text = layers_of_json (uncommaed false false text)

-- the layers of a member of a JSON profile: such a text, or an array itself
abbrev pub layers_of_value : Data → Option (List (List ℕ))
layers_of_value (string text) = layers_of_text text
layers_of_value (array items) = layers_of_items items
layers_of_value _ = None

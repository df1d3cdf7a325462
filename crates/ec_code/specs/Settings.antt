-- The text of a profile as settings. Source: this project, with Ceph's form KEY=VALUE.
-- Bytes: 9 is a tab, 10 a line feed, 32 a space, 44 a comma, 61 `=`, 91 `[`, 93 `]`.
use Rattle.std.specs.Prelude.{ℕ, Bool, not, ◌==◌, ◌&&◌, ◌||◌, ◌+◌, ◌-◌, nat_lt, if◌then◌else◌, List, [], ◌∷◌, length, take, drop, filter, map, reverse, bytes_eq}
use Rattle.std.specs.List.{prefix_len, suffix_len, position_or_len, before_first, after_first, onto_first, find, list_all}
use Rattle.std.specs.Option.{option_map}
use Rattle.std.specs.declared.option.Option.{Option}

-- a setting: its key and its value
pub record Setting : Type 0 where
  pub key : List ℕ
  pub value : List ℕ

-- a blank or a line feed
abbrev pub is_blank : ℕ → Bool
is_blank b = (b == 32) || ((b == 9) || (b == 10))

-- a comma or a line feed
abbrev pub is_parting : ℕ → Bool
is_parting b = (b == 44) || (b == 10)

-- the level of brackets behind a byte: one level further in after `[`, one level out after a `]` that is inside
abbrev pub level_after : ℕ → ℕ → ℕ
level_after level b = if b == 91 then level + 1 else if b == 93 then level - 1 else level

-- the pieces of a text that begins at this level, between the commas and line feeds outside brackets
unfoldable pub pieces_from : ℕ → List ℕ → List (List ℕ)
pieces_from level [] = [] ∷ []
pieces_from level (b ∷ text) =
    if (level == 0) && is_parting b then [] ∷ pieces_from level text
    else onto_first b (pieces_from (level_after level b) text)

-- a text without the blanks and line feeds at its ends
abbrev pub untrailed : List ℕ → List ℕ
untrailed text = take (length text - suffix_len is_blank text) text

abbrev pub trimmed : List ℕ → List ℕ
trimmed text = untrailed (drop (prefix_len is_blank text) text)

abbrev pub is_empty : List ℕ → Bool
is_empty text = length text == 0

-- the texts of the settings: the pieces without blanks and line feeds round them, and without the empty ones
abbrev pub setting_texts : List ℕ → List (List ℕ)
setting_texts text = filter (λ piece. not (is_empty piece)) (map trimmed (pieces_from 0 text))

abbrev pub is_equals : ℕ → Bool
is_equals b = b == 61

-- a text is a setting: something stands before its first `=`
abbrev pub is_setting : List ℕ → Bool
is_setting text = nat_lt 0 (position_or_len is_equals text) && nat_lt (position_or_len is_equals text) (length text)

-- the setting of such a text: the key stands before the first `=`, and the value after it
abbrev pub setting_of : List ℕ → Setting
setting_of text = record { key = before_first is_equals text; value = after_first is_equals text }

-- each piece of a text is a setting
abbrev pub has_settings : List ℕ → Bool
has_settings text = list_all is_setting (setting_texts text)

-- the settings of a text, in its order
abbrev pub settings_of : List ℕ → List Setting
settings_of text = map setting_of (setting_texts text)

-- the keys of some settings
abbrev pub keys_of : List Setting → List (List ℕ)
keys_of settings = map (λ s. s.key) settings

-- the value of a key: that of the last setting with this key
abbrev pub value_of : List Setting → List ℕ → Option (List ℕ)
value_of settings key = option_map (λ s. s.value) (find (λ s. bytes_eq s.key key) (reverse settings))

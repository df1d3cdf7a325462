-- The canonical lines of a profile. Source: this project, with Ceph's keys.
use Rattle.std.specs.Prelude.{◌≡◌, ◌<◌, ◌≤◌, ℕ, ◌-◌, Bool, true, false, List, [], ◌∷◌, ◌++◌, length, codes, Some, None, Ok}
use Rattle.std.specs.List.{flat_map, list_all}
use Rattle.std.specs.Fmt.{decimal}
use Rattle.std.specs.declared.option.Option.{Option}
use Rattle.ec_code.specs.Settings.{Setting}
use Rattle.ec_model.specs.Codes.{CodeRows}
use Rattle.ec_model.specs.Lrc.{layer_text}
use Rattle.ec_code.specs.LayerTexts.{is_mark}
use Rattle.ec_code.specs.LrcFaults.{mapping_text, layer_texts, has_number}
use Rattle.ec_code.specs.Readings.{profile_of, value_or, is_place}
use Rattle.ec_code.specs.Refusals.{IsAccepted, IsCodeOf}
use Rattle.ec_code.specs.Shapes.{HasShape, default_least}
use Rattle.ec_code.specs.declared.mapping.Mapping.{Mapping}
use Rattle.ec_code.specs.declared.mapping.Layers.{Layers}
use Rattle.ec_code.specs.declared.profile.Plugin.{Plugin}
use Rattle.ec_code.specs.declared.profile.Plugin.TheVariants as plugin
use Rattle.ec_code.specs.declared.profile.Profile.{Profile}

-- `KEY=VALUE` and a line feed
abbrev pub line_of : Setting → List ℕ
line_of s = s.key ++ 61 ∷ s.value ++ 10 ∷ []

-- the least number of positions: as the profile has it, or else the one of the code's shape
abbrev pub least_of : Option ℕ → ℕ → ℕ → ℕ
least_of (Some least) k n = least
least_of None k n = default_least k n

-- the settings of a profile of the plugin jerasure, by the bytes of their keys
abbrev pub jerasure_settings : ℕ → ℕ → ℕ → ℕ → List Setting
jerasure_settings k m least unit =
    record { key = codes "k"; value = decimal k } ∷ record { key = codes "m"; value = decimal m }
    ∷ record { key = codes "min_size"; value = decimal least } ∷ record { key = codes "plugin"; value = codes "jerasure" }
    ∷ record { key = codes "stripe_unit"; value = decimal unit } ∷ record { key = codes "technique"; value = codes "reed_sol_van" }
    ∷ record { key = codes "w"; value = codes "8" } ∷ []

-- the settings of a profile of the plugin shec, and of one of the plugin lrc whose layers are made from numbers or are written
abbrev pub shec_settings : ℕ → ℕ → ℕ → ℕ → ℕ → List Setting
shec_settings c k m least unit =
    record { key = codes "c"; value = decimal c } ∷ record { key = codes "k"; value = decimal k }
    ∷ record { key = codes "m"; value = decimal m } ∷ record { key = codes "min_size"; value = decimal least }
    ∷ record { key = codes "plugin"; value = codes "shec" } ∷ record { key = codes "stripe_unit"; value = decimal unit }
    ∷ record { key = codes "technique"; value = codes "single" } ∷ record { key = codes "w"; value = codes "8" } ∷ []

abbrev pub number_settings : ℕ → ℕ → ℕ → ℕ → ℕ → List Setting
number_settings k l m least unit =
    record { key = codes "k"; value = decimal k } ∷ record { key = codes "l"; value = decimal l }
    ∷ record { key = codes "m"; value = decimal m } ∷ record { key = codes "min_size"; value = decimal least }
    ∷ record { key = codes "plugin"; value = codes "lrc" } ∷ record { key = codes "stripe_unit"; value = decimal unit } ∷ []

-- a layer as an item: its characters, and settings without a word
abbrev pub layer_item : List ℕ → List ℕ
layer_item layer = codes "[\"" ++ layer ++ codes "\",\"\"]"

-- the layers as the items of an array, and the array, without blanks
abbrev pub layer_items : List (List ℕ) → List ℕ
layer_items [] = []
layer_items (layer ∷ layers) = layer_item layer ++ flat_map (λ next. 44 ∷ layer_item next) layers

abbrev pub layers_text : List (List ℕ) → List ℕ
layers_text layers = 91 ∷ (layer_items layers ++ 93 ∷ [])

abbrev pub layout_settings : List ℕ → List (List ℕ) → ℕ → ℕ → List Setting
layout_settings mapping layers least unit =
    record { key = codes "layers"; value = layers_text layers } ∷ record { key = codes "mapping"; value = mapping }
    ∷ record { key = codes "min_size"; value = decimal least } ∷ record { key = codes "plugin"; value = codes "lrc" }
    ∷ record { key = codes "stripe_unit"; value = decimal unit } ∷ []

-- the texts of a mapping and of layers; an accepted profile has both, or k, m and l
abbrev pub mapping_in : Option Mapping → List ℕ
mapping_in (Some mapping) = mapping_text mapping
mapping_in None = []

abbrev pub layers_in : Option Layers → List (List ℕ)
layers_in (Some layers) = layer_texts layers
layers_in None = []

abbrev pub lrc_settings : Bool → Profile → ℕ → List Setting
lrc_settings true p least = number_settings (value_or 0 p.k) (value_or 0 p.l) (value_or 0 p.m) least p.stripe_unit
lrc_settings false p least = layout_settings (mapping_in p.mapping) (layers_in p.layers) least p.stripe_unit

-- the settings of a profile of a plugin, whose code has k data chunks and n positions
abbrev pub settings_by : Plugin → Profile → ℕ → ℕ → List Setting
settings_by plugin.Jerasure p k n = jerasure_settings k (n - k) (least_of p.min_size k n) p.stripe_unit
settings_by plugin.Lrc p k n = lrc_settings (has_number p) p (least_of p.min_size k n)
settings_by plugin.Shec p k n = shec_settings (value_or 0 p.c) k (n - k) (least_of p.min_size k n) p.stripe_unit

-- each byte of a text passes a test. A text of more than 16 characters is not kept whole, and nothing is said of it
abbrev pub IsWrittenIn : (ℕ → Bool) → List ℕ → Type 0
IsWrittenIn test text = length text ≤ 16 → list_all test text ≡ true

-- a mapping has `D` and `_` alone, and each of the layers `D`, `c` and `_`
pub record HasMarks (p : Profile) : Type 0 where
  pub mapping : (m : Mapping) → p.mapping ≡ Some m → IsWrittenIn is_place (mapping_text m)
  pub layers : (ls : Layers) → p.layers ≡ Some ls → (i : ℕ) → i < length (layer_texts ls) → IsWrittenIn is_mark (layer_text (layer_texts ls) i)

-- a profile can be written as lines: if its mapping and its layers count, they have their marks alone
abbrev pub IsWritable : Profile → Type 0
IsWritable p = p.plugin ≡ plugin.Lrc → has_number p ≡ false → HasMarks p

-- the lines of some settings
abbrev pub lines_of : List Setting → List ℕ
lines_of settings = flat_map line_of settings

-- the canonical lines of a profile whose code has k data chunks and n positions
abbrev pub canonical_lines : Profile → ℕ → ℕ → List ℕ
canonical_lines p k n = lines_of (settings_by p.plugin p k n)

-- a text is read as a profile that has each code of another
abbrev pub KeepsCodes : Profile → List ℕ → Type 0
KeepsCodes p text = (again : Profile) → profile_of text ≡ Ok again → (code : CodeRows) → IsCodeOf p code → IsCodeOf again code

-- a text is read as an accepted profile, whose code has these numbers, and whose canonical lines are the text
pub record PrintsAgain (text : List ℕ) (k n lead : ℕ) : Type 0 where
  pub again : Profile
  pub code : CodeRows
  pub read : profile_of text ≡ Ok again
  pub accepted : IsAccepted again
  pub code_of : IsCodeOf again code
  pub shape : HasShape code k n lead
  pub same : canonical_lines again k n ≡ text

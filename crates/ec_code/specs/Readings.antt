-- What the text of a profile means. Source: this project, with Ceph's keys and defaults.
-- Read first: Settings.antt.
use Rattle.std.specs.Prelude.{ℕ, Bool, true, not, ◌==◌, ◌&&◌, ◌||◌, ◌*◌, ◌^◌, ◌-◌, nat_eq, nat_lt, if◌then◌else◌, List, [], ◌∷◌, length, take, filter, codes, bytes_eq, is_some, Some, None, Result, Ok, Err}
use Rattle.std.specs.List.{list_all, list_any, starts_with, ends_with, reduce}
use Rattle.std.specs.Option.{option_and_then, option_map}
use Rattle.std.specs.Ordering.{nat_cmp, min_by_ordering}
use Rattle.std.specs.Cmp.Lexicographic.{slice_cmp}
use Rattle.std.specs.Fmt.{decimal}
use Rattle.std.specs.Str.Parse.{digits_value}
use Rattle.std.specs.declared.option.Option.{Option}
use Rattle.ec_code.specs.declared.profile.Plugin.{Plugin}
use Rattle.ec_code.specs.declared.profile.Plugin.TheVariants as plugin
use Rattle.ec_code.specs.declared.profile.Technique.{Technique}
use Rattle.ec_code.specs.declared.profile.Technique.TheVariants as technique
use Rattle.ec_code.specs.declared.profile.Profile.{Profile}
use Rattle.ec_code.specs.declared.fault.ProfileFault.{ProfileFault}
use Rattle.ec_code.specs.declared.fault.ProfileFault.TheVariants as fault
use Rattle.ec_code.specs.LayerTexts.{layers_of_text}
use Rattle.ec_code.specs.LayerValues.{mapping_value, layers_value}
use Rattle.ec_code.specs.Settings.{Setting, is_empty, has_settings, settings_of, keys_of, value_of}

-- the number below 2^32 whose digits a text is, without a zero before them
abbrev pub number_of_text : List ℕ → Option ℕ
number_of_text text =
    if bytes_eq text (decimal (digits_value 10 text)) && nat_lt (digits_value 10 text) (2 ^ 32) then Some (digits_value 10 text)
    else None

-- a number times 1024, if that is below 2^32
abbrev pub kibibytes : ℕ → Option ℕ
kibibytes n = if nat_lt (n * 1024) (2 ^ 32) then Some (n * 1024) else None

-- a number of bytes below 2^32: digits, or digits and a `K` for times 1024
abbrev pub unit_of_text : List ℕ → Option ℕ
unit_of_text text =
    if ends_with nat_eq text (75 ∷ []) then option_and_then kibibytes (number_of_text (take (length text - 1) text))
    else number_of_text text

-- `crush-` with anything after it, and `directory`
abbrev pub is_ignored : List ℕ → Bool
is_ignored key = starts_with nat_eq key (codes "crush-") || bytes_eq key (codes "directory")

-- a key has this among its texts
abbrev pub is_among : List (List ℕ) → List ℕ → Bool
is_among texts key = list_any (λ text. bytes_eq key text) texts

-- the keys that every plugin has
abbrev pub is_common_key : List ℕ → Bool
is_common_key key = is_among (codes "plugin" ∷ codes "stripe_unit" ∷ codes "min_size" ∷ []) key

-- the keys of the plugin lrc by which its layers are made from numbers, and by which they are written
abbrev pub is_number_key : List ℕ → Bool
is_number_key key = is_among (codes "k" ∷ codes "m" ∷ codes "l" ∷ []) key

abbrev pub is_layout_key : List ℕ → Bool
is_layout_key key = is_among (codes "mapping" ∷ codes "layers" ∷ []) key

-- the keys of the plugin shec that have defaults if none of them is given
abbrev pub is_shec_number_key : List ℕ → Bool
is_shec_number_key key = is_among (codes "k" ∷ codes "m" ∷ codes "c" ∷ []) key

-- the keys of a plugin
abbrev pub is_key_of : Plugin → List ℕ → Bool
is_key_of plugin.Jerasure key =
    is_common_key key || is_among (codes "k" ∷ codes "m" ∷ codes "technique" ∷ codes "w" ∷ codes "packetsize" ∷ codes "jerasure-per-chunk-alignment" ∷ []) key
is_key_of plugin.Lrc key = is_common_key key || (is_number_key key || is_layout_key key)
is_key_of plugin.Shec key = is_common_key key || (is_shec_number_key key || is_among (codes "technique" ∷ codes "w" ∷ []) key)

-- a mapping: some characters, each `D` or `_`
abbrev pub is_place : ℕ → Bool
is_place b = (b == 68) || (b == 95)

abbrev pub is_mapping : List ℕ → Bool
is_mapping text = not (is_empty text) && list_all is_place text

-- the layers that the value of the key `layers` gives; none if it is not there or does not have its form
abbrev pub GivenLayers : Type 0
GivenLayers = Option (List (List ℕ))

-- a value has the form that its key asks for
abbrev pub has_form : GivenLayers → List ℕ → List ℕ → Bool
has_form layers key value =
    if is_ignored key then true
    else if bytes_eq key (codes "plugin") || bytes_eq key (codes "technique") then not (is_empty value)
    else if bytes_eq key (codes "jerasure-per-chunk-alignment") then bytes_eq value (codes "false")
    else if bytes_eq key (codes "stripe_unit") then is_some (unit_of_text value)
    else if bytes_eq key (codes "mapping") then is_mapping value
    else if bytes_eq key (codes "layers") then is_some layers
    else is_some (number_of_text value)

-- the lesser of two texts by their bytes, and the least of some
abbrev pub lesser : List ℕ → List ℕ → List ℕ
lesser one other = min_by_ordering (slice_cmp nat_cmp one other) one other

abbrev pub least_text : List (List ℕ) → Option (List ℕ)
least_text texts = reduce lesser texts

-- the value of a key, or a default
abbrev pub value_or : {A : Type 0} → A → Option A → A
value_or {A} default (Some value) = value
value_or {A} default None = default

-- a key that the plugin does not have
abbrev pub is_unknown : Plugin → List ℕ → Bool
is_unknown p key = not (is_ignored key || is_key_of p key)

-- some settings have one of k, m and l
abbrev pub have_number : List Setting → Bool
have_number settings = list_any is_number_key (keys_of settings)

-- a key whose value does not have its form; beside one of k, m and l a mapping and layers do not have theirs
abbrev pub is_bad : GivenLayers → List Setting → List ℕ → Bool
is_bad layers settings key =
    not (has_form layers key (value_or [] (value_of settings key))) || (is_layout_key key && have_number settings)

-- the least of the keys that the plugin does not have, and the least of those whose values do not have their form
abbrev pub unknown_key : Plugin → List Setting → Option (List ℕ)
unknown_key p settings = least_text (filter (is_unknown p) (keys_of settings))

abbrev pub bad_key : GivenLayers → List Setting → Option (List ℕ)
bad_key layers settings = least_text (filter (is_bad layers settings) (keys_of settings))

-- the plugin of a name
abbrev pub plugin_named : List ℕ → Option Plugin
plugin_named name =
    if bytes_eq name (codes "jerasure") then Some plugin.Jerasure
    else if bytes_eq name (codes "lrc") then Some plugin.Lrc
    else if bytes_eq name (codes "shec") then Some plugin.Shec
    else None

abbrev pub plugin_of : List Setting → Option Plugin
plugin_of settings = plugin_named (value_or (codes "jerasure") (value_of settings (codes "plugin")))

-- the number, the unit and the technique that some settings give
abbrev pub number_at : List Setting → List ℕ → Option ℕ
number_at settings key = option_and_then number_of_text (value_of settings key)

abbrev pub number_or : ℕ → List Setting → List ℕ → ℕ
number_or default settings key = value_or default (number_at settings key)

abbrev pub unit_at : List Setting → ℕ
unit_at settings = value_or 4096 (option_and_then unit_of_text (value_of settings (codes "stripe_unit")))

abbrev pub technique_named : List ℕ → Technique
technique_named name =
    if bytes_eq name (codes "reed_sol_van") then technique.ReedSolVan
    else if bytes_eq name (codes "single") then technique.Single
    else technique.Other

abbrev pub technique_at : List Setting → Option Technique
technique_at settings = option_map technique_named (value_of settings (codes "technique"))

-- a number of the plugin shec: the default if none of k, m and c is given
abbrev pub has_shec_number : List Setting → Bool
has_shec_number settings = list_any is_shec_number_key (keys_of settings)

abbrev pub shec_number : ℕ → List Setting → List ℕ → Option ℕ
shec_number default settings key = if has_shec_number settings then number_at settings key else Some default

-- the profile that some settings of a plugin give, with the defaults of the plugin
abbrev pub profile_with : Plugin → GivenLayers → List Setting → Profile
profile_with plugin.Jerasure layers settings = record {
  plugin = plugin.Jerasure;
  k = number_at settings (codes "k");
  m = number_at settings (codes "m");
  c = None;
  l = None;
  w = Some (number_or 8 settings (codes "w"));
  technique = Some (value_or technique.ReedSolVan (technique_at settings));
  mapping = None;
  layers = None;
  stripe_unit = unit_at settings;
  min_size = number_at settings (codes "min_size");
}
profile_with plugin.Lrc layers settings = record {
  plugin = plugin.Lrc;
  k = number_at settings (codes "k");
  m = number_at settings (codes "m");
  c = None;
  l = number_at settings (codes "l");
  w = None;
  technique = None;
  mapping = option_map mapping_value (value_of settings (codes "mapping"));
  layers = option_map layers_value layers;
  stripe_unit = unit_at settings;
  min_size = number_at settings (codes "min_size");
}
profile_with plugin.Shec layers settings = record {
  plugin = plugin.Shec;
  k = shec_number 4 settings (codes "k");
  m = shec_number 3 settings (codes "m");
  c = shec_number 2 settings (codes "c");
  l = None;
  w = Some (number_or 8 settings (codes "w"));
  technique = technique_at settings;
  mapping = None;
  layers = None;
  stripe_unit = unit_at settings;
  min_size = number_at settings (codes "min_size");
}

-- a fault that carries a key, if there is such a key
abbrev pub refused_by : {A : Type 0} → (List ℕ → ProfileFault) → Option (List ℕ) → Result A ProfileFault → Result A ProfileFault
refused_by {A} carrying (Some key) otherwise = Err (carrying key)
refused_by {A} carrying None otherwise = otherwise

-- the profile of some settings, or their first fault
abbrev pub profile_of_plugin : Option Plugin → GivenLayers → List Setting → Result Profile ProfileFault
profile_of_plugin None layers settings = Err fault.UnknownPlugin
profile_of_plugin (Some p) layers settings =
    refused_by fault.UnknownKey (unknown_key p settings) (refused_by fault.BadValue (bad_key layers settings) (Ok (profile_with p layers settings)))

abbrev pub profile_of_settings : GivenLayers → List Setting → Result Profile ProfileFault
profile_of_settings layers settings = profile_of_plugin (plugin_of settings) layers settings

-- the layers that some settings give
abbrev pub layers_at : List Setting → GivenLayers
layers_at settings = option_and_then layers_of_text (value_of settings (codes "layers"))

-- the profile of a text of settings, or the first of the faults Setting, UnknownPlugin, UnknownKey and BadValue
abbrev pub profile_of : List ℕ → Result Profile ProfileFault
profile_of text =
    if not (has_settings text) then Err fault.Setting
    else profile_of_settings (layers_at (settings_of text)) (settings_of text)

-- the profile of the plugin jerasure with these numbers, the technique reed_sol_van and words of 8 bits
abbrev pub jerasure_profile : ℕ → ℕ → ℕ → ℕ → Profile
jerasure_profile k m least unit = record {
  plugin = plugin.Jerasure;
  k = Some k;
  m = Some m;
  c = None;
  l = None;
  w = Some 8;
  technique = Some technique.ReedSolVan;
  mapping = None;
  layers = None;
  stripe_unit = unit;
  min_size = Some least;
}

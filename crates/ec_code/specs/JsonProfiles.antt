-- What a profile in JSON means. Source: this project: an object whose members are the settings. If a key is repeated its last
-- member counts, as serde_json reads objects.
-- Read first: Readings.antt.
use Rattle.std.specs.Prelude.{ℕ, Bool, nat_eq, if◌then◌else◌, List, [], ◌∷◌, drop, codes, Some, Result, Err}
use Rattle.std.specs.List.{prefix_len, starts_with}
use Rattle.std.specs.Option.{option_and_then}
use Rattle.std.specs.Fmt.{decimal}
use Rattle.std.specs.Str.{is_utf8}
use Rattle.std.specs.declared.option.Option.{Option}
use Rattle.serde_json.specs.Data.{Data, number, unsigned, string, object, Members, no_members, member}
use Rattle.serde_json.specs.Read.{read}
use Rattle.serde_json.specs.Find.{get_member}
use Rattle.ec_code.specs.declared.profile.Profile.{Profile}
use Rattle.ec_code.specs.declared.fault.ProfileFault.{ProfileFault}
use Rattle.ec_code.specs.declared.fault.ProfileFault.TheVariants as fault
use Rattle.ec_code.specs.LayerTexts.{layers_of_value}
use Rattle.ec_code.specs.Readings.{GivenLayers, profile_of, profile_of_settings}
use Rattle.ec_code.specs.Settings.{Setting, is_blank}

-- the text of a value: a text itself, or the digits of a whole number without a sign. Every other value has no text, and stands
-- for the empty text. Only an ignored key takes that.
abbrev pub text_of_value : Data → List ℕ
text_of_value (string text) = text
text_of_value (number (unsigned n)) = decimal n
text_of_value _ = []

-- the members as settings
abbrev pub settings_of_members : Members → List Setting
settings_of_members no_members = []
settings_of_members (member key value members) = record { key = key; value = text_of_value value } ∷ settings_of_members members

-- the layers that some members give; they may be an array
abbrev pub layers_of_members : Members → GivenLayers
layers_of_members members = option_and_then layers_of_value (get_member (codes "layers") members)

-- the profile of a value of JSON
abbrev pub profile_of_value : Option Data → Result Profile ProfileFault
profile_of_value (Some (object members)) = profile_of_settings (layers_of_members members) (settings_of_members members)
profile_of_value _ = Err fault.Json

-- the profile of some bytes of JSON, or the first of the faults Json, UnknownPlugin, UnknownKey and BadValue
abbrev pub profile_of_json : List ℕ → Result Profile ProfileFault
profile_of_json bytes = if is_utf8 bytes then profile_of_value (read bytes) else Err fault.Json

-- the profile of some bytes as settings; if they are no text, no piece of them is a setting
abbrev pub profile_of_settings_text : List ℕ → Result Profile ProfileFault
profile_of_settings_text bytes = if is_utf8 bytes then profile_of bytes else Err fault.Setting

-- bytes are meant as JSON: a `{` is their first byte past blanks and line feeds
abbrev pub begins_object : List ℕ → Bool
begins_object bytes = starts_with nat_eq (drop (prefix_len is_blank bytes) bytes) (123 ∷ [])

-- the profile of some bytes, in JSON or as settings
abbrev pub profile_of_bytes : List ℕ → Result Profile ProfileFault
profile_of_bytes bytes = if begins_object bytes then profile_of_json bytes else profile_of_settings_text bytes

-- The settings that are read from a profile's text. Source: this project.
use Rattle.std.specs.Prelude.{ℕ, List, not, drop, filter, map}
use Rattle.std.specs.Borrow.{Bor}
use Rattle.std.specs.List.{prefix_len}
use Rattle.ec_code.specs.Settings.{Setting, is_blank, is_empty, trimmed}
use Rattle.profile_texts.specs.declared.json.MemberText.{MemberText}
use Rattle.profile_texts.specs.declared.settings.SettingText.{SettingText}

-- a text without the blanks and line feeds that it begins with
abbrev pub unled : List ℕ → List ℕ
unled text = drop (prefix_len is_blank text) text

-- the bytes of some pieces
abbrev pub bytes_of : List (Bor (List ℕ)) → List (List ℕ)
bytes_of pieces = map (λ piece. piece.now) pieces

-- the texts of the settings in some pieces: the pieces trimmed, without the empty ones
abbrev pub texts_in : List (List ℕ) → List (List ℕ)
texts_in pieces = filter (λ piece. not (is_empty piece)) (map trimmed pieces)

-- a setting as contracts see it
abbrev pub shown_setting : SettingText → Setting
shown_setting s = record { key = s.key.now; value = s.value.now }

-- some settings as contracts see them
abbrev pub shown : List SettingText → List Setting
shown settings = map shown_setting settings

-- the settings that some members in JSON give
abbrev pub shown_members : List MemberText → List Setting
shown_members members = map (λ m. record { key = m.key.now; value = m.value }) members

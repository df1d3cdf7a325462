-- What is said of a profile. Source: this project.
use Rattle.std.specs.Prelude.{◌≡◌, ◌≢◌, ◌⊎◌, ◌≤◌, ℕ, List, [], ◌∷◌, ◌++◌, length, map, codes, Option, Some}
use Rattle.std.specs.List.{flat_map, range_with_len}
use Rattle.std.specs.Fmt.{decimal}
use Rattle.std.specs.Io.KnownBytes.{Appends}
use Rattle.hex.specs.Hex.{encode_lower}
use Rattle.ec_model.specs.Codes.{CodeRows}
use Rattle.ec_model.specs.Rows.{entry_at}
use Rattle.ec_code.specs.declared.profile.Profile.{Profile}
use Rattle.ec_code.specs.declared.fault.ProfileFault.{ProfileFault}
use Rattle.ec_code.specs.Refusals.{IsCodeOf}
use Rattle.plugin_reg.specs.Canonical.{canonical_lines}
use Rattle.plugin_reg.specs.Opening.{IsRefused, fault_line}
use Rattle.rig_disk.specs.Said.{SaysFront}
use Rattle.pool_run.specs.Script.{ReadsAll}
use Rattle.pool_run.specs.Texts.{OneOf, max_input}
use Rattle.pool_run.specs.Words.{Words, AskTry, AskProfile, AskCreate, whole_input}

-- `row P HEX`: the row of a position, two digits for each data chunk
abbrev pub row_line : CodeRows → ℕ → List ℕ
row_line code p = codes "row " ++ (decimal p ++ 32 ∷ (encode_lower (map (entry_at code.rows p) (range_with_len 0 code.k)) ++ 10 ∷ []))

-- a line for the row of each position
abbrev pub rows_text : CodeRows → List ℕ
rows_text code = flat_map (row_line code) (range_with_len 0 code.n)

-- the canonical lines of a profile, and a line for the row of each position
abbrev pub profile_text : Profile → CodeRows → List ℕ
profile_text p code = canonical_lines p code.k code.n ++ rows_text code

-- the words, and the input if they ask for it, ask for the profile of this text to be shown
abbrev pub AsksToShow : Words → Option (List ℕ) → List ℕ → Type 0
AsksToShow words left text =
    (AskProfile words text × (text ≢ whole_input))
    ⊎ (AskProfile words whole_input × (left ≡ Some text) × (length text ≤ max_input))

-- they ask for a pool to be made with it
abbrev pub AsksToCreate : Words → Option (List ℕ) → List ℕ → Type 0
AsksToCreate words left text =
    (AskCreate words text × (text ≢ whole_input))
    ⊎ (AskCreate words whole_input × (left ≡ Some text) × (length text ≤ max_input))

-- they ask for it to be read
abbrev pub AsksFor : Words → Option (List ℕ) → List ℕ → Type 0
AsksFor words left text = AskTry words text ⊎ AsksToShow words left text ⊎ AsksToCreate words left text

-- a text was asked for: it is a word, or it was the whole input
abbrev pub IsAskedFor : Words → Option (List ℕ) → Option (List ℕ) → List ℕ → Type 0
IsAskedFor words before now text =
    AskTry words text ⊎ AskProfile words text ⊎ (AskProfile words whole_input × ReadsAll before now text)
    ⊎ AskCreate words text ⊎ (AskCreate words whole_input × ReadsAll before now text)

-- a text has a fault as a profile
abbrev pub HasFault : List ℕ → Type 0
HasFault text = (f : ProfileFault) × IsRefused text f

-- the profile is a word that is to be shown or has a fault, so no input is needed
abbrev pub NeedsNoInput : Words → List ℕ → Type 0
NeedsNoInput words text = (AskProfile words text × (text ≢ whole_input)) ⊎ (AskTry words text × HasFault text)

-- an accepted profile was shown with status 0, and else not at all or in part; if the input failed or memory ran out, not at all
pub record ShowsProfile (p : Profile) (status : ℕ) (before now : Option (List ℕ)) : Type 0 where
  pub statuses : OneOf status (0 ∷ 8 ∷ 9 ∷ 13 ∷ [])
  pub whole : status ≡ 0 → (code : CodeRows) × IsCodeOf p code × Appends before now (profile_text p code)
  pub part : status ≢ 0 → Appends before now [] ⊎ ((code : CodeRows) × IsCodeOf p code × SaysFront before now (profile_text p code))
  pub unsaid : OneOf status (8 ∷ 13 ∷ []) → Appends before now []

-- a text was refused: the line of its fault was said, some first bytes of it if the output failed, and nothing if the input
-- failed or memory ran out
pub record SaysFault (text : List ℕ) (status : ℕ) (before now : Option (List ℕ)) : Type 0 where
  pub statuses : OneOf status (3 ∷ 8 ∷ 9 ∷ 13 ∷ [])
  pub whole : status ≡ 3 → (f : ProfileFault) × IsRefused text f × Appends before now (fault_line f)
  pub part : status ≢ 3 → (f : ProfileFault) × IsRefused text f × SaysFront before now (fault_line f)
  pub unsaid : OneOf status (8 ∷ 13 ∷ []) → Appends before now []

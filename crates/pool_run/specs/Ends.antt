-- How a run ends: what the top call and its commands ensure, in parts. Source: this project.
-- Of a script, an input and what was said there is the text of before and the one of now, if they are told.
use Rattle.std.specs.Prelude.{◌≡◌, ◌≢◌, ◌⊎◌, ◌<◌, ℕ, List, [], ◌∷◌, length, Option, Some}
use Rattle.std.specs.Io.KnownBytes.{Appends}
use Rattle.rig_disk.specs.Faults.{Rose}
use Rattle.rig_disk.specs.declared.limits.TheConstants.{VOICE}
use Rattle.ec_code.specs.declared.fault.ProfileFault.{ProfileFault}
use Rattle.plugin_reg.specs.Opening.{IsRefused}
use Rattle.pool_run.specs.Profiles.{IsAskedFor, NeedsNoInput, SaysFault}
use Rattle.pool_run.specs.Texts.{OneOf, ComesFor, SaysItsLine, line_of, max_input}
use Rattle.pool_run.specs.Tries.{IsAnswered, status_of}
use Rattle.pool_run.specs.Words.{Words, AreWrong, AskProfile, AskCreate, whole_input}

-- a script was tried with an accepted profile: what is said is a prefix of the replies, and then the line of the status
pub record TriesScript (status : ℕ) (before now input rest : Option (List ℕ)) : Type 0 where
  pub statuses : OneOf status (0 ∷ 1 ∷ 8 ∷ 9 ∷ 12 ∷ 13 ∷ [])
  pub answered : (script : List ℕ) → input ≡ Some script → IsAnswered script status before now rest

-- and if neither input nor output failed, the whole script is answered, or memory ran out; status 12 comes if it is too long
pub record AnswersScript (script : List ℕ) (status : ℕ) (before now rest : Option (List ℕ)) (input_before input_now : ℕ) (rig_before rig_now : ℕ → ℕ) : Type 0 where
  pub answered : IsAnswered script status before now rest
  pub complete : ¬ (Rose input_before input_now) → ¬ (Rose (rig_before VOICE) (rig_now VOICE)) → OneOf status (status_of script ∷ 13 ∷ [])
  pub status_12 : ComesFor (max_input < length script) 12 (8 ∷ 9 ∷ 13 ∷ []) status

-- a profile that is a word was refused, before anything of the input was taken
pub record IsRefusedAtOnce {Input : Type 0} (text : List ℕ) (status : ℕ) (before now : Option (List ℕ)) (old new : Input) : Type 0 where
  pub says : SaysFault text status before now
  pub statuses : OneOf status (3 ∷ 9 ∷ 13 ∷ [])
  pub untouched : new ≡ old

-- statuses 4, 5 and 10 come only if a pool was to be made; status 2 comes for wrong words, status 3 for a profile that was asked for and has a fault, and status 12 for an input that is too
-- long, with its line alone
pub record ComesForItsCause (words : Words) (status : ℕ) (before now input rest : Option (List ℕ)) : Type 0 where
  pub status_2 : SaysItsLine (AreWrong words) 2 before now status
  pub status_3 : status ≡ 3 → (profile : List ℕ) × (f : ProfileFault) × IsRefused profile f × IsAskedFor words input rest profile
  pub long_profile : (text : List ℕ) → AskProfile words whole_input ⊎ AskCreate words whole_input → input ≡ Some text → ComesFor (max_input < length text) 12 (8 ∷ 9 ∷ 13 ∷ []) status
  pub too_long : status ≡ 12 → Appends before now (line_of 12)
  pub making : OneOf status (4 ∷ 5 ∷ 10 ∷ []) → (profile : List ℕ) × AskCreate words profile

-- statuses 2 and 3 leave the input alone, if the profile is not its text; so does a pool that is made with a profile that is a word; a
-- profile that is a word, to be shown or refused, needs no
-- input, which is left alone whatever the status is
pub record LeavesInput {Input : Type 0} (words : Words) (status : ℕ) (old new : Input) : Type 0 where
  pub unread : OneOf status (2 ∷ 3 ∷ []) → ¬ (AskProfile words whole_input) → ¬ (AskCreate words whole_input) → new ≡ old
  pub at_once : (profile : List ℕ) → NeedsNoInput words profile → OneOf status (0 ∷ 3 ∷ 9 ∷ 13 ∷ []) × (new ≡ old)
  pub created : (profile : List ℕ) → AskCreate words profile → profile ≢ whole_input → new ≡ old

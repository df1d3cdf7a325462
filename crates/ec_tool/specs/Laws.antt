-- Laws about the definitions of this crate. Source: this project.
use Rattle.std.specs.Prelude.{◌≡◌, ◌≢◌, ◌<◌, ◌≤◌, ◌^◌, ◌↔◌, ℕ, List, [], length, slice_index, Option, Some, None, Result, Ok, Err, IsSomeAnd}
use Rattle.std.specs.Io.KnownBytes.{Appends}
use Rattle.std.specs.List.{All}
use Rattle.std.specs.FinMap as map
use Rattle.ec_model.specs.Codes.{CodeRows}
use Rattle.ec_model.specs.Stripes.{padded}
use Rattle.ec_code.specs.Refusals.{IsAccepted, IsCodeOf}
use Rattle.ec_code.specs.declared.fault.ProfileFault.{ProfileFault}
use Rattle.ec_code.specs.declared.profile.Profile.{Profile}
use Rattle.lrc_layers.specs.Laws.{AreAlike}
use Rattle.plugin_reg.specs.Opening.{GivesProfile, IsRefused}
use Rattle.ec_files.specs.Chunks.{after}
use Rattle.ec_files.specs.Decoding.{IsAmong}
use Rattle.ec_files.specs.Files.{FileMap}
use Rattle.ec_tool.specs.Headline.{Run, IsDone}
use Rattle.ec_tool.specs.Requests.{Asks}
use Rattle.ec_files.specs.Jobs.{job_of, Job}
use Rattle.ec_tool.specs.Sameness.{AskTheSame, IsUndisturbed, EndAlike}
use Rattle.ec_files.specs.Laws.{HoldBytes, ComesBack}
use Rattle.ec_tool.specs.Words.{Words}
use Rattle.ec_files.specs.declared.job.Coding.{Coding}
use Rattle.ec_tool.specs.declared.request.Request.{Request}
use Rattle.ec_tool.specs.declared.request.Request.TheVariants.{Encode, Decode}

-- a job of `decode` after one of `encode`: by the same profile, in the same units, of the same file, from positions that were encoded
pub record Follows (encoded listed : Job) : Type 0 where
  pub profile : listed.profile ≡ encoded.profile
  pub unit : listed.unit ≡ encoded.unit
  pub name : listed.name ≡ encoded.name
  pub among : (i : ℕ) → i < length listed.wanted → IsAmong encoded.wanted (slice_index listed.wanted i)

-- the file of a run of `encode` with these bytes came back in a run of `decode`, padded by the code of the profile
pub record RunComesBack (job : Job) (bytes : List ℕ) (run : Run) : Type 0 where
  pub p : Profile
  pub code : CodeRows
  pub files : FileMap
  pub line : List ℕ
  pub given : GivesProfile job.profile p
  pub of : IsCodeOf p code
  pub there : run.before ≡ Some files
  pub said : Appends run.said_before run.said_now line
  pub back : ComesBack job files (padded code.k job.unit bytes) run.status line run.now

-- a run of `decode` over the files that a run of `encode` left gives the encoded file back, from positions that decide the data
abbrev pub EncodedRunsComeBack : (List ℕ → Type 0) → Type 0
EncodedRunsComeBack named =
    (words later : Words) (encoded listed : Coding) (one other : Run) (files : FileMap) (bytes : List ℕ) → Asks words (Encode encoded) → Asks later (Decode listed)
    → IsDone named (Encode encoded) one → IsDone named (Decode listed) other → Follows (job_of encoded) (job_of listed)
    → one.before ≡ Some files → map.get files (job_of encoded).name ≡ Some bytes → All (λ b. b < 2 ^ 8) bytes → one.status ≡ 0
    → other.before ≡ one.now → IsUndisturbed other → other.status ≢ 6 → RunComesBack (job_of listed) bytes other

-- the same words ask for one thing
abbrev pub WordsAskForOneThing : Type 0
WordsAskForOneThing = (words : Words) (one other : Request) → Asks words one → Asks words other → AskTheSame one other

-- an accepted profile has one code: two codes of it are alike
abbrev pub CodesAreOne : Type 0
CodesAreOne = (p : Profile) (one other : CodeRows) → IsAccepted p → IsCodeOf p one → IsCodeOf p other → AreAlike one other

-- a text is refused with one fault, or gives one profile, and never both
pub record ProfilesAreOne : Type 0 where
  pub refused : (text : List ℕ) (f g : ProfileFault) → IsRefused text f → IsRefused text g → f ≡ g
  pub given : (text : List ℕ) (p q : Profile) → GivesProfile text p → GivesProfile text q → p ≡ q
  pub either : (text : List ℕ) (f : ProfileFault) (p : Profile) → IsRefused text f → GivesProfile text p → ⊥

-- Two runs that do what the same words ask for, by boxes of the same names and over the same files, end alike: the outcome is one
-- function of the words and the files
abbrev pub OutcomesAreOne : (List ℕ → Type 0) → Type 0
OutcomesAreOne named =
    (words : Words) (request again : Request) (one other : Run) (files : FileMap) → Asks words request → Asks words again
    → IsDone named request one → IsDone named again other → one.before ≡ Some files → other.before ≡ Some files → HoldBytes files
    → IsUndisturbed one → IsUndisturbed other → EndAlike one other

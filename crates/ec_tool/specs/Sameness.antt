-- When two requests and two runs are the same. Source: this project.
use Rattle.std.specs.Prelude.{◌≡◌, ◌≢◌, ◌<◌, ◌^◌, ⊤, ℕ, List, Some}
use Rattle.std.specs.FinMap as map
use Rattle.std.specs.Io.KnownBytes.{Appends}
use Rattle.std.specs.List.{All}
use Rattle.ec_tool.specs.Headline.{Run}
use Rattle.ec_files.specs.Jobs.{job_of}
use Rattle.ec_tool.specs.Words.{texts_of}
use Rattle.ec_tool.specs.declared.request.Request.{Request}
use Rattle.ec_tool.specs.declared.request.Request.TheVariants.{Wrong, Exists, Validate, Size, Encode, Decode}

-- two requests are of one kind, with the same texts and numbers
abbrev pub AskTheSame : Request → Request → Type 0
AskTheSame Wrong Wrong = ⊤
AskTheSame (Exists plugin) (Exists other) = plugin.now ≡ other.now
AskTheSame (Validate profile parameters) (Validate other others) = (profile.now ≡ other.now) × (texts_of parameters.now ≡ texts_of others.now)
AskTheSame (Size profile size) (Size other its_size) = (profile.now ≡ other.now) × (size ≡ its_size)
AskTheSame (Encode coding) (Encode other) = job_of coding ≡ job_of other
AskTheSame (Decode coding) (Decode other) = job_of coding ≡ job_of other
AskTheSame _ _ = ⊥

-- a run came to its own end: the files and the output did not fail, and memory did not run out
pub record IsUndisturbed (run : Run) : Type 0 where
  pub files : run.status ≢ 5
  pub output : run.status ≢ 9
  pub memory : run.status ≢ 13

-- two runs ended alike: in their status, in the line that was said, and in the files after
pub record EndAlike (one other : Run) : Type 0 where
  pub status : one.status ≡ other.status
  pub line : List ℕ
  pub said : Appends one.said_before one.said_now line
  pub said_too : Appends other.said_before other.said_now line
  pub files : one.now ≡ other.now

-- The promise of the tool: a run does what its words ask for, by the codes of the profile and the files that are there.
-- Source: this project, after ceph-erasure-code-tool.
-- Read first: Words.antt (what the words ask for), Outcomes.antt (refusals), Texts.antt (lines), and of ec_files Chunks.antt and
-- Runs.antt (what encoding and decoding come to) and Outcomes.antt (failures).
use Rattle.std.specs.Prelude.{◌≡◌, ◌⊎◌, ℕ, List, Option}
use Rattle.ec_files.specs.Files.{FileMap}
use Rattle.ec_tool.specs.Outcomes.{Shows, Codes}
use Rattle.ec_files.specs.Outcomes.{EncodeEnds, DecodeEnds}
use Rattle.ec_files.specs.Jobs.{job_of}
use Rattle.ec_tool.specs.Parameters.{parameters_text, size_text}
use Rattle.ec_tool.specs.Texts.{EndsWith, exists_line, unknown_plugin_line}
use Rattle.ec_files.specs.Texts.{usage_line}
use Rattle.ec_tool.specs.Words.{texts_of}
use Rattle.ec_tool.specs.declared.request.Request.{Request}
use Rattle.ec_tool.specs.declared.request.Request.TheVariants.{Wrong, Exists, Validate, Size, Encode, Decode}

-- a run: its status, what was said, the files if they are told, and the count of their faults, before it and now
pub record Run : Type 0 where
  pub status : ℕ
  pub said_before : Option (List ℕ)
  pub said_now : Option (List ℕ)
  pub before : Option FileMap
  pub now : Option FileMap
  pub was : ℕ
  pub is : ℕ

-- no file changed, and no call of the files failed
abbrev pub LeavesFiles : Run → Type 0
LeavesFiles run = (run.now ≡ run.before) × (run.is ≡ run.was)

-- what is asked for comes to this status and this line; `named` says for which names there is a box
abbrev pub Does : (List ℕ → Type 0) → Request → ℕ → List ℕ → Run → Type 0
Does named Wrong status line run = (status ≡ 2) × (line ≡ usage_line) × LeavesFiles run
Does named (Exists plugin) status line run =
    ((named plugin.now × (status ≡ 0) × (line ≡ exists_line)) ⊎ ((named plugin.now → ⊥) × (status ≡ 1) × (line ≡ unknown_plugin_line)))
    × LeavesFiles run
Does named (Validate profile parameters) status line run =
    Shows profile.now (λ code. parameters_text code (texts_of parameters.now)) status line × LeavesFiles run
Does named (Size profile size) status line run = Shows profile.now (λ code. size_text code size) status line × LeavesFiles run
Does named (Encode coding) status line run = Codes EncodeEnds (job_of coding) status line run.before run.now run.was run.is
Does named (Decode coding) status line run = Codes DecodeEnds (job_of coding) status line run.before run.now run.was run.is

-- a run does what is asked for: it ended with the status and the line of that, or the output failed in the line, or memory ran out
pub record IsDone (named : List ℕ → Type 0) (request : Request) (run : Run) : Type 0 where
  pub status : ℕ
  pub line : List ℕ
  pub does : Does named request status line run
  pub ends : EndsWith status line run.said_before run.said_now run.status

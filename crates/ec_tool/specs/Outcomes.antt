-- The outcomes of the commands: a status, a line, and the files. Source: this project.
-- `before` and `now` are the files, if they are told; `was` and `is` are the counts of their faults.
use Rattle.std.specs.Prelude.{◌≡◌, ◌<◌, ◌⊎◌, ℕ, List, [], length, take, slice_index, Option}
use Rattle.ec_model.specs.Codes.{CodeRows, IsCode}
use Rattle.ec_code.specs.declared.profile.Profile.{Profile}
use Rattle.ec_code.specs.declared.fault.ProfileFault.{ProfileFault}
use Rattle.ec_code.specs.Refusals.{IsCodeOf}
use Rattle.plugin_reg.specs.Opening.{GivesProfile, IsRefused, fault_line}
use Rattle.ec_files.specs.Files.{FileMap}
use Rattle.ec_files.specs.Outcomes.{RunsOut}
use Rattle.ec_tool.specs.Jobs.{IsRefusedJob, GivesJob}
use Rattle.ec_files.specs.Jobs.{Job}

-- a line is shown of an accepted profile and its code; or the profile is refused by its first fault, or memory ran out
abbrev pub Shows : List ℕ → (CodeRows → List ℕ) → ℕ → List ℕ → Type 0
Shows profile shown status line =
    RunsOut status line
    ⊎ ((f : ProfileFault) × IsRefused profile f × (status ≡ 3) × (line ≡ fault_line f))
    ⊎ ((p : Profile) × (code : CodeRows) × GivesProfile profile p × IsCodeOf p code × (status ≡ 0) × (line ≡ shown code))

-- files are coded by the code of a job's profile; or the profile or the unit is refused, or memory ran out before, and no file changed
abbrev pub Codes : (CodeRows → Job → ℕ → List ℕ → Option FileMap → Option FileMap → ℕ → ℕ → Type 0)
    → Job → ℕ → List ℕ → Option FileMap → Option FileMap → ℕ → ℕ → Type 0
Codes Ends job status line before now was is =
    (RunsOut status line × (now ≡ before) × (is ≡ was))
    ⊎ ((f : ProfileFault) × IsRefusedJob job f × (status ≡ 3) × (line ≡ fault_line f) × (now ≡ before) × (is ≡ was))
    ⊎ ((p : Profile) × (code : CodeRows) × GivesJob job p × IsCodeOf p code × IsCode code × Ends code job status line before now was is)

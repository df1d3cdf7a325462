-- A job, and the reasons to stop before its files. Source: this project.
use Rattle.std.specs.Prelude.{◌≡◌, ◌⊎◌}
use Rattle.ec_code.specs.Bounds.{IsUnit}
use Rattle.ec_code.specs.declared.profile.Profile.{Profile}
use Rattle.ec_code.specs.declared.fault.ProfileFault.{ProfileFault}
use Rattle.ec_code.specs.declared.fault.ProfileFault.TheVariants as fault
use Rattle.plugin_reg.specs.Opening.{GivesProfile, IsRefused}
use Rattle.ec_files.specs.Jobs.{Job}

-- a job is refused: its profile with its first fault, or else its unit
abbrev pub IsRefusedJob : Job → ProfileFault → Type 0
IsRefusedJob job f = IsRefused job.profile f ⊎ ((p : Profile) × GivesProfile job.profile p × (IsUnit job.unit → ⊥) × (f ≡ fault.Unit))

-- a job is accepted: its profile is this one, and its unit is accepted
pub record GivesJob (job : Job) (p : Profile) : Type 0 where
  pub profile : GivesProfile job.profile p
  pub unit : IsUnit job.unit

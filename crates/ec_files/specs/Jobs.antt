-- A job: the chunks of some positions. Source: this project.
use Rattle.std.specs.Prelude.{ℕ, List}
use Rattle.ec_files.specs.declared.job.Coding.{Coding}

-- a job: the chunks of some positions, by the code of a profile, in stripes of units of these bytes
pub record Job : Type 0 where
  pub profile : List ℕ
  pub unit : ℕ
  pub wanted : List ℕ
  pub name : List ℕ

-- the job of a request
abbrev pub job_of : Coding → Job
job_of coding = record { profile = coding.profile.now; unit = coding.unit; wanted = coding.wanted.items; name = coding.name.now }

-- The state of a pool by what its shards say. Source: this project.
use Rattle.std.specs.Prelude.{◌≡◌, ◌↔◌, ◌<◌, ◌≤◌, ◌⊎◌, ℕ}
use Rattle.ec_model.specs.Codes.{CodeRows, HasPosition, count_below}
use Rattle.auth_log.specs.Choice.{Info, PeeringInput, Survey, IsEligible, IsSurvey, IsSufficient, IsBlocked, DecidesAll}

-- no version can be said, since too few of the eligible slots are left of the interval of this epoch; a version is said, and
-- fewer slots than `min` have joined; the pool serves with the slots that have joined
pub data State : Type 0 where
  Down : (epoch eligible : ℕ) → State
  Short : (joined min : ℕ) → State
  Active : (joined : ℕ) → State

-- the eligible slots that hold the authoritative version; `holds` is a mask of all slots that do
abbrev pub IsJoinedSet : PeeringInput → ℕ → ℕ → Type 0
IsJoinedSet peers holds joined = (p : ℕ) → HasPosition joined p ↔ (HasPosition holds p × ((info : Info) × IsEligible peers p info))

-- the slots that have joined if the eligible ones are sufficient
pub record Joins (code : CodeRows) (peers : PeeringInput) (holds joined : ℕ) : Type 0 where
  pub sufficient : IsSufficient code peers
  pub joined_set : IsJoinedSet peers holds joined
  pub decides : DecidesAll code joined

-- the eligible slots are sufficient, and those that hold the version do not decide all
pub record IsUnheld (code : CodeRows) (peers : PeeringInput) (holds epoch eligible : ℕ) : Type 0 where
  pub sufficient : IsSufficient code peers
  pub survey : Survey
  pub surveyed : IsSurvey peers survey
  pub started : epoch ≡ survey.epoch
  pub slots : eligible ≡ survey.eligible
  pub joined : ℕ
  pub joined_set : IsJoinedSet peers holds joined
  pub undecided : DecidesAll code joined → ⊥

-- the state of a pool that serves with `min` slots or more
abbrev pub IsState : CodeRows → PeeringInput → ℕ → ℕ → State → Type 0
IsState code peers min holds (Down epoch eligible) = IsBlocked code peers epoch eligible ⊎ IsUnheld code peers holds epoch eligible
IsState code peers min holds (Short joined least) = Joins code peers holds joined × ((count_below joined code.n < min) × (least ≡ min))
IsState code peers min holds (Active joined) = Joins code peers holds joined × (min ≤ count_below joined code.n)

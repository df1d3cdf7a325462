-- Laws about the definitions of this crate. Source: this project.
use Rattle.std.specs.Prelude.{◌≡◌, ◌↔◌, ◌⊎◌, ◌<◌, ◌≤◌, ◌^◌, nat_le, ℕ, List, filter}
use Rattle.ec_model.specs.Codes.{CodeRows, HasPosition}
use Rattle.ec_model.specs.Versions.{Version}
use Rattle.ec_words.specs.Intervals.{Interval}
use Rattle.auth_log.specs.Choice.{PeeringInput, Survey, WentAlive, IsSurvey, IsSufficient, IsBlocked, DecidesAll}
use Rattle.auth_log.specs.States.{State, IsJoinedSet, IsState}

-- the same with these slots up
abbrev pub with_up : ℕ → PeeringInput → PeeringInput
with_up up peers = record { kept = peers.kept; said = peers.said; up = up }

-- these slots and perhaps some more
abbrev pub IsGreater : ℕ → ℕ → Type 0
IsGreater up more = (p : ℕ) → HasPosition up p → HasPosition more p

-- a greater set of a sufficient set is sufficient
abbrev pub GreaterSetIsSufficient : Type 0
GreaterSetIsSufficient = (code : CodeRows) (peers : PeeringInput) (more : ℕ) → more < 2 ^ 16 → IsGreater peers.up more → IsSufficient code peers
    → IsSufficient code (with_up more peers)

-- a greater set chooses from no older epoch
abbrev pub GreaterSetChoosesNoOlderEpoch : Type 0
GreaterSetChoosesNoOlderEpoch = (peers : PeeringInput) (more : ℕ) (one other : Survey) → IsGreater peers.up more
    → IsSurvey peers one → IsSurvey (with_up more peers) other → one.epoch ≤ other.epoch

-- there is a survey of any slots
abbrev pub SurveyIsThere : Type 0
SurveyIsThere = (peers : PeeringInput) → peers.up < 2 ^ 16 → (survey : Survey) × IsSurvey peers survey

-- there is no more than one survey
abbrev pub SurveyIsOne : Type 0
SurveyIsOne = (peers : PeeringInput) (one other : Survey) → IsSurvey peers one → IsSurvey peers other → one ≡ other

-- no set is both sufficient and blocked, and it is blocked at one epoch
abbrev pub BlockedIsOne : Type 0
BlockedIsOne = (code : CodeRows) (peers : PeeringInput) (epoch up : ℕ) → IsBlocked code peers epoch up
    → (IsSufficient code peers → ⊥) × ((other slots : ℕ) → IsBlocked code peers other slots → (epoch ≡ other) × (up ≡ slots))

-- a pool has no more than one state
abbrev pub StateIsOne : Type 0
StateIsOne = (code : CodeRows) (peers : PeeringInput) (min holds : ℕ) (one other : State) → IsState code peers min holds one → IsState code peers min holds other → one ≡ other

-- if each set of positions decides all or does not, a pool has a state
abbrev pub StateIsThere : Type 0
StateIsThere = (code : CodeRows) (peers : PeeringInput) (min holds : ℕ) → ((from : ℕ) → DecidesAll code from ⊎ (DecidesAll code from → ⊥)) → peers.up < 2 ^ 16
    → (state : State) × IsState code peers min holds state

-- what is said of the slots that are up is the same
pub record AreAlike (one other : PeeringInput) : Type 0 where
  pub kept : one.kept ≡ other.kept
  pub up : one.up ≡ other.up
  pub said : (p : ℕ) → HasPosition one.up p → one.said p ≡ other.said p

-- what is surveyed, sufficient and joined of the one is so of the other
pub record ChooseAlike (code : CodeRows) (one other : PeeringInput) : Type 0 where
  pub surveyed : (survey : Survey) → IsSurvey one survey → IsSurvey other survey
  pub sufficient : IsSufficient code one → IsSufficient code other
  pub joined : (holds joined : ℕ) → IsJoinedSet one holds joined → IsJoinedSet other holds joined

-- only what slots that are up say counts
abbrev pub OnlyUpSlotsCount : Type 0
OnlyUpSlotsCount = (code : CodeRows) (one other : PeeringInput) → AreAlike one other → ChooseAlike code one other

-- of the intervals from an epoch on, those went alive that did so among all and have no lesser epoch
abbrev pub AliveAmongKept : Type 0
AliveAmongKept = (intervals : List Interval) (clean epoch joined : ℕ) (base : Version)
    → WentAlive (filter (λ i. nat_le clean i.epoch) intervals) epoch joined base ↔ (WentAlive intervals epoch joined base × (clean ≤ epoch))

-- Which version is the pool's. Source: this project; the greatest epoch started and the least head after Ceph developer guide,
-- "Erasure Coded pool" and "Peering".
use Rattle.std.specs.Prelude.{◌≡◌, ◌↔◌, ◌<◌, ◌≤◌, ◌⊎◌, ℕ, Bool, true, false, List, Some, None, bit_and, slice_get, slice_index_or}
use Rattle.std.specs.declared.option.Option.{Option}
use Rattle.ec_model.specs.Codes.{CodeRows, HasPosition, DecidesOne}
use Rattle.ec_model.specs.Versions.{Version, is_up_to, zero_version}
use Rattle.ec_words.specs.Intervals.{Interval}
pub use Rattle.ec_words.specs.Intervals.{JoinedLieBelow}

-- what a shard says of itself: the last epoch that it started, its newest version, and whether it is being filled
pub record Info : Type 0 where
  pub les : ℕ
  pub head : Version
  pub partial : Bool

-- what a choice rests on beside the code: the intervals that are kept, what the shard of each slot says if it says anything,
-- and the mask of the slots that are up
pub record PeeringInput : Type 0 where
  pub kept : List Interval
  pub said : ℕ → Option Info
  pub up : ℕ

-- what the slots of a list say
abbrev pub said_in : List (Option Info) → ℕ → Option Info
said_in infos p = slice_index_or infos p None

-- some interval of a list has this epoch and went alive, with this joined set and this base
pub record WentAlive (intervals : List Interval) (epoch joined : ℕ) (base : Version) : Type 0 where
  pub place : ℕ
  pub interval : Interval
  pub there : slice_get intervals place ≡ Some interval
  pub dated : interval.epoch ≡ epoch
  pub alive : interval.alive ≡ Some (joined, base)

-- slots with what their shards say: those that are up, whose shard is not partial and last started an interval that is kept
-- and went alive
pub record IsEligible (peers : PeeringInput) (p : ℕ) (info : Info) : Type 0 where
  pub up : HasPosition peers.up p
  pub says : peers.said p ≡ Some info
  pub whole : info.partial ≡ false
  pub joined : ℕ
  pub base : Version
  pub started : WentAlive peers.kept info.les joined base

-- a mask has the slots of a set and no others
abbrev pub HasAll : (ℕ → Info → Type 0) → ℕ → Type 0
HasAll among mask = (p : ℕ) → HasPosition mask p ↔ ((info : Info) × among p info)

-- there is no slot in a set
abbrev pub IsEmpty : (ℕ → Info → Type 0) → Type 0
IsEmpty among = (p : ℕ) (info : Info) → among p info → ⊥

-- some slot of a set started this epoch last
pub record HasStarted (among : ℕ → Info → Type 0) (epoch : ℕ) : Type 0 where
  pub p : ℕ
  pub info : Info
  pub is_in : among p info
  pub started : info.les ≡ epoch

-- the greatest epoch that a slot of a set started, and 0 if no slot is in it
pub record IsGreatestEpoch (among : ℕ → Info → Type 0) (epoch : ℕ) : Type 0 where
  pub greatest : (p : ℕ) (info : Info) → among p info → info.les ≤ epoch
  pub started : HasStarted among epoch ⊎ (IsEmpty among × (epoch ≡ 0))

-- some slot of a set started this epoch last and has this version as its head
pub record HasHead (among : ℕ → Info → Type 0) (epoch : ℕ) (version : Version) : Type 0 where
  pub p : ℕ
  pub info : Info
  pub is_in : among p info
  pub started : info.les ≡ epoch
  pub headed : info.head ≡ version

-- the least head of the slots of a set that started this epoch last, and (0, 0) if none did
pub record IsLeastHead (among : ℕ → Info → Type 0) (epoch : ℕ) (version : Version) : Type 0 where
  pub least : (p : ℕ) (info : Info) → among p info → info.les ≡ epoch → is_up_to version info.head ≡ true
  pub headed : HasHead among epoch version ⊎ ((HasStarted among epoch → ⊥) × (version ≡ zero_version))

-- what the eligible slots say together: their mask, the greatest epoch that they started, and the authoritative version. That is
-- the least head of those that started this epoch
pub record Survey : Type 0 where
  pub eligible : ℕ
  pub epoch : ℕ
  pub version : Version

-- a survey of these slots
pub record IsSurvey (peers : PeeringInput) (survey : Survey) : Type 0 where
  pub eligible : HasAll (IsEligible peers) survey.eligible
  pub epoch : IsGreatestEpoch (IsEligible peers) survey.epoch
  pub version : IsLeastHead (IsEligible peers) survey.epoch survey.version

-- a set of positions decides every position
abbrev pub DecidesAll : CodeRows → ℕ → Type 0
DecidesAll code from = (p : ℕ) → p < code.n → DecidesOne code from p

-- of each kept interval that went alive, from the greatest epoch on, the eligible members of the joined set decide all
pub record IsSufficient (code : CodeRows) (peers : PeeringInput) : Type 0 where
  pub survey : Survey
  pub surveyed : IsSurvey peers survey
  pub decided : (epoch joined : ℕ) (base : Version) → WentAlive peers.kept epoch joined base → survey.epoch ≤ epoch
      → DecidesAll code (bit_and joined survey.eligible)

-- a kept interval of this epoch went alive, from the greatest epoch on, and the eligible members of its joined set do not
-- decide all
pub record IsUndecided (code : CodeRows) (peers : PeeringInput) (survey : Survey) (epoch : ℕ) : Type 0 where
  pub joined : ℕ
  pub base : Version
  pub alive : WentAlive peers.kept epoch joined base
  pub late : survey.epoch ≤ epoch
  pub undecided : DecidesAll code (bit_and joined survey.eligible) → ⊥

-- the least such epoch, with the mask of the eligible slots
pub record IsBlocked (code : CodeRows) (peers : PeeringInput) (epoch up : ℕ) : Type 0 where
  pub survey : Survey
  pub surveyed : IsSurvey peers survey
  pub slots : up ≡ survey.eligible
  pub undecided : IsUndecided code peers survey epoch
  pub least : (other : ℕ) → IsUndecided code peers survey other → epoch ≤ other

-- what is chosen if the eligible slots are sufficient: the authoritative version, and the greatest epoch that they started
pub record IsChosen (code : CodeRows) (peers : PeeringInput) (epoch : ℕ) (version : Version) : Type 0 where
  pub sufficient : IsSufficient code peers
  pub survey : Survey
  pub surveyed : IsSurvey peers survey
  pub started : epoch ≡ survey.epoch
  pub headed : version ≡ survey.version

-- Which version an image gives, and what it shows of it. Source: this project.
use Rattle.std.specs.Prelude.{◌≡◌, ◌↔◌, ℕ}
use Rattle.ec_model.specs.Codes.{HasPosition}
use Rattle.ec_model.specs.Versions.{Version}
use Rattle.ec_positions.specs.Objects.{Objects}
use Rattle.auth_log.specs.Choice.{Survey, IsSurvey, IsSufficient, DecidesAll}
use Rattle.auth_log.specs.States.{IsJoinedSet}
use Rattle.shard_model.specs.Replays.{Replay, objects_at}
use Rattle.pool_history.specs.Images.{StoredPool, HasShard, SlotHolds, peers_of}
use Rattle.pool_history.specs.Layouts.{Layout, geometry_of, shard_at}

-- of the slots that are up, a mask has those that hold a version
abbrev pub IsHolding : Layout → StoredPool → ℕ → Version → ℕ → Type 0
IsHolding layout image up version holding = (p : ℕ) → HasPosition up p → HasPosition holding p ↔ SlotHolds layout image p version

-- the slots that are up are sufficient: they give this authoritative version, and those of them that hold it have joined
pub record Chooses (layout : Layout) (image : StoredPool) (up joined : ℕ) (version : Version) : Type 0 where
  pub sufficient : IsSufficient layout.code (peers_of image up)
  pub survey : Survey
  pub surveyed : IsSurvey (peers_of image up) survey
  pub chosen : version ≡ survey.version
  pub holding : ℕ
  pub held : IsHolding layout image up version holding
  pub joined_set : IsJoinedSet (peers_of image up) holding joined

-- at a version slot p's shard is what position p holds of some objects
pub record ShowsAt (layout : Layout) (image : StoredPool) (version : Version) (objects : Objects) (p : ℕ) : Type 0 where
  pub shard : Replay
  pub has : HasShard image p shard
  pub shows : objects_at (geometry_of layout) shard version ≡ shard_at layout p objects

-- joined slots represent objects at a version: they decide all, and each of them has its position
pub record Represents (layout : Layout) (image : StoredPool) (joined : ℕ) (version : Version) (objects : Objects) : Type 0 where
  pub decides : DecidesAll layout.code joined
  pub each : (p : ℕ) → HasPosition joined p → ShowsAt layout image version objects p

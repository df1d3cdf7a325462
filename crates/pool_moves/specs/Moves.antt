-- How the contents of a pool's slots go from one to the next while a pool starts. Source: this project; intervals and the
-- epochs that shards start after Ceph developer guide, "Peering".
use Rattle.std.specs.Prelude.{◌≡◌, ◌↔◌, ◌<◌, ◌⊎◌, ℕ, true, Some}
use Rattle.ec_model.specs.Codes.{CodeRows, HasPosition}
use Rattle.ec_model.specs.Versions.{Version}
use Rattle.auth_log.specs.Choice.{Info, PeeringInput, IsEligible, IsChosen}
use Rattle.map_model.specs.States.{fits, kept, last_epoch}
use Rattle.map_model.specs.Steps as map
use Rattle.pool_history.specs.Images.{IsLastAlive, said_of}
use Rattle.shard_model.specs.Replays.{Replay, head, state_of, replay_from}
use Rattle.shard_model.specs.States.{holds}
use Rattle.pool_map.specs.Pool.{map_after}
use Rattle.pool_slots.specs.Slots.{start_steps}
use Rattle.pool_moves.specs.Contents.{Layout, Contents, with_shard, with_map}

-- what the shards of some slots say in these contents
pub record Says (c : Contents) (up : ℕ) (peers : PeeringInput) : Type 0 where
  pub kept : peers.kept ≡ kept c.map.state
  pub up_is : peers.up ≡ up
  pub said : (p : ℕ) → HasPosition up p → peers.said p ≡ said_of (c.shards p)

-- a slot's shard holds a version
pub record HoldsAt (l : Layout) (c : Contents) (p : ℕ) (v : Version) : Type 0 where
  pub replay : Replay
  pub there : c.shards p ≡ Some replay
  pub held : holds (state_of l.geometry replay) v ≡ true

-- the version that these slots choose, and those of them that hold it
pub record Chooses (code : CodeRows) (l : Layout) (c : Contents) (up : ℕ) (joined : ℕ) (base : Version) : Type 0 where
  pub peers : PeeringInput
  pub says : Says c up peers
  pub epoch : ℕ
  pub chosen : IsChosen code peers epoch base
  pub members : (p : ℕ) → HasPosition joined p ↔ (((info : Info) × IsEligible peers p info) × HoldsAt l c p base)

-- an interval begins
pub record Begins (before after : Contents) : Type 0 where
  pub epoch : ℕ
  pub up : ℕ
  pub fit : fits before.map.n before.map.state (map.Begin epoch up) ≡ true
  pub is : after ≡ with_map before (map_after before.map (map.Begin epoch up))

-- the last interval goes alive with the version that its slots choose
pub record GoesAlive (code : CodeRows) (l : Layout) (before after : Contents) : Type 0 where
  pub joined : ℕ
  pub base : Version
  pub up : ℕ
  pub fit : fits before.map.n before.map.state (map.Alive (last_epoch before.map.state.intervals) joined base) ≡ true
  pub chooses : Chooses code l before up joined base
  pub is : after ≡ with_map before (map_after before.map (map.Alive (last_epoch before.map.state.intervals) joined base))

-- a shard of the joined set starts the newest epoch that went alive, at its base
pub record Starts (l : Layout) (epoch joined : ℕ) (base : Version) (before after : Contents) : Type 0 where
  pub p : ℕ
  pub newest : IsLastAlive before.map.state.intervals epoch joined base
  pub member : HasPosition joined p
  pub was : Replay
  pub there : before.shards p ≡ Some was
  pub older : was.les < epoch
  pub now : Replay
  pub led : replay_from l.geometry was (start_steps epoch base (head was)) ≡ Some now
  pub is : after ≡ with_shard before p (Some now)

-- so for some epoch
pub record StartsSome (l : Layout) (before after : Contents) : Type 0 where
  pub epoch : ℕ
  pub joined : ℕ
  pub base : Version
  pub starts : Starts l epoch joined base before after

-- one of these
abbrev pub Move : CodeRows → Layout → Contents → Contents → Type 0
Move code l before after = Begins before after ⊎ (GoesAlive code l before after ⊎ StartsSome l before after)

-- any number of steps of a kind
pub data Chain (Step : Contents → Contents → Type 0) (first : Contents) : Contents → Type 0 where
  Stays : Chain Step first first
  GoesOn : (mid after : Contents) → Chain Step first mid → Step mid after → Chain Step first after

-- What stands on a pool's devices at one instant, as its map and its shards. Source: this project.
use Rattle.std.specs.Prelude.{◌≡◌, ◌<◌, ◌≤◌, ◌*◌, ℕ, true, false, List, Some, None}
use Rattle.std.specs.declared.option.Option.{Option}
use Rattle.ec_model.specs.Codes.{IsCode}
use Rattle.ec_model.specs.Versions.{Version}
use Rattle.ec_words.specs.Intervals.{Interval}
use Rattle.auth_log.specs.Choice.{Info, PeeringInput, WentAlive}
use Rattle.map_model.specs.States.{MapImage, kept}
use Rattle.map_model.specs.Sound.{IsSound}
use Rattle.shard_model.specs.Replays.{Replay, head, state_of, IsWhole}
use Rattle.shard_model.specs.States.{holds}
use Rattle.pool_history.specs.Layouts.{Layout, geometry_of}

-- the pool's map, and the shard of each slot that has one, as its steps are replayed
pub record StoredPool : Type 0 where
  pub map : MapImage
  pub shards : ℕ → Option Replay

-- what holds of every image whose steps fit: the map is sound, each shard is whole, and only positions of the code have one
pub record IsStoredPool (layout : Layout) (image : StoredPool) : Type 0 where
  pub code : IsCode layout.code
  pub stripes : 0 < layout.code.k * layout.unit
  pub positions : image.map.n ≡ layout.code.n
  pub map : IsSound image.map.n image.map.state
  pub shards : (p : ℕ) (s : Replay) → image.shards p ≡ Some s → IsWhole (geometry_of layout) s
  pub below : (p : ℕ) (s : Replay) → image.shards p ≡ Some s → p < layout.code.n

-- slot p has a shard that is not being filled
pub record HasShard (image : StoredPool) (p : ℕ) (s : Replay) : Type 0 where
  pub there : image.shards p ≡ Some s
  pub whole : s.partial ≡ false

-- an interval went alive, and none of a later epoch did
pub record IsLastAlive (intervals : List Interval) (epoch joined : ℕ) (base : Version) : Type 0 where
  pub alive : WentAlive intervals epoch joined base
  pub last : (other others : ℕ) (its : Version) → WentAlive intervals other others its → other ≤ epoch

-- a shard can be rolled back to a version
abbrev pub Holds : Layout → Replay → Version → Type 0
Holds layout s v = holds (state_of (geometry_of layout) s) v ≡ true

-- the shard of slot p can
pub record SlotHolds (layout : Layout) (image : StoredPool) (p : ℕ) (v : Version) : Type 0 where
  pub shard : Replay
  pub has : HasShard image p shard
  pub holds : Holds layout shard v

-- what a shard says of itself
abbrev pub info_of : Replay → Info
info_of s = record { les = s.les; head = head s; partial = s.partial }

-- what a slot says; one without a shard says nothing
abbrev pub said_of : Option Replay → Option Info
said_of None = None
said_of (Some s) = Some (info_of s)

-- what a choice among the slots of a mask rests on
abbrev pub peers_of : StoredPool → ℕ → PeeringInput
peers_of image up = record { kept = kept image.map.state; said = λ p. said_of (image.shards p); up = up }

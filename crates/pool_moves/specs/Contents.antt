-- What a crash image of a pool's slots comes to. Source: this project.
use Rattle.std.specs.Prelude.{◌≡◌, ◌<◌, ◌==◌, ℕ, if◌then◌else◌, List, Some, None}
use Rattle.std.specs.declared.option.Option.{Option}
use Rattle.ec_model.specs.Codes.{CodeRows}
use Rattle.ec_code.specs.declared.profile.Profile.{Profile}
use Rattle.rig_disk.specs.Disk.{Image}
use Rattle.shard_model.specs.Objects.{Geometry}
use Rattle.shard_model.specs.Replays.{Replay, replay_of}
use Rattle.shard_model.specs.Steps.{Step}
use Rattle.slot_journal.specs.InUse.{text_in_use}
use Rattle.shard_store.specs.Stories.{HasShard, shard_head}
use Rattle.pool_map.specs.Maps.{PoolImage, HasMap, map_slot}

-- how the slots of a pool are read: the geometry of its shards, and the count of its positions
pub record Layout : Type 0 where
  pub geometry : Geometry
  pub n : ℕ

-- that of a pool with this profile and its code
abbrev pub layout_of : Profile → CodeRows → Layout
layout_of p code = record { geometry = record { k = code.k; unit = p.stripe_unit }; n = code.n }

-- the map, and what the steps of each slot come to, if the slot has a shard
pub record Contents : Type 0 where
  pub map : PoolImage
  pub shards : ℕ → Option Replay

-- a text is that of a shard, and its steps come to this
pub record HasReplay (g : Geometry) (head text : List ℕ) (r : Replay) : Type 0 where
  pub steps : List Step
  pub has : HasShard g head text steps
  pub led : replay_of g steps ≡ Some r

-- a text is that of a shard which comes to this, or of none
abbrev pub IsShardOf : Geometry → List ℕ → List ℕ → Option Replay → Type 0
IsShardOf g head text None = (steps : List Step) → HasShard g head text steps → ⊥
IsShardOf g head text (Some r) = HasReplay g head text r

-- the same of the text in use of a slot of the pool
abbrev pub SlotHasShard : Layout → Image → ℕ → Option Replay → Type 0
SlotHasShard l image u shard = IsShardOf l.geometry (shard_head u l.geometry l.n) (text_in_use u (image u)) shard

-- an image comes to this
pub record HasContents (l : Layout) (image : Image) (c : Contents) : Type 0 where
  pub map : HasMap (image map_slot) c.map
  pub same_n : c.map.n ≡ l.n
  pub shards : (u : ℕ) → u < l.n → SlotHasShard l image u (c.shards u)

-- the same with another shard in a slot
abbrev pub with_shard : Contents → ℕ → Option Replay → Contents
with_shard c p shard = record { map = c.map; shards = λ u. if u == p then shard else c.shards u }

-- the same with another map
abbrev pub with_map : Contents → PoolImage → Contents
with_map c map = record { map = map; shards = c.shards }

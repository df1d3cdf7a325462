-- What the making of a pool leaves at each of its instants. Source: this project.
use Rattle.std.specs.Prelude.{◌≡◌, ◌⊎◌, ◌<◌, ◌≤◌, ℕ, Some, None, false}
use Rattle.ec_code.specs.declared.profile.Profile.{Profile}
use Rattle.rig_disk.specs.Disk.{Image}
use Rattle.shard_model.specs.Replays.{Replay, replay_of}
use Rattle.shard_store.specs.Stories.{first_steps}
use Rattle.slot_journal.specs.InUse.{text_in_use}
use Rattle.pool_map.specs.Maps.{IsNoPool, map_slot}
use Rattle.pool_map.specs.Pool.{IsNewMap}
use Rattle.pool_moves.specs.Contents.{Layout, Contents, HasContents}

-- the contents of a new pool: in interval 1 all positions joined, and the shard of each has started it and has no entry
pub record IsFirst (l : Layout) (p : Profile) (k : ℕ) (c : Contents) : Type 0 where
  pub map : IsNewMap c.map p k l.n
  pub none : (u : ℕ) → l.n ≤ u → c.shards u ≡ None
  pub shards : (u : ℕ) → u < l.n → (r : Replay) × (c.shards u ≡ Some r) × (replay_of l.geometry (first_steps false) ≡ Some r)

-- an image comes to these contents
pub record IsCreated (l : Layout) (p : Profile) (k : ℕ) (image : Image) : Type 0 where
  pub contents : Contents
  pub has : HasContents l image contents
  pub is_first : IsFirst l p k contents

-- it has no pool, or a new one whole
abbrev pub HasNoneOrFirst : Layout → Profile → ℕ → Image → Type 0
HasNoneOrFirst l p k image = IsNoPool (text_in_use map_slot (image map_slot)) ⊎ IsCreated l p k image

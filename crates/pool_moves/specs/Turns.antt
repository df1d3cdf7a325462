-- What a turn of a pool comes to. Source: this project.
use Rattle.std.specs.Prelude.{◌≡◌, ◌≤◌, ◌<◌, ◌+◌, ℕ, zero, suc, false, List, Some, is_some, if◌then◌else◌}
use Rattle.ec_model.specs.Codes.{HasPosition}
use Rattle.ec_model.specs.Versions.{Version}
use Rattle.rig_disk.specs.Disk.{Image}
use Rattle.shard_model.specs.Replays.{Replay}
use Rattle.shard_store.specs.Shelved.{Shelved}
use Rattle.shard_store.specs.Shelves.{store_at}
use Rattle.pool_history.specs.Images.{IsLastAlive}
use Rattle.pool_moves.specs.Contents.{Layout, Contents, HasContents}

-- a slot's shard is whole and has started an epoch
pub record HasReached (c : Contents) (epoch p : ℕ) : Type 0 where
  pub replay : Replay
  pub there : c.shards p ≡ Some replay
  pub whole : replay.partial ≡ false
  pub reached : epoch ≤ replay.les

-- the last interval that went alive has this epoch, joined set and base, and each of its members has started it
pub record IsComplete (l : Layout) (c : Contents) (epoch joined : ℕ) (base : Version) : Type 0 where
  pub newest : IsLastAlive c.map.state.intervals epoch joined base
  pub members : (p : ℕ) → p < l.n → HasPosition joined p → HasReached c epoch p

-- so it is in each of these images, with one base; the members lie among the pool's slots
pub record AreComplete (l : Layout) (images : Image → List ℕ → Type 0) (epoch joined : ℕ) : Type 0 where
  pub base : Version
  pub below : (p : ℕ) → HasPosition joined p → p < l.n
  pub each : (image : Image) (said : List ℕ) (c : Contents) → images image said → HasContents l image c → IsComplete l c epoch joined base

-- how many of the first slots have a store
unfoldable pub stores_below : Shelved → ℕ → ℕ
stores_below shelf zero = 0
stores_below shelf (suc p) = stores_below shelf p + (if is_some (store_at shelf p) then 1 else 0)

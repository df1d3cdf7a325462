-- How far the starting of an epoch on slots has come. Source: this project.
use Rattle.std.specs.Prelude.{◌<◌, ◌≤◌, ℕ, List, Option}
use Rattle.ec_model.specs.Codes.{HasPosition}
use Rattle.ec_model.specs.Versions.{Version}
use Rattle.rig_disk.specs.Disk.{Image}
use Rattle.rig_disk.specs.During.{During}
use Rattle.shard_store.specs.Shelved.{Shelved}
use Rattle.pool_history.specs.Images.{IsLastAlive}
use Rattle.pool_map.specs.Pool.{map_of}
use Rattle.pool_map.specs.declared.map.PoolMap.{PoolMap}
use Rattle.pool_slots.specs.Ready.{MayStart, HasStarted}
use Rattle.pool_moves.specs.Contents.{Layout}
use Rattle.pool_moves.specs.Instants.{MovedFrom}
use Rattle.pool_moves.specs.Moves.{Starts}
use Rattle.pool_moves.specs.Ready.{IsReady, IsHeld}

-- of the members of a set those below p have started, the others may, and each image since is made by moves
pub record AreStarting {R : Type 0} (l : Layout) (is_here : R → ℕ → Type 0) (reads_of : R → ℕ → ℕ → Option (List ℕ)) (clock_of : R → ℕ)
    (images_of : R → ℕ → Image → List ℕ → Type 0) (old now : R) (map : PoolMap) (shelf shelf_now : Shelved)
    (joined epoch : ℕ) (base : Version) (p : ℕ) : Type 0 where
  pub ready : IsReady l (is_here now) (reads_of now) (images_of now (clock_of now)) map shelf_now
  pub held : IsHeld (reads_of old) (images_of old (clock_of old)) map shelf → IsHeld (reads_of now) (images_of now (clock_of now)) map shelf_now
  pub waiting : (q : ℕ) → p ≤ q → q < l.n → HasPosition joined q → MayStart shelf_now epoch base q
  pub started : (q : ℕ) → q < p → HasPosition joined q → HasStarted shelf_now epoch q
  pub moments : IsHeld (reads_of old) (images_of old (clock_of old)) map shelf
      → IsLastAlive (map_of map).state.intervals epoch joined base
      → During clock_of images_of old now (MovedFrom (Starts l epoch joined base) l (images_of old (clock_of old)))

-- How far the rounds of a start have come. Source: this project.
use Rattle.std.specs.Prelude.{◌≤◌, ◌+◌, ℕ, List, Option}
use Rattle.ec_model.specs.Codes.{CodeRows}
use Rattle.rig_disk.specs.Disk.{Image}
use Rattle.rig_disk.specs.During.{During}
use Rattle.shard_store.specs.Shelved.{Shelved}
use Rattle.pool_map.specs.declared.map.PoolMap.{PoolMap}
use Rattle.pool_moves.specs.Contents.{Layout}
use Rattle.pool_moves.specs.Instants.{MovedFrom}
use Rattle.pool_moves.specs.Moves.{Move}
use Rattle.pool_moves.specs.Ready.{IsReady, IsHeld}
use Rattle.pool_moves.specs.Turns.{stores_below}

-- after some rounds as many slots at least have lost their stores, and each image since is made by moves
pub record AreGone {R : Type 0} (code : CodeRows) (l : Layout) (is_here : R → ℕ → Type 0) (reads_of : R → ℕ → ℕ → Option (List ℕ))
    (clock_of : R → ℕ) (images_of : R → ℕ → Image → List ℕ → Type 0) (old now : R) (map map_now : PoolMap)
    (shelf shelf_now : Shelved) (rounds : ℕ) : Type 0 where
  pub few : stores_below shelf_now 16 + rounds ≤ 16
  pub ready : IsReady l (is_here now) (reads_of now) (images_of now (clock_of now)) map_now shelf_now
  pub held : IsHeld (reads_of old) (images_of old (clock_of old)) map shelf → IsHeld (reads_of now) (images_of now (clock_of now)) map_now shelf_now
  pub moments : IsHeld (reads_of old) (images_of old (clock_of old)) map shelf
      → During clock_of images_of old now (MovedFrom (Move code l) l (images_of old (clock_of old)))

-- When a step may be added to a map of three positions. Source: this project.
use Rattle.std.specs.Prelude.{◌≡◌, ℕ, List, Option}
use Rattle.rig_disk.specs.Disk.{Image}
use Rattle.pool_map.specs.Calls.{IsReady}
use Rattle.pool_map.specs.Pool.{map_of}
use Rattle.pool_map.specs.declared.map.PoolMap.{PoolMap}

-- a step may be added to a map, and its code has three positions
pub record HasThree (here : ℕ → Type 0) (reads : ℕ → ℕ → Option (List ℕ)) (images : Image → List ℕ → Type 0) (map : PoolMap) : Type 0 where
  pub ready : IsReady here reads images map
  pub three : (map_of map).n ≡ 3

-- What the answers of a pool's calls say. Source: this project.
use Rattle.std.specs.Prelude.{◌≡◌, ℕ, Result, Err}
use Rattle.rig_disk.specs.Faults.{Rose}
use Rattle.pool_map.specs.declared.fault.MapFault.{MapFault}
use Rattle.pool_map.specs.declared.fault.MapFault.TheVariants as map
use Rattle.pool_core.specs.declared.fault.PoolFault.{PoolFault}
use Rattle.pool_core.specs.declared.fault.PoolFault.TheVariants.{MapFailed, Worn, NoMemory}

-- the count of faults of the map's slot rose if the answer is `MapFailed`, and else it is as it was
pub record HasTurnCause {T : Type 0} (before now : ℕ) (result : Result T PoolFault) : Type 0 where
  pub failed : result ≡ Err MapFailed → Rose before now
  pub quiet : (result ≡ Err MapFailed → ⊥) → now ≡ before

-- the fault of a pool that a fault of its map is
abbrev pub pool_fault : MapFault → PoolFault
pool_fault map.Worn = Worn
pool_fault map.NoMemory = NoMemory
pool_fault map.Failed = MapFailed
pool_fault map.NoPool = MapFailed
pool_fault map.BadMap = MapFailed

-- What a turn of a pool comes to. Source: this project.
use Rattle.std.specs.Prelude.{◌≡◌, ◌<◌, ◌≤◌, ◌+◌, ℕ}
use Rattle.ec_model.specs.Codes.{CodeRows, HasPosition}
use Rattle.ec_model.specs.Versions.{Version}
use Rattle.auth_log.specs.States as meant
use Rattle.map_model.specs.States.{kept, last_epoch}
use Rattle.map_model.specs.Steps as steps
use Rattle.shard_store.specs.Shelved.{Shelved}
use Rattle.pool_map.specs.Maps.{PoolImage}
use Rattle.pool_map.specs.Pool.{map_after}
use Rattle.pool_slots.specs.Ready.{HasStarted}
use Rattle.pool_moves.specs.Choosing.{AreUp, ComeTo}
use Rattle.pool_moves.specs.Losing.{HaveSameSlots}
use Rattle.pool_core.specs.declared.state.State.{State}
use Rattle.pool_core.specs.declared.state.State.TheVariants.{Active, Short, Down}

-- the map after an interval began with these slots up
abbrev pub with_begun : PoolImage → ℕ → PoolImage
with_begun m up = map_after m (steps.Begin (last_epoch m.state.intervals + 1) up)

-- the state by what the shards say, which has no epoch if the pool serves
abbrev pub meant_of : State → meant.State
meant_of (Active epoch joined) = meant.Active joined.0
meant_of (Short joined min) = meant.Short joined.0 min
meant_of (Down epoch up) = meant.Down epoch up.0

-- the interval of this epoch went alive at a base, and each of the n slots that joined it has started it; no slot was lost
pub record IsServed (m now : PoolImage) (before shelf : Shelved) (n epoch joined : ℕ) (base : Version) : Type 0 where
  pub is : now ≡ map_after m (steps.Alive epoch joined base)
  pub started : (p : ℕ) → p < n → HasPosition joined p → HasStarted shelf epoch p
  pub slots : HaveSameSlots before shelf

-- what came after the beginning of an interval: nothing, unless the pool serves
abbrev pub HasFollowed : PoolImage → PoolImage → Shelved → Shelved → ℕ → Version → State → Type 0
HasFollowed m now before shelf n base (Active epoch joined) = (epoch ≡ last_epoch m.state.intervals) × IsServed m now before shelf n epoch joined.0 base
HasFollowed m now before shelf n base (Short joined min) = (now ≡ m) × (shelf ≡ before)
HasFollowed m now before shelf n base (Down epoch up) = (now ≡ m) × (shelf ≡ before)

-- a turn of a pool of n slots that serves with `least` of them or more: an interval began with the slots that had a store, these
-- come to this state by what they say and by the intervals of the map then, and the pool went as far as that state lets it
pub record HasTurned (code : CodeRows) (n : ℕ) (m now : PoolImage) (before shelf : Shelved) (least : ℕ) (state : State) : Type 0 where
  pub up : ℕ
  pub are_up : AreUp before up
  pub version : Version
  pub holding : ℕ
  pub come_to : ComeTo code (kept (with_begun m up).state) before up least version holding (meant_of state)
  pub followed : HasFollowed (with_begun m up) now before shelf n version state

-- so did the last turn since a map
pub record HasTurnedSince (code : CodeRows) (n : ℕ) (first now : PoolImage) (shelf : Shelved) (least : ℕ) (state : State) : Type 0 where
  pub m : PoolImage
  pub before : Shelved
  pub later : last_epoch first.state.intervals ≤ last_epoch m.state.intervals
  pub turned : HasTurned code n m now before shelf least state

-- What the shards of a pool's stores say, and what the pool comes to by it. Source: this project.
use Rattle.std.specs.Prelude.{◌≡◌, ◌↔◌, ◌<◌, ℕ, true, List, Some, is_some}
use Rattle.std.specs.Option.{option_map}
use Rattle.ec_model.specs.Codes.{CodeRows, HasPosition}
use Rattle.ec_model.specs.Versions.{Version}
use Rattle.ec_words.specs.Intervals.{Interval}
use Rattle.auth_log.specs.Choice.{Info, PeeringInput, Survey, IsEligible, IsChosen, IsSurvey}
use Rattle.auth_log.specs.States.{State, IsState}
use Rattle.map_model.specs.States.{fits, kept, last_epoch}
use Rattle.map_model.specs.Steps.{Alive}
use Rattle.shard_model.specs.States.{holds}
use Rattle.shard_store.specs.Shelved.{Shelved}
use Rattle.shard_store.specs.Shelves.{store_at}
use Rattle.shard_store.specs.Stored.{told_in}
use Rattle.shard_store.specs.declared.store.Store.{Store}
use Rattle.pool_map.specs.Maps.{PoolImage}
use Rattle.pool_slots.specs.Ready.{MayStart}

-- what the shard of a store says of itself
abbrev pub store_info : Store → Info
store_info store = record {
  les = (told_in store).shard.state.les;
  head = (told_in store).shard.state.head;
  partial = (told_in store).shard.state.partial;
}

-- a slot has a store whose shard holds a version
pub record StoreHolds (shelf : Shelved) (p : ℕ) (v : Version) : Type 0 where
  pub below : p < 16
  pub store : Store
  pub there : store_at shelf p ≡ Some store
  pub held : holds (told_in store).shard.state v ≡ true

-- the slots of a mask are those that have a store
abbrev pub AreUp : Shelved → ℕ → Type 0
AreUp shelf up = (p : ℕ) → HasPosition up p ↔ ((p < 16) × (is_some (store_at shelf p) ≡ true))

-- what the shards of a shelf say, with these intervals
pub record AreSaid (intervals : List Interval) (shelf : Shelved) (up : ℕ) (peers : PeeringInput) : Type 0 where
  pub kept : peers.kept ≡ intervals
  pub up_is : peers.up ≡ up
  pub said : (p : ℕ) → HasPosition up p → peers.said p ≡ option_map store_info (store_at shelf p)

-- what the slots that are up come to: the version that they give, the mask of the slots whose shard holds it, and the state of a
-- pool that serves with `min` slots or more
pub record ComeTo (code : CodeRows) (intervals : List Interval) (shelf : Shelved) (up min : ℕ) (version : Version) (holding : ℕ)
    (state : State) : Type 0 where
  pub peers : PeeringInput
  pub are_said : AreSaid intervals shelf up peers
  pub survey : Survey
  pub surveyed : IsSurvey peers survey
  pub version_is : version ≡ survey.version
  pub are_holding : (p : ℕ) → HasPosition holding p ↔ StoreHolds shelf p version
  pub state_is : IsState code peers min holding state

-- the version that these slots choose, and those of them that hold it
pub record StoresChoose (code : CodeRows) (intervals : List Interval) (shelf : Shelved) (up joined : ℕ) (base : Version) : Type 0 where
  pub peers : PeeringInput
  pub are_said : AreSaid intervals shelf up peers
  pub epoch : ℕ
  pub chosen : IsChosen code peers epoch base
  pub members : (p : ℕ) → HasPosition joined p ↔ (((info : Info) × IsEligible peers p info) × StoreHolds shelf p base)

-- the last interval may go alive with the slots that hold the version that is chosen, and these may start its epoch
pub record MayServe (code : CodeRows) (m : PoolImage) (shelf : Shelved) (up joined : ℕ) (base : Version) : Type 0 where
  pub choose : StoresChoose code (kept m.state) shelf up joined base
  pub fit : fits m.n m.state (Alive (last_epoch m.state.intervals) joined base) ≡ true
  pub may : (p : ℕ) → HasPosition joined p → MayStart shelf (last_epoch m.state.intervals) base p

-- What a pool's calls on its slots rest on: the rig and the stores as the last call left them. Source: this project.
use Rattle.std.specs.Prelude.{◌≡◌, ◌<◌, [], ℕ, false, true, List, Option, Some}
use Rattle.ec_model.specs.Versions.{Version}
use Rattle.rig_disk.specs.Disk.{Image}
use Rattle.shard_model.specs.States.{holds}
use Rattle.shard_model.specs.Steps.{Step}
use Rattle.shard_store.specs.Shelved.{Shelved}
use Rattle.shard_store.specs.Shelves.{store_at}
use Rattle.shard_store.specs.Stored.{told_in, slot_in, IsAtRest, IsStored}
use Rattle.shard_store.specs.declared.store.Store.{Store}
use Rattle.pool_slots.specs.Slots.{IsIdle}

-- a store of a slot that a record may be added to
pub record IsReadyStore (is_here : ℕ → Type 0) (reads : ℕ → ℕ → Option (List ℕ)) (images : Image → List ℕ → Type 0)
    (p : ℕ) (store : Store) : Type 0 where
  pub slot_is : slot_in store ≡ p
  pub here : is_here p
  pub idle : IsIdle store
  pub at_rest : IsAtRest reads images store

-- all stores of a shelf are so
pub record IsReadyShelf (is_here : ℕ → Type 0) (reads : ℕ → ℕ → Option (List ℕ)) (images : Image → List ℕ → Type 0)
    (shelf : Shelved) : Type 0 where
  pub each : (p : ℕ) (store : Store) → store_at shelf p ≡ Some store → IsReadyStore is_here reads images p store

-- the text in use of a slot has the steps that its store was told, in each image of now too
pub record IsHeldStore (reads : ℕ → ℕ → Option (List ℕ)) (images : Image → List ℕ → Type 0) (store : Store) : Type 0 where
  pub text : List ℕ
  pub flushed : List Step
  pub stored : IsStored reads images store text flushed []

-- all stores of a shelf are so
pub record AreHeld (reads : ℕ → ℕ → Option (List ℕ)) (images : Image → List ℕ → Type 0) (shelf : Shelved) : Type 0 where
  pub each : (p : ℕ) (store : Store) → store_at shelf p ≡ Some store → IsHeldStore reads images store

-- a slot has a store that may start an epoch at a base
pub record MayStart (shelf : Shelved) (epoch : ℕ) (base : Version) (p : ℕ) : Type 0 where
  pub store : Store
  pub there : store_at shelf p ≡ Some store
  pub whole : (told_in store).shard.state.partial ≡ false
  pub held : holds (told_in store).shard.state base ≡ true
  pub older : (told_in store).shard.state.les < epoch

-- a slot has a store that has started an epoch
pub record HasStarted (shelf : Shelved) (epoch : ℕ) (p : ℕ) : Type 0 where
  pub store : Store
  pub there : store_at shelf p ≡ Some store
  pub whole : (told_in store).shard.state.partial ≡ false
  pub started : (told_in store).shard.state.les ≡ epoch

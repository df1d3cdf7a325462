-- The store of a shard that is made in slot 0. Source: this project.
use Rattle.std.specs.Prelude.{◌≡◌, ℕ, List, Option, false}
use Rattle.rig_disk.specs.Disk.{Image}
use Rattle.shard_store.specs.Stories.{first_steps, fresh_shard, shard_after}
use Rattle.shard_store.specs.Stored.{told_in}
use Rattle.shard_store.specs.Told.{all_told}
use Rattle.shard_store.specs.declared.store.Store.{Store}
use Rattle.pool_slots.specs.Ready.{IsReadyStore}

-- a record may be added to it, and it shows a new shard that has started epoch 1
pub record IsFirst (is_here : ℕ → Type 0) (reads : ℕ → ℕ → Option (List ℕ)) (images : Image → List ℕ → Type 0) (store : Store) : Type 0 where
  pub ready : IsReadyStore is_here reads images 0 store
  pub told : told_in store ≡ all_told (record { k = 2; unit = 32 }) (shard_after (fresh_shard (record { k = 2; unit = 32 })) (first_steps false))

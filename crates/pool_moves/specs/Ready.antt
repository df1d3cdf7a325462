-- What a pool's calls rest on: the map and the stores as the last call left them. Source: this project.
use Rattle.std.specs.Prelude.{◌≡◌, ◌<◌, ◌*◌, ◌^◌, ℕ, List, Option, Some}
use Rattle.rig_disk.specs.Disk.{Image}
use Rattle.shard_store.specs.Shelved.{Shelved}
use Rattle.shard_store.specs.Shelves.{store_at}
use Rattle.shard_store.specs.Stored.{told_in, slot_in, room_in}
use Rattle.shard_store.specs.declared.store.Store.{Store}
use Rattle.pool_map.specs.Calls as calls
use Rattle.pool_map.specs.Pool.{journal_of, map_of, HoldsMap}
use Rattle.pool_map.specs.declared.map.PoolMap.{PoolMap}
use Rattle.pool_slots.specs.Ready.{IsReadyShelf, AreHeld}
use Rattle.pool_moves.specs.Contents.{Layout}

-- the store of a slot of the pool
pub record IsOwn (l : Layout) (p : ℕ) (store : Store) : Type 0 where
  pub below : p < l.n
  pub slot_is : slot_in store ≡ p
  pub geometry_is : (told_in store).geometry ≡ l.geometry
  pub n_is : store.n ≡ l.n

-- the stores of a shelf are those of the pool's slots
pub record AreOwn (l : Layout) (shelf : Shelved) : Type 0 where
  pub each : (p : ℕ) (store : Store) → store_at shelf p ≡ Some store → IsOwn l p store

-- a map of the pool that a step may be added to
pub record IsReadyMap (l : Layout) (is_here : ℕ → Type 0) (reads : ℕ → ℕ → Option (List ℕ)) (images : Image → List ℕ → Type 0)
    (map : PoolMap) : Type 0 where
  pub same_n : (map_of map).n ≡ l.n
  pub ready : calls.IsReady is_here reads images map

-- the text in use of the map's slot is that of the map, in each image of now too
pub record IsHeldMap (reads : ℕ → ℕ → Option (List ℕ)) (images : Image → List ℕ → Type 0) (map : PoolMap) : Type 0 where
  pub text : List ℕ
  pub holds_map : HoldsMap reads images (journal_of map) (map_of map) text

-- a call on a pool may begin: all of it is as the last call left it
pub record IsReady (l : Layout) (is_here : ℕ → Type 0) (reads : ℕ → ℕ → Option (List ℕ)) (images : Image → List ℕ → Type 0)
    (map : PoolMap) (shelf : Shelved) : Type 0 where
  pub few : l.n < 17
  pub positive : 0 < l.geometry.k * l.geometry.unit
  pub own : AreOwn l shelf
  pub stores : IsReadyShelf is_here reads images shelf
  pub ready_map : IsReadyMap l is_here reads images map

-- what the rig tells of it, and what a crash leaves now, is what the pool's values say
pub record IsHeld (reads : ℕ → ℕ → Option (List ℕ)) (images : Image → List ℕ → Type 0) (map : PoolMap) (shelf : Shelved) : Type 0 where
  pub held_map : IsHeldMap reads images map
  pub stores : AreHeld reads images shelf

-- after a call the pool is ready, and held if it was
pub record StaysReady {R : Type 0} (l : Layout) (is_here : R → ℕ → Type 0) (reads_of : R → ℕ → ℕ → Option (List ℕ)) (clock_of : R → ℕ)
    (images_of : R → ℕ → Image → List ℕ → Type 0) (old new : R) (map map_then : PoolMap) (shelf shelf_then : Shelved) : Type 0 where
  pub ready : IsReady l (is_here new) (reads_of new) (images_of new (clock_of new)) map_then shelf_then
  pub held : IsHeld (reads_of old) (images_of old (clock_of old)) map shelf
      → IsHeld (reads_of new) (images_of new (clock_of new)) map_then shelf_then

-- the text of some slot's store has less room than a start asks for
pub record HasFullStore (shelf : Shelved) : Type 0 where
  pub p : ℕ
  pub store : Store
  pub there : store_at shelf p ≡ Some store
  pub full : room_in store < 2 ^ 26

-- The stores of a shelf, and what a call leaves of them. Source: this project.
use Rattle.std.specs.Prelude.{◌≡◌, ◌≢◌, ℕ, slice_index_or, Option, None}
use Rattle.shard_store.specs.declared.store.Store.{Store}
use Rattle.shard_store.specs.Shelved.{Shelved}

-- the store of a slot, if there is one
abbrev pub store_at : Shelved → ℕ → Option Store
store_at shelf slot = slice_index_or shelf.stores slot None

-- how many bytes were fetched on a slot
abbrev pub fetched_on : Shelved → ℕ → ℕ
fetched_on shelf slot = slice_index_or shelf.fetched slot 0

-- the stores of all other slots are as they were, and nothing was fetched
pub record KeepsStores (old new : Shelved) (slot : ℕ) : Type 0 where
  pub stores : (s : ℕ) → s ≢ slot → store_at new s ≡ store_at old s
  pub fetched : (s : ℕ) → fetched_on new s ≡ fetched_on old s

-- bytes were fetched on one slot, and all else is as it was
pub record Counts (old new : Shelved) (slot : ℕ) : Type 0 where
  pub stores : (s : ℕ) → store_at new s ≡ store_at old s
  pub others : (s : ℕ) → s ≢ slot → fetched_on new s ≡ fetched_on old s

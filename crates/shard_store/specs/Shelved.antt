-- What a contract sees of a shelf. Source: this project.
use Rattle.std.specs.Prelude.{ℕ, List, Option}
use Rattle.shard_store.specs.declared.store.Store.{Store}

-- of each slot its store, if there is one, and how many bytes were fetched on it
pub record Shelved : Type 0 where
  pub stores : List (Option Store)
  pub fetched : List ℕ

-- What a call leaves of the stores of a shelf. Source: this project.
use Rattle.std.specs.Prelude.{◌≡◌, ◌<◌, ℕ, List, Option}
use Rattle.ec_model.specs.Codes.{HasPosition}
use Rattle.shard_model.specs.Steps.{Step}
use Rattle.shard_store.specs.OnSlot.{ChangesAt}
use Rattle.shard_store.specs.Shelved.{Shelved}
use Rattle.shard_store.specs.Shelves.{store_at, fetched_on}
use Rattle.shard_store.specs.Stored.{Becomes, told_in}
use Rattle.shard_store.specs.Told.{Told, IsTold}
use Rattle.shard_store.specs.declared.store.Store.{Store}

-- if a slot has a store, it was told what f makes of what it was told before
abbrev pub BecomesAt : (Told → Told) → Option Store → Option Store → Type 0
BecomesAt f old new = ChangesAt (λ before now. Becomes before now (f (told_in before))) old new

-- each slot of a set below `bound` was told what f makes of what it was told before; the stores of all others are as they
-- were, and nothing was fetched
pub record AreTold (f : ℕ → Told → Told) (set bound : ℕ) (old new : Shelved) : Type 0 where
  pub inside : (s : ℕ) → s < bound → HasPosition set s → BecomesAt (f s) (store_at old s) (store_at new s)
  pub outside : (s : ℕ) → (s < bound → HasPosition set s → ⊥) → store_at new s ≡ store_at old s
  pub fetched : (s : ℕ) → fetched_on new s ≡ fetched_on old s

-- each slot of a set was told what f makes of what it was told before, and all other stores are as they were
pub record AreTaking (f : ℕ → Told → Told) (set : ℕ) (old new : Shelved) : Type 0 where
  pub inside : (s : ℕ) → HasPosition set s → BecomesAt (f s) (store_at old s) (store_at new s)
  pub outside : (s : ℕ) → (HasPosition set s → ⊥) → store_at new s ≡ store_at old s

-- each store was told what it was told before, and nothing was fetched
pub record AreSame (old new : Shelved) : Type 0 where
  pub stores : (s : ℕ) → BecomesAt (λ t. t) (store_at old s) (store_at new s)
  pub fetched : (s : ℕ) → fetched_on new s ≡ fetched_on old s

-- the steps that a store has in records it has there still, and those that it has accepted lead to what it was told
abbrev pub TellsOn : Option Store → Option Store → Type 0
TellsOn =
    ChangesAt (λ before now. (flushed pending : List Step) → IsTold (told_in before) flushed pending → (more : List Step) × IsTold (told_in now) flushed more)

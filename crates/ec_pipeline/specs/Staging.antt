-- Why a step is not staged. Source: this project.
use Rattle.std.specs.Prelude.{◌≡◌, ℕ, false, Option, IsSomeAnd}
use Rattle.ec_model.specs.Codes.{HasPosition}
use Rattle.shard_model.specs.States.{fits}
use Rattle.shard_model.specs.Steps.{Step}
use Rattle.shard_store.specs.Shelved.{Shelved}
use Rattle.shard_store.specs.Shelves.{store_at}
use Rattle.shard_store.specs.Stored.{told_in}
use Rattle.shard_store.specs.Told.{staged_shard}
use Rattle.shard_store.specs.declared.store.Store.{Store}
use Rattle.ec_pipeline.specs.declared.fault.PrepareFault.TheVariants.{NoMemory, Slot}
use Rattle.ec_pipeline.specs.declared.fault.PrepareFault.{PrepareFault}

-- a slot has a store, and a step does not fit the shard that the steps which it was told lead to
abbrev pub IsMisfitAt : Option Store → Step → Type 0
IsMisfitAt store step = IsSomeAnd store (λ s. fits (staged_shard (told_in s)).geometry (staged_shard (told_in s)).state step ≡ false)

-- why a step for each slot of a set is not staged: memory ran out, or the step of a slot of the set does not fit there
abbrev pub HasStagingCause : ℕ → (ℕ → Step) → Shelved → PrepareFault → Type 0
HasStagingCause set steps shelf NoMemory = Unit {0}
HasStagingCause set steps shelf (Slot s) = HasPosition set s × IsMisfitAt (store_at shelf s) (steps s)
HasStagingCause set steps shelf others = ⊥

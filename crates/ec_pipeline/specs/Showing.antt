-- The stores of a set of slots, as the positions of some objects. Source: this project.
use Rattle.std.specs.Prelude.{◌≡◌, ◌<◌, ◌≤◌, ◌^◌, ℕ, List, IfSome}
use Rattle.std.specs.List.{All}
use Rattle.std.specs.FinMap as fin
use Rattle.ec_model.specs.Codes.{CodeRows, HasPosition}
use Rattle.ec_model.specs.Versions.{Version}
use Rattle.shard_model.specs.Steps.{Step, Log}
use Rattle.shard_store.specs.Shelved.{Shelved}
use Rattle.shard_store.specs.Shelves.{store_at}
use Rattle.shard_store.specs.Stored.{told_in}
use Rattle.shard_store.specs.Told.{Told, with_step, all_accepted}
use Rattle.ec_positions.specs.Laws.{geometry}
use Rattle.ec_positions.specs.Objects.{Objects, bytes_in, max_usage, usage}
use Rattle.ec_positions.specs.Positions.{shard_of, position_change}
use Rattle.ec_positions.specs.Updates.{Update, name_of}
use Rattle.ec_pipeline.specs.Shelving.{AreTaking}

-- a store's accepted steps lead to position p of these objects
pub record IsPosition (code : CodeRows) (unit p : ℕ) (objects : Objects) (t : Told) : Type 0 where
  pub geometry_is : t.shard.geometry ≡ geometry code unit
  pub objects_are : t.shard.state.objects ≡ shard_of code unit p objects

-- each slot of a set holds its position of these objects, whose bytes are bytes and which take no more than they may
pub record Shows (code : CodeRows) (unit set : ℕ) (objects : Objects) (shelf : Shelved) : Type 0 where
  pub positions : (s : ℕ) → HasPosition set s → IfSome (store_at shelf s) (λ store. IsPosition code unit s objects (told_in store))
  pub bytes : (name : List ℕ) → All (λ b. b < 2 ^ 8) (bytes_in (fin.get objects name))
  pub within : usage objects ≤ max_usage

-- the same, and all slots have one head
pub record ShowsAt (code : CodeRows) (unit set : ℕ) (objects : Objects) (head : Version) (shelf : Shelved) : Type 0 where
  pub shows : Shows code unit set objects shelf
  pub heads : (s : ℕ) → HasPosition set s → IfSome (store_at shelf s) (λ store. (told_in store).shard.state.head ≡ head)

-- the step that position p gets of an update of these objects
abbrev pub entry_step : CodeRows → ℕ → ℕ → Version → Version → Update → Objects → Step
entry_step code unit p version prior update objects =
    Log (record { version = version; prior = prior; name = name_of update; change = position_change code unit p update objects })

-- each slot of a set has its part of an update behind what it was told before, and all other stores are as they were
abbrev pub IsChanged : CodeRows → ℕ → ℕ → Version → Version → Update → Objects → Shelved → Shelved → Type 0
IsChanged code unit set version prior update objects old new =
    AreTaking (λ s t. all_accepted (with_step t (entry_step code unit s version prior update objects))) set old new

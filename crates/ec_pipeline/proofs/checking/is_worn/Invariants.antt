use Rattle.std.proofs.Common.{ℕ, ◌<◌, ◌≤◌}
use Rattle.std.specs.Prelude.{IfSome}
use Rattle.ec_model.specs.Codes.{HasPosition}
use Rattle.shard_store.specs.Shelves.{store_at}
use Rattle.shard_store.specs.Stored.{room_in}
use Rattle.ec_pipeline.specs.Checking.{worn_room}
use Rattle.ec_pipeline.proofs.checking.is_worn.Given as goal

abbrev pub invariant-loop-slot : goal.invariant-loop-slot
invariant-loop-slot l = (s : ℕ) → s < l.slot → HasPosition l.set.0 s → IfSome (store_at l.shelf s) (λ store. worn_room ≤ room_in store)

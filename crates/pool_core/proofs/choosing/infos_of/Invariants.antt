use Rattle.std.proofs.Common.{◌≡◌, ◌<◌, ℕ, length}
use Rattle.std.specs.Option.{option_map}
use Rattle.auth_log.specs.Choice.{said_in}
use Rattle.shard_store.specs.Shelves.{store_at}
use Rattle.pool_moves.specs.Choosing.{store_info}
use Rattle.pool_core.proofs.choosing.infos_of.Given as goal

abbrev pub invariant-loop-p : goal.invariant-loop-p
invariant-loop-p l = (length l.infos ≡ 16) × ((q : ℕ) → q < l.p → said_in l.infos q ≡ option_map store_info (store_at l.shelf q))

use Rattle.std.proofs.Common.{◌↔◌, ◌<◌, ℕ}
use Rattle.ec_model.specs.Codes.{HasPosition}
use Rattle.pool_moves.specs.Choosing.{StoreHolds}
use Rattle.pool_core.proofs.choosing.holders.Given as goal

abbrev pub invariant-loop-p : goal.invariant-loop-p
invariant-loop-p l = (q : ℕ) → HasPosition l.holding q ↔ ((q < l.p) × StoreHolds l.shelf q l.version)

use Rattle.std.proofs.Common.{◌≡◌}
use Rattle.pool_moves.specs.Losing.{HaveSameSlots, LosesFailed}
use Rattle.pool_moves.specs.Starting.{AreStarting}
use Rattle.pool_moves.specs.Turns.{stores_below}
use Rattle.pool_core.specs.Pools.{layout_of}
use Rattle.pool_core.proofs.pool.Pool.start_joined.Given as goal

abbrev pub invariant-loop-p : goal.invariant-loop-p
invariant-loop-p g l = record {
  map : l.self.map ≡ l.fn.self.map;
  layout : layout_of l.self ≡ layout_of l.fn.self;
  least : l.self.min_size ≡ l.fn.self.min_size;
  count : stores_below l.self.shelf 16 ≡ stores_below l.fn.self.shelf 16;
  slots : HaveSameSlots l.fn.self.shelf l.self.shelf;
  loses : LosesFailed (g.R.Rig.faults l.fn.rig) (g.R.Rig.faults l.rig) l.fn.self.shelf l.self.shelf;
  map_faults : g.R.Rig.faults l.rig 16 ≡ g.R.Rig.faults l.fn.rig 16;
  starting : AreStarting (layout_of l.fn.self) g.R.Rig.is_here g.R.Rig.reads g.R.Rig.clock g.R.Rig.images l.fn.rig l.rig l.fn.self.map l.fn.self.shelf l.self.shelf l.joined.0 l.epoch l.base l.p;
}

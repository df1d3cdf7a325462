use Rattle.std.proofs.Common.{◌≡◌, ◌≤◌}
use Rattle.map_model.specs.States.{last_epoch}
use Rattle.pool_map.specs.Pool.{map_of}
use Rattle.pool_moves.specs.Losing.{LosesFailed}
use Rattle.pool_moves.specs.Rounds.{AreGone}
use Rattle.pool_core.specs.Pools.{layout_of}
use Rattle.pool_core.proofs.pool.Pool.start.Given as goal

abbrev pub invariant-loop-round : goal.invariant-loop-round
invariant-loop-round g l = record {
  layout : layout_of l.self ≡ layout_of l.fn.self;
  least : l.self.min_size ≡ l.fn.self.min_size;
  later : last_epoch (map_of l.fn.self.map).state.intervals ≤ last_epoch (map_of l.self.map).state.intervals;
  loses : LosesFailed (g.R.Rig.faults l.fn.rig) (g.R.Rig.faults l.rig) l.fn.self.shelf l.self.shelf;
  map_faults : g.R.Rig.faults l.rig 16 ≡ g.R.Rig.faults l.fn.rig 16;
  gone : AreGone ((goal.Code-dyn g l.code.now).meaning l.code.now.1) (layout_of l.fn.self) g.R.Rig.is_here g.R.Rig.reads g.R.Rig.clock g.R.Rig.images l.fn.rig l.rig l.fn.self.map l.self.map l.fn.self.shelf l.self.shelf l.round;
}

use Rattle.std.proofs.Common.{◌≡◌}
use Rattle.pool_map.specs.Pool.{map_of}
use Rattle.pool_moves.specs.Finding.{AreFound}
use Rattle.pool_moves.specs.Opening.{AreLoaded}
use Rattle.pool_core.specs.Pools.{layout_of}
use Rattle.pool_core.proofs.pool.Pool.load_slots.Given as goal

abbrev pub invariant-loop-p : goal.invariant-loop-p
invariant-loop-p g l = record {
  map : l.self.map ≡ l.fn.self.map;
  layout : layout_of l.self ≡ layout_of l.fn.self;
  least : l.self.min_size ≡ l.fn.self.min_size;
  loaded : AreLoaded (layout_of l.fn.self) g.R.Rig.is_here g.R.Rig.reads g.R.Rig.clock g.R.Rig.images l.fn.rig l.rig l.fn.self.map l.fn.self.shelf l.self.shelf l.p;
  found : AreFound (layout_of l.fn.self) (map_of l.fn.self.map).state.marks (g.R.Rig.is_here l.fn.rig) (g.R.Rig.reads l.fn.rig) (g.R.Rig.faults l.fn.rig) (g.R.Rig.faults l.rig) l.self.shelf l.p;
}

use Rattle.std.proofs.Common.{◌<◌, ℕ}
use Rattle.pool_making.specs.Frames.{KeepsOutside, SpendsBelow}
use Rattle.pool_moves.specs.Making.{ArePlaced}
use Rattle.pool_making.proofs.making.place_slots.Given as goal

abbrev pub invariant-loop-p : goal.invariant-loop-p
invariant-loop-p g l = ArePlaced g.R.Rig.is_here g.R.Rig.reads g.R.Rig.clock g.R.Rig.images g.R.Rig.faults l.fn.rig l.rig l.p
    × KeepsOutside (λ (s : ℕ). s < l.p) g.R.Rig.is_here g.R.Rig.reads g.R.Rig.said g.R.Rig.syncs g.R.Rig.bytes_written g.R.Rig.bytes_read l.fn.rig l.rig
    × SpendsBelow g.R.Rig.syncs g.R.Rig.bytes_written g.R.Rig.bytes_read l.n 0 0 0 l.fn.rig l.rig

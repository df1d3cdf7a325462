use Rattle.ec_pipeline.specs.Flushing.{AreFlushed}
use Rattle.ec_pipeline.proofs.flushing.flush_all.Given as goal

abbrev pub invariant-loop-slot : goal.invariant-loop-slot
invariant-loop-slot g l =
    AreFlushed g.R.Rig.is_here g.R.Rig.reads g.R.Rig.said g.R.Rig.clock g.R.Rig.images g.R.Rig.faults l.set.0 l.slot l.lost l.initial.shelf l.shelf l.initial.rig l.rig

use Rattle.std.proofs.Common.{◌≡◌, ℕ}
use Rattle.std.specs.Prelude.{IfSome}
use Rattle.shard_store.specs.Shelves.{store_at}
use Rattle.ec_pipeline.specs.Reading.{AreFetched, Counted, HasSteps, OnlyFetches}
use Rattle.ec_pipeline.proofs.reading.fetch_chunks.Given as goal

abbrev pub invariant-loop-slot : goal.invariant-loop-slot
invariant-loop-slot g l =
    AreFetched (λ s. IfSome (store_at l.initial.shelf s) (HasSteps (g.R.Rig.reads l.initial.rig) (g.R.Rig.images l.initial.rig (g.R.Rig.clock l.initial.rig)))) l.set.0 l.slot l.initial.shelf l.name l.at l.len l.chunks
    × Counted l.set.0 l.slot l.len l.initial.shelf l.shelf
    × OnlyFetches g.R.Rig.is_here g.R.Rig.reads g.R.Rig.said g.R.Rig.clock g.R.Rig.images g.R.Rig.syncs g.R.Rig.bytes_written l.initial.rig l.rig
    × ((s : ℕ) → g.R.Rig.faults l.rig s ≡ g.R.Rig.faults l.initial.rig s)

use Rattle.std.proofs.Common.{◌<◌, ℕ}
use Rattle.slot_journal.specs.Limits.{make_reads, make_syncs}
use Rattle.shard_store.specs.Limits.{store_bytes}
use Rattle.pool_making.specs.Frames.{KeepsOutside, SpendsBelow}
use Rattle.pool_moves.specs.Making.{AreMade}
use Rattle.pool_making.proofs.making.make_shards.Given as goal

abbrev pub invariant-loop-p : goal.invariant-loop-p
invariant-loop-p g l = AreMade (record { geometry = record { k = l.g.k; unit = l.g.unit }; n = l.n }) g.R.Rig.is_here g.R.Rig.reads g.R.Rig.clock g.R.Rig.images g.R.Rig.faults l.fn.rig l.rig l.p
    × KeepsOutside (λ (s : ℕ). s < l.p) g.R.Rig.is_here g.R.Rig.reads g.R.Rig.said g.R.Rig.syncs g.R.Rig.bytes_written g.R.Rig.bytes_read l.fn.rig l.rig
    × SpendsBelow g.R.Rig.syncs g.R.Rig.bytes_written g.R.Rig.bytes_read l.n make_syncs store_bytes make_reads l.fn.rig l.rig

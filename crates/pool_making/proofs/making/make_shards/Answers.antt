use Rattle.std.proofs.Common.{◌<◌, ◌+◌, ◌∙◌, ℕ, Err, ap, false, arith}
use Rattle.slot_journal.specs.Limits.{make_reads, make_syncs}
use Rattle.shard_store.specs.Limits.{store_bytes}
use Rattle.shard_store.specs.Stories.{shard_head, first_steps}
use Rattle.shard_store.specs.Stored.{MakesShard}
use Rattle.shard_store.specs.declared.fault.StoreFault.TheVariants.{Failed}
use Rattle.pool_moves.specs.Contents.{Layout}
use Rattle.pool_making.proofs.FaultLemmas.{cause_after, failed_on, ok_err}
use Rattle.pool_making.proofs.FrameLemmas.{none_spent, nothing_done, one_spends, then_on}
use Rattle.pool_moves.proofs.MakingLemmas.{made_none, made_run, made_on}
use Rattle.pool_making.proofs.making.make_shards.Goals as goal

pub loop-p-init : goal.loop-p-init
loop-p-init g c =
    let l : Layout = record { geometry = record { k = c.args.g.k; unit = c.args.g.unit }; n = c.args.n } in (
      made_none g.R.Rig.is_here g.R.Rig.reads g.R.Rig.clock g.R.Rig.images g.R.Rig.faults c.args.rig.now l,
      nothing_done g.R.Rig.is_here g.R.Rig.reads g.R.Rig.said g.R.Rig.faults g.R.Rig.syncs g.R.Rig.bytes_written g.R.Rig.bytes_read (λ (s : ℕ). s < 0) c.args.rig.now,
      none_spent g.R.Rig.is_here g.R.Rig.reads g.R.Rig.said g.R.Rig.faults g.R.Rig.syncs g.R.Rig.bytes_written g.R.Rig.bytes_read c.args.n make_syncs store_bytes make_reads c.args.rig.now,
    )

pub returns-in-Err-Failed-clause-any_moment : goal.returns-in-Err-Failed-clause-any_moment
returns-in-Err-Failed-clause-any_moment g c none =
    let l : Layout = record { geometry = record { k = c.args.g.k; unit = c.args.g.unit }; n = c.args.n } in
    let p = c.loop-p.p in
    made_run g.R.Rig.is_here g.R.Rig.reads g.R.Rig.clock g.R.Rig.images g.R.Rig.faults c.args.rig.now l c.loop-p.rig c.make.new.rig p
    (omega (arith, c.loop-p-test.true, c.requires.few)) (MakesShard p (g.R.Rig.reads c.loop-p.rig p) l.geometry (shard_head p l.geometry l.n) (first_steps false))
    c.loop-p.invariant.0 c.make.ensures.any_moment none

pub returns-in-Err-clause-any_moment : goal.returns-in-Err-clause-any_moment
returns-in-Err-clause-any_moment g c none =
    let l : Layout = record { geometry = record { k = c.args.g.k; unit = c.args.g.unit }; n = c.args.n } in
    let p = c.loop-p.p in
    made_run g.R.Rig.is_here g.R.Rig.reads g.R.Rig.clock g.R.Rig.images g.R.Rig.faults c.args.rig.now l c.loop-p.rig c.make.new.rig p
    (omega (arith, c.loop-p-test.true, c.requires.few)) (MakesShard p (g.R.Rig.reads c.loop-p.rig p) l.geometry (shard_head p l.geometry l.n) (first_steps false))
    c.loop-p.invariant.0 c.make.ensures.any_moment none

pub loop-p-preserved : goal.loop-p-preserved
loop-p-preserved g c =
    let l : Layout = record { geometry = record { k = c.args.g.k; unit = c.args.g.unit }; n = c.args.n } in
    let p = c.loop-p.p in (
      made_on g.R.Rig.is_here g.R.Rig.reads g.R.Rig.clock g.R.Rig.images g.R.Rig.faults c.args.rig.now l c.loop-p.rig c.make.new.rig p
          (omega (arith, c.loop-p-test.true, c.requires.few)) (MakesShard p (g.R.Rig.reads c.loop-p.rig p) l.geometry (shard_head p l.geometry l.n) (first_steps false))
          c.loop-p.invariant.0 c.make.ensures.any_moment
          c.in-Ok.field-0 c.in-Ok.ensures.fresh c.in-Ok.ensures.ok (λ s h. (c.make.ensures.kept.here s).0 h) c.make.ensures.kept.reads
          (c.in-Ok.ensures.only_if_fault.quiet (λ e. ok_err c.in-Ok.field-0 Failed e)) c.make.ensures.kept.counts.faults,
      then_on g.R.Rig.is_here g.R.Rig.reads g.R.Rig.said g.R.Rig.faults g.R.Rig.syncs g.R.Rig.bytes_written g.R.Rig.bytes_read (λ (s : ℕ). s < p) (λ (s : ℕ). s < p + 1) p c.args.rig.now c.loop-p.rig c.make.new.rig (λ s below. omega (arith, below)) (omega arith) c.loop-p.invariant.1 c.make.ensures.kept,
      one_spends g.R.Rig.is_here g.R.Rig.reads g.R.Rig.said g.R.Rig.faults g.R.Rig.syncs g.R.Rig.bytes_written g.R.Rig.bytes_read (λ (s : ℕ). s < p) c.args.n p make_syncs store_bytes make_reads c.args.rig.now c.loop-p.rig c.make.new.rig (λ below. omega (arith, below)) c.loop-p.invariant.1
          c.make.ensures.kept.counts c.make.ensures.counts c.loop-p.invariant.2,
    )

pub returns-in-Err-Failed-clause-kept : goal.returns-in-Err-Failed-clause-kept
returns-in-Err-Failed-clause-kept g c =
    let p = c.loop-p.p in
    then_on g.R.Rig.is_here g.R.Rig.reads g.R.Rig.said g.R.Rig.faults g.R.Rig.syncs g.R.Rig.bytes_written g.R.Rig.bytes_read (λ (s : ℕ). s < p) (λ (s : ℕ). s < c.args.n) p c.args.rig.now c.loop-p.rig c.make.new.rig (λ s below. omega (arith, below, c.loop-p-test.true))
    (omega (arith, c.loop-p-test.true)) c.loop-p.invariant.1 c.make.ensures.kept

pub returns-in-Err-Failed-clause-costs : goal.returns-in-Err-Failed-clause-costs
returns-in-Err-Failed-clause-costs g c =
    let p = c.loop-p.p in
    one_spends g.R.Rig.is_here g.R.Rig.reads g.R.Rig.said g.R.Rig.faults g.R.Rig.syncs g.R.Rig.bytes_written g.R.Rig.bytes_read (λ (s : ℕ). s < p) c.args.n p make_syncs store_bytes make_reads c.args.rig.now c.loop-p.rig c.make.new.rig (λ below. omega (arith, below)) c.loop-p.invariant.1
    c.make.ensures.kept.counts c.make.ensures.counts c.loop-p.invariant.2

pub returns-in-Err-clause-kept : goal.returns-in-Err-clause-kept
returns-in-Err-clause-kept g c =
    let p = c.loop-p.p in
    then_on g.R.Rig.is_here g.R.Rig.reads g.R.Rig.said g.R.Rig.faults g.R.Rig.syncs g.R.Rig.bytes_written g.R.Rig.bytes_read (λ (s : ℕ). s < p) (λ (s : ℕ). s < c.args.n) p c.args.rig.now c.loop-p.rig c.make.new.rig (λ s below. omega (arith, below, c.loop-p-test.true))
    (omega (arith, c.loop-p-test.true)) c.loop-p.invariant.1 c.make.ensures.kept

pub returns-in-Err-clause-costs : goal.returns-in-Err-clause-costs
returns-in-Err-clause-costs g c =
    let p = c.loop-p.p in
    one_spends g.R.Rig.is_here g.R.Rig.reads g.R.Rig.said g.R.Rig.faults g.R.Rig.syncs g.R.Rig.bytes_written g.R.Rig.bytes_read (λ (s : ℕ). s < p) c.args.n p make_syncs store_bytes make_reads c.args.rig.now c.loop-p.rig c.make.new.rig (λ below. omega (arith, below)) c.loop-p.invariant.1
    c.make.ensures.kept.counts c.make.ensures.counts c.loop-p.invariant.2

pub returns-in-Err-Failed-clause-cause : goal.returns-in-Err-Failed-clause-cause
returns-in-Err-Failed-clause-cause g c = cause_after c.args.n (g.R.Rig.faults c.args.rig.now) (g.R.Rig.faults c.loop-p.rig) (g.R.Rig.faults c.make.new.rig) _ c.loop-p.invariant.0.faults
    (failed_on c.args.n c.loop-p.p (g.R.Rig.faults c.loop-p.rig) (g.R.Rig.faults c.make.new.rig) (c.loop-p-test.true, omega (arith, c.loop-p-test.true, c.requires.few)) (c.make.ensures.only_if_fault.failed (c.in-Err-Failed.is ∙ ap Err c.in-Err-Failed.field-0-is)) c.make.ensures.kept.counts.faults)

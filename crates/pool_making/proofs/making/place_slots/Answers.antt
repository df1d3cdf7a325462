use Rattle.std.proofs.Common.{◌<◌, ◌+◌, ℕ, arith}
use Rattle.pool_moves.proofs.MakingLemmas.{placed_none, placed_on, placed_run}
use Rattle.pool_making.proofs.FaultLemmas.{cause_after, failed_on}
use Rattle.pool_making.proofs.FrameLemmas.{none_spent, nothing_done, one_spends, then_placed}
use Rattle.pool_making.proofs.making.place_slots.Goals as goal

pub loop-p-init : goal.loop-p-init
loop-p-init g c = (
  placed_none g.R.Rig.is_here g.R.Rig.reads g.R.Rig.clock g.R.Rig.images g.R.Rig.faults c.args.rig.now,
  nothing_done g.R.Rig.is_here g.R.Rig.reads g.R.Rig.said g.R.Rig.faults g.R.Rig.syncs g.R.Rig.bytes_written g.R.Rig.bytes_read (λ (s : ℕ). s < 0) c.args.rig.now,
  none_spent g.R.Rig.is_here g.R.Rig.reads g.R.Rig.said g.R.Rig.faults g.R.Rig.syncs g.R.Rig.bytes_written g.R.Rig.bytes_read c.args.n 0 0 0 c.args.rig.now,
)

pub loop-p-preserved : goal.loop-p-preserved
loop-p-preserved g c =
    let p = c.loop-p.p in
    let placed = c.place.ensures in (
      placed_on g.R.Rig.is_here g.R.Rig.reads g.R.Rig.clock g.R.Rig.images g.R.Rig.faults c.args.rig.now c.loop-p.rig c.place.new.self p
          c.loop-p.invariant.0 placed.any_moment c.in-Ok.ensures.placed placed.here placed.reads c.in-Ok.ensures.cause.kept placed.kept.faults,
      then_placed g.R.Rig.is_here g.R.Rig.reads g.R.Rig.said g.R.Rig.faults g.R.Rig.syncs g.R.Rig.bytes_written g.R.Rig.bytes_read (λ (s : ℕ). s < p) (λ (s : ℕ). s < p + 1) p c.args.rig.now c.loop-p.rig c.place.new.self (λ s below. omega (arith, below)) (omega arith) c.loop-p.invariant.1
          placed.said placed.here placed.only_here placed.reads placed.kept,
      one_spends g.R.Rig.is_here g.R.Rig.reads g.R.Rig.said g.R.Rig.faults g.R.Rig.syncs g.R.Rig.bytes_written g.R.Rig.bytes_read (λ (s : ℕ). s < p) c.args.n p 0 0 0 c.args.rig.now c.loop-p.rig c.place.new.self (λ below. omega (arith, below)) c.loop-p.invariant.1
          placed.kept placed.counts c.loop-p.invariant.2,
    )

pub returns-in-Err-clause-any_moment : goal.returns-in-Err-clause-any_moment
returns-in-Err-clause-any_moment g c = placed_run g.R.Rig.is_here g.R.Rig.reads g.R.Rig.clock g.R.Rig.images g.R.Rig.faults c.args.rig.now c.loop-p.rig c.place.new.self c.loop-p.p
    c.loop-p.invariant.0 c.place.ensures.any_moment

pub returns-in-Err-clause-cause : goal.returns-in-Err-clause-cause
returns-in-Err-clause-cause g c = cause_after c.args.n (g.R.Rig.faults c.args.rig.now) (g.R.Rig.faults c.loop-p.rig) (g.R.Rig.faults c.place.new.self) _ c.loop-p.invariant.0.faults
    (failed_on c.args.n c.loop-p.p (g.R.Rig.faults c.loop-p.rig) (g.R.Rig.faults c.place.new.self) (c.loop-p-test.true, omega (arith, c.loop-p-test.true, c.requires.few)) c.in-Err.ensures.cause.failed c.place.ensures.kept.faults)

pub returns-in-Err-clause-kept : goal.returns-in-Err-clause-kept
returns-in-Err-clause-kept g c =
    let p = c.loop-p.p in
    let placed = c.place.ensures in
    then_placed g.R.Rig.is_here g.R.Rig.reads g.R.Rig.said g.R.Rig.faults g.R.Rig.syncs g.R.Rig.bytes_written g.R.Rig.bytes_read (λ (s : ℕ). s < p) (λ (s : ℕ). s < c.args.n) p c.args.rig.now c.loop-p.rig c.place.new.self (λ s below. omega (arith, below, c.loop-p-test.true))
    (omega (arith, c.loop-p-test.true)) c.loop-p.invariant.1 placed.said placed.here placed.only_here placed.reads placed.kept

pub returns-in-Err-clause-costs : goal.returns-in-Err-clause-costs
returns-in-Err-clause-costs g c =
    let p = c.loop-p.p in
    one_spends g.R.Rig.is_here g.R.Rig.reads g.R.Rig.said g.R.Rig.faults g.R.Rig.syncs g.R.Rig.bytes_written g.R.Rig.bytes_read (λ (s : ℕ). s < p) c.args.n p 0 0 0 c.args.rig.now c.loop-p.rig c.place.new.self (λ below. omega (arith, below)) c.loop-p.invariant.1
    c.place.ensures.kept c.place.ensures.counts c.loop-p.invariant.2

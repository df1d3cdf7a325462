use Rattle.std.proofs.Common.{rules, ℕ, ◌≡◌, sym, subst, refl, Option, Some}
use Rattle.std.specs.Prelude.{IfSome}
use Rattle.ec_model.specs.Codes.{HasPosition}
use Rattle.shard_store.specs.OnSlot.{MayFlush}
use Rattle.shard_store.specs.Shelves.{store_at}
use Rattle.shard_store.specs.declared.store.Store.{Store}
use Rattle.shard_store.specs.Ranges.{range_of, object_bytes}
use Rattle.ec_pipeline.specs.Reading.{HasSteps}
use Rattle.ec_pipeline.proofs.ReadLemmas.{idle_over, steps_over, fetches_none, fetches_more, faults_more, none_fetched, none_counted, fetched_more, fetched_past, counted_more, counted_past, ok_fails_not, cause_at, quiet_at, among_at}
use Rattle.ec_pipeline.proofs.reading.fetch_chunks.Goals.{then-has+in-Ok, else-has}
use Rattle.ec_pipeline.proofs.reading.fetch_chunks.Goals as goal

pub fetch_chunk-requires-clause-idle : goal.fetch_chunk-requires-clause-idle
fetch_chunk-requires-clause-idle g c =
    let rig = c.loop-slot.rig in
    let slot = c.loop-slot.slot in
    let has : HasPosition c.args.set.0 slot = search rules in
    subst (λ (o : Option Store). IfSome o (MayFlush (g.R.Rig.is_here rig) (g.R.Rig.reads rig) (g.R.Rig.images rig (g.R.Rig.clock rig)) slot)) (sym (c.loop-slot.invariant.1.stores slot))
    (idle_over g.R.Rig.is_here g.R.Rig.reads g.R.Rig.said g.R.Rig.clock g.R.Rig.images g.R.Rig.faults g.R.Rig.syncs g.R.Rig.bytes_written g.R.Rig.bytes_read
    c.args.rig.now rig slot (store_at c.args.shelf.now slot) c.loop-slot.invariant.2 (c.requires.idle slot has))

pub loop-slot-init : goal.loop-slot-init
loop-slot-init g c =
    let shelf = c.args.shelf.now in
    let rig = c.args.rig.now in (
      none_fetched (λ s. IfSome (store_at shelf s) (HasSteps (g.R.Rig.reads rig) (g.R.Rig.images rig (g.R.Rig.clock rig)))) c.args.set.0 shelf c.args.name.now c.args.at c.args.len _ c.new-chunks.ensures.none,
      none_counted c.args.set.0 c.args.len shelf,
      fetches_none g.R.Rig.is_here g.R.Rig.reads g.R.Rig.said g.R.Rig.clock g.R.Rig.images g.R.Rig.faults g.R.Rig.syncs g.R.Rig.bytes_written g.R.Rig.bytes_read rig,
      λ s. refl,
    )

pub loop-slot-preserved : goal.loop-slot-preserved
loop-slot-preserved g c =
    let is_here = g.R.Rig.is_here in
    let reads = g.R.Rig.reads in
    let said = g.R.Rig.said in
    let clock = g.R.Rig.clock in
    let images = g.R.Rig.images in
    let faults = g.R.Rig.faults in
    let syncs = g.R.Rig.syncs in
    let written = g.R.Rig.bytes_written in
    let read = g.R.Rig.bytes_read in
    let set = c.args.set.0 in
    let slot = c.loop-slot.slot in
    let shelf = c.args.shelf.now in
    let rig = c.args.rig.now in
    let so_far = c.loop-slot.invariant in
    let known : ℕ → Type 0 = λ s. IfSome (store_at shelf s) (HasSteps (reads rig) (images rig (clock rig))) in
    elim c.if-has.branch [
      | then-has+in-Ok w ↦
          let has : HasPosition set slot = search rules in
          let same : store_at c.loop-slot.shelf slot ≡ store_at shelf slot = so_far.1.stores slot in
          rw (w.shelf-is, w.rig-is, w.chunks-is) (
            fetched_more known set slot shelf c.args.name.now c.args.at c.args.len c.loop-slot.chunks _ _ so_far.0 w.in-Ok.ensures.long
                (λ k. subst (λ (o : Option Store). range_of (object_bytes o c.args.name.now) c.args.at c.args.len ≡ Some w.in-Ok.chunk) same (w.in-Ok.ensures.value
                (subst (λ (o : Option Store). IfSome o (HasSteps (reads c.loop-slot.rig) (images c.loop-slot.rig (clock c.loop-slot.rig)))) (sym same)
                (steps_over is_here reads said clock images faults syncs written read rig c.loop-slot.rig (store_at shelf slot) so_far.2 k))))
                w.set.ensures.value w.set.ensures.others has,
            counted_more set slot c.args.len shelf c.loop-slot.shelf _ so_far.1 w.fetch_chunk.ensures.others w.in-Ok.ensures.counted has,
            fetches_more is_here reads said clock images faults syncs written read slot rig c.loop-slot.rig _ so_far.2 w.fetch_chunk.ensures.rig,
            λ s. faults_more is_here reads said clock images faults syncs written read slot s rig c.loop-slot.rig _ w.fetch_chunk.ensures.rig (w.in-Ok.ensures.quiet (ok_fails_not _ _ _)) so_far.3,
          )
      | else-has w ↦
          let lacks : HasPosition set slot → ⊥ = search rules in
          rw (w.shelf-is, w.rig-is, w.chunks-is) (
            fetched_past known set slot shelf c.args.name.now c.args.at c.args.len c.loop-slot.chunks so_far.0 lacks,
            counted_past set slot c.args.len shelf c.loop-slot.shelf so_far.1 lacks,
            so_far.2,
            so_far.3,
          )
    ]

pub returns-in-Err-clause-slot : goal.returns-in-Err-clause-slot
returns-in-Err-clause-slot g c s is =
    cause_at g.R.Rig.is_here g.R.Rig.reads g.R.Rig.said g.R.Rig.clock g.R.Rig.images g.R.Rig.faults g.R.Rig.syncs g.R.Rig.bytes_written g.R.Rig.bytes_read
    _ _ c.in-Err.fault c.loop-slot.slot s c.args.rig.now c.loop-slot.rig c.fetch_chunk.new.rig c.args.shelf.now c.loop-slot.shelf c.args.name.now c.args.at c.args.len
    c.in-Err.ensures.faults is c.loop-slot.invariant.3 c.loop-slot.invariant.1.stores c.in-Err.ensures.slot

pub returns-in-Err-clause-quiet : goal.returns-in-Err-clause-quiet
returns-in-Err-clause-quiet g c s other =
    quiet_at g.R.Rig.is_here g.R.Rig.reads g.R.Rig.said g.R.Rig.clock g.R.Rig.images g.R.Rig.faults g.R.Rig.syncs g.R.Rig.bytes_written g.R.Rig.bytes_read
    _ _ c.in-Err.fault c.loop-slot.slot s c.args.rig.now c.loop-slot.rig c.fetch_chunk.new.rig c.fetch_chunk.ensures.rig c.in-Err.ensures.quiet other c.loop-slot.invariant.3

pub returns-in-Err-clause-rig : goal.returns-in-Err-clause-rig
returns-in-Err-clause-rig g c =
    fetches_more g.R.Rig.is_here g.R.Rig.reads g.R.Rig.said g.R.Rig.clock g.R.Rig.images g.R.Rig.faults g.R.Rig.syncs g.R.Rig.bytes_written g.R.Rig.bytes_read
    c.loop-slot.slot c.args.rig.now c.loop-slot.rig c.fetch_chunk.new.rig c.loop-slot.invariant.2 c.fetch_chunk.ensures.rig

pub returns-in-Err-clause-among : goal.returns-in-Err-clause-among
returns-in-Err-clause-among g c s is =
    let has : HasPosition c.args.set.0 c.loop-slot.slot = search rules in
    among_at _ c.in-Err.fault c.args.set.0 c.loop-slot.slot s c.in-Err.ensures.faults is has

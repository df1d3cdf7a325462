use Rattle.std.proofs.Common.{◌≡◌, true, false, rules, sym, subst}
use Rattle.ec_model.specs.Codes.{HasPosition}
use Rattle.ec_pipeline.proofs.FlushAllLemmas.{IsMarked, marked_lost, marked_kept, one_flushed, none_flushed_more}
use Rattle.ec_pipeline.proofs.flushing.flush_all.Goals.{then-has+then-not-kept, then-has+else-not-kept, else-has}
use Rattle.ec_pipeline.proofs.flushing.flush_all.Goals as goal

pub loop-slot-preserved : goal.loop-slot-preserved
loop-slot-preserved g c =
    let is_here = g.R.Rig.is_here in
    let reads = g.R.Rig.reads in
    let said = g.R.Rig.said in
    let clock = g.R.Rig.clock in
    let images = g.R.Rig.images in
    let faults = g.R.Rig.faults in
    let set = c.args.set.0 in
    let slot = c.loop-slot.slot in
    let lost = c.loop-slot.lost in
    elim c.if-has.branch [
      | then-has+then-not-kept w ↦
          let has : HasPosition set slot = search rules in
          let failed : w.flush_slot-kept.result ≡ false = search rules in
          let e = w.flush_slot-kept.ensures in
          rw (w.shelf-is) (rw (w.rig-is) (rw (w.lost-is)
          (one_flushed is_here reads said clock images faults set slot lost _ w.flush_slot-kept.result c.args.shelf.now c.loop-slot.shelf w.flush_slot-kept.new.shelf c.args.rig.now c.loop-slot.rig w.flush_slot-kept.new.rig
          c.loop-slot.invariant
          (record { after = e.after; cause = e.cause; quiet = e.quiet; unbarred = e.unbarred; ready = e.ready; stands = e.stands; any_moment = e.any_moment; here = e.kept.here; reads_as = e.kept.reads; said = e.kept.said; faults_are = e.kept.counts.faults; others = e.others })
          has (subst (IsMarked lost _ slot) (sym failed) (marked_lost lost slot c.loop-slot-test.true)))))
      | then-has+else-not-kept w ↦
          let has : HasPosition set slot = search rules in
          let kept : w.flush_slot-kept.result ≡ true = search rules in
          let e = w.flush_slot-kept.ensures in
          rw (w.shelf-is) (rw (w.rig-is) (rw (w.lost-is)
          (one_flushed is_here reads said clock images faults set slot lost lost w.flush_slot-kept.result c.args.shelf.now c.loop-slot.shelf w.flush_slot-kept.new.shelf c.args.rig.now c.loop-slot.rig w.flush_slot-kept.new.rig
          c.loop-slot.invariant
          (record { after = e.after; cause = e.cause; quiet = e.quiet; unbarred = e.unbarred; ready = e.ready; stands = e.stands; any_moment = e.any_moment; here = e.kept.here; reads_as = e.kept.reads; said = e.kept.said; faults_are = e.kept.counts.faults; others = e.others })
          has (subst (IsMarked lost lost slot) (sym kept) (marked_kept lost slot)))))
      | else-has w ↦
          let lacks : HasPosition set slot → ⊥ = search rules in
          rw (w.shelf-is) (rw (w.rig-is) (rw (w.lost-is)
          (none_flushed_more is_here reads said clock images faults set slot lost c.args.shelf.now c.loop-slot.shelf c.args.rig.now c.loop-slot.rig c.loop-slot.invariant lacks)))
    ]

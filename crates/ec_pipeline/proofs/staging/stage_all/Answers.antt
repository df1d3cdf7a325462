use Rattle.std.proofs.Common.{rules, arith}
use Rattle.ec_model.specs.Codes.{HasPosition}
use Rattle.shard_store.specs.Told.{with_step}
use Rattle.ec_pipeline.specs.Updates.{update_of}
use Rattle.ec_pipeline.specs.Drafts.{drafted_step}
use Rattle.ec_pipeline.proofs.SetLemmas.{position_below}
use Rattle.ec_pipeline.proofs.ShelfLemmas.{one_told, none_more, stopped, on_err}
use Rattle.ec_pipeline.proofs.staging.stage_all.Goals.{then-has+in_ok-stage_slot, else-has}
use Rattle.ec_pipeline.proofs.staging.stage_all.Goals as goal

pub stage_slot-requires-clause-slot : goal.stage_slot-requires-clause-slot
stage_slot-requires-clause-slot g c =
    let code = (goal.Code-dyn g c.args.code.now).meaning c.args.code.now.1 in
    let has : HasPosition c.args.set.0 c.loop-slot.slot = search rules in
    position_below code.n c.args.set.0 c.loop-slot.slot c.requires.below has

pub returns-in_err-stage_slot-clause-some : goal.returns-in_err-stage_slot-clause-some
returns-in_err-stage_slot-clause-some g c =
    let code = (goal.Code-dyn g c.args.code.now).meaning c.args.code.now.1 in
    on_err c.from_residual.result (stopped (λ s t. with_step t (drafted_step code c.args.g.unit s c.args.draft.now (update_of c.args.update.now))) c.args.set.0 c.loop-slot.slot c.args.shelf.now c.loop-slot.shelf c.stage_slot.new.shelf
    (omega (arith, c.loop-slot.auto.slot-end)) c.loop-slot.invariant c.in_err-stage_slot.ensures.unchanged c.stage_slot.ensures.others)

pub loop-slot-preserved : goal.loop-slot-preserved
loop-slot-preserved g c =
    let code = (goal.Code-dyn g c.args.code.now).meaning c.args.code.now.1 in
    elim c.if-has.branch [
      | then-has+in_ok-stage_slot w ↦
          let has : HasPosition c.args.set.0 c.loop-slot.slot = search rules in
          rw (w.shelf-is) (one_told (λ s t. with_step t (drafted_step code c.args.g.unit s c.args.draft.now (update_of c.args.update.now))) c.args.set.0 c.loop-slot.slot c.args.shelf.now c.loop-slot.shelf _
          c.loop-slot.invariant w.in_ok-stage_slot.ensures.ok w.stage_slot.ensures.others has)
      | else-has w ↦
          let lacks : HasPosition c.args.set.0 c.loop-slot.slot → ⊥ = search rules in
          rw (w.shelf-is) (none_more (λ s t. with_step t (drafted_step code c.args.g.unit s c.args.draft.now (update_of c.args.update.now))) c.args.set.0 c.loop-slot.slot c.args.shelf.now c.loop-slot.shelf c.loop-slot.invariant lacks)
    ]

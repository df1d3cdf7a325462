use Rattle.std.proofs.Common.{rules}
use Rattle.ec_model.specs.Codes.{HasPosition}
use Rattle.shard_store.specs.Shelves.{store_at}
use Rattle.shard_store.specs.Told.{all_accepted}
use Rattle.ec_pipeline.proofs.AgainLemmas.{tells_itself, tells_accepted, tells_more}
use Rattle.ec_pipeline.proofs.ShelfLemmas.{none_told, one_told, none_more}
use Rattle.ec_pipeline.proofs.staging.accept_all.Goals.{then-has, else-has}
use Rattle.ec_pipeline.proofs.staging.accept_all.Goals as goal

pub loop-slot-init : goal.loop-slot-init
loop-slot-init c = (none_told (λ _. all_accepted) c.args.set.0 c.args.shelf.now, λ s. tells_itself (store_at c.args.shelf.now s))

pub loop-slot-preserved : goal.loop-slot-preserved
loop-slot-preserved c =
    let so_far = c.loop-slot.invariant in
    let slot = c.loop-slot.slot in
    elim c.if-has.branch [
      | then-has w ↦
          let has : HasPosition c.args.set.0 slot = search rules in
          let next = w.accept.new.self in
          rw (w.shelf-is) (
            one_told (λ _. all_accepted) c.args.set.0 slot c.args.shelf.now c.loop-slot.shelf next so_far.0 w.accept.ensures.value w.accept.ensures.others has,
            λ s. tells_more c.args.shelf.now c.loop-slot.shelf next slot s (so_far.1 s) (tells_accepted (store_at c.loop-slot.shelf slot) (store_at next slot) w.accept.ensures.told) w.accept.ensures.others,
          )
      | else-has w ↦
          let lacks : HasPosition c.args.set.0 slot → ⊥ = search rules in
          rw (w.shelf-is) (none_more (λ _. all_accepted) c.args.set.0 slot c.args.shelf.now c.loop-slot.shelf so_far.0 lacks, so_far.1)
    ]

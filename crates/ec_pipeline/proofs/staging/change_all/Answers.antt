use Rattle.shard_store.specs.Shelves.{store_at}
use Rattle.ec_pipeline.specs.Updates.{update_of}
use Rattle.ec_pipeline.specs.Drafts.{drafted_step}
use Rattle.ec_pipeline.proofs.AgainLemmas.{tells_then, tells_told}
use Rattle.ec_pipeline.proofs.ShelfLemmas.{forgotten}
use Rattle.ec_pipeline.proofs.staging.change_all.Goals as goal

pub returns-in-Err-clause-unchanged : goal.returns-in-Err-clause-unchanged
returns-in-Err-clause-unchanged g c =
    let code = (goal.Code-dyn g c.args.code.now).meaning c.args.code.now.1 in
    let some = c.in-Err.ensures.some in
    forgotten (λ s. drafted_step code c.args.g.unit s c.args.draft.now (update_of c.args.update.now)) c.args.set.0 some.0 c.args.shelf.now c.stage_all.new.shelf c.unstage_all.new.shelf
    some.1 c.requires.accepted some.2 c.unstage_all.ensures

pub returns-in-Ok-clause-told : goal.returns-in-Ok-clause-told
returns-in-Ok-clause-told g c s =
    let code = (goal.Code-dyn g c.args.code.now).meaning c.args.code.now.1 in
    let mid = c.stage_all.new.shelf in
    tells_then (store_at c.args.shelf.now s) (store_at mid s) (store_at c.accept_all.new.shelf s)
    (tells_told (λ p. drafted_step code c.args.g.unit p c.args.draft.now (update_of c.args.update.now)) c.args.set.0 c.args.shelf.now mid c.in-Ok.ensures.ok s)
    (c.accept_all.ensures.told s)

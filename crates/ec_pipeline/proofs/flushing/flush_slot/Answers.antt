use Rattle.shard_store.specs.Shelves.{store_at}
use Rattle.ec_pipeline.proofs.FlushLemmas.{ok_flushed, err_flushed, err_cause, ok_unbarred, ok_quiet}
use Rattle.ec_pipeline.proofs.flushing.flush_slot.Goals as goal

pub returns-in-Ok-clause-after : goal.returns-in-Ok-clause-after
returns-in-Ok-clause-after g c = ok_flushed _ _ (store_at c.args.shelf.now c.args.slot) (store_at c.flush.new.self c.args.slot) c.in-Ok.ensures.after

pub returns-in-Ok-clause-unbarred : goal.returns-in-Ok-clause-unbarred
returns-in-Ok-clause-unbarred g c _ = ok_unbarred _ _ (store_at c.args.shelf.now c.args.slot) c.in-Ok.ensures.spent

pub returns-in-Ok-clause-quiet : goal.returns-in-Ok-clause-quiet
returns-in-Ok-clause-quiet g c _ = ok_quiet _ _ _ _ c.in-Ok.ensures.only_if_fault

pub returns-in-Err-clause-after : goal.returns-in-Err-clause-after
returns-in-Err-clause-after g c = err_flushed _ _ (store_at c.args.shelf.now c.args.slot) (store_at c.flush.new.self c.args.slot) c.in-Err.ensures.some c.in-Err.ensures.after

pub returns-in-Err-clause-cause : goal.returns-in-Err-clause-cause
returns-in-Err-clause-cause g c _ =
    err_cause _ c.in-Err.field-0 _ _ (store_at c.args.shelf.now c.args.slot) c.in-Err.ensures.faults c.in-Err.ensures.some c.in-Err.ensures.spent c.in-Err.ensures.only_if_fault

use Rattle.shard_store.specs.Shelves.{store_at}
use Rattle.ec_pipeline.proofs.SettleLemmas.{none_if}
use Rattle.ec_pipeline.proofs.settling.stage_if.Goals as goal

pub returns-in-None-clause-ok : goal.returns-in-None-clause-ok
returns-in-None-clause-ok c = none_if c.args.step (store_at c.args.shelf.now c.args.slot) c.in-None.is

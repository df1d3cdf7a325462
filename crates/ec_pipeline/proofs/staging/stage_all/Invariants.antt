use Rattle.shard_store.specs.Told.{with_step}
use Rattle.ec_pipeline.specs.Updates.{update_of}
use Rattle.ec_pipeline.specs.Drafts.{drafted_step}
use Rattle.ec_pipeline.specs.Shelving.{AreTold}
use Rattle.ec_pipeline.proofs.staging.stage_all.Given as goal

abbrev pub invariant-loop-slot : goal.invariant-loop-slot
invariant-loop-slot g l =
    AreTold (λ s t. with_step t (drafted_step ((goal.Code-dyn g l.code.now).meaning l.code.now.1) l.g.unit s l.draft (update_of l.update))) l.set.0 l.slot l.initial.shelf l.shelf

use Rattle.ec_pipeline.proofs.AfterFlushLemmas.{shows_on, ready_on}
use Rattle.ec_pipeline.proofs.pipeline.Pipeline.flush.Goals as goal

pub returns-clause-shows : goal.returns-clause-shows
returns-clause-shows g c =
    shows_on g.R.Rig.is_here g.R.Rig.reads g.R.Rig.said g.R.Rig.clock g.R.Rig.images g.R.Rig.faults c.args.joined.0 c.flush_all-lost.result.0 c.args.shelf.now c.flush_all-lost.new.shelf c.args.rig.now c.flush_all-lost.new.rig
    c.flush_all-lost.ensures c.requires.few

pub returns-clause-again : goal.returns-clause-again
returns-clause-again g c =
    ready_on g.R.Rig.is_here g.R.Rig.reads g.R.Rig.said g.R.Rig.clock g.R.Rig.images g.R.Rig.faults c.args.joined.0 c.flush_all-lost.result.0 c.args.shelf.now c.flush_all-lost.new.shelf c.args.rig.now c.flush_all-lost.new.rig
    c.flush_all-lost.ensures c.requires.few

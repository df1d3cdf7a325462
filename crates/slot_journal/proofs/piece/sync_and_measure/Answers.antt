use Rattle.std.proofs.Common.{sym, ◌∙◌}
use Rattle.rig_disk.proofs.Moments.{only_stays}
use Rattle.slot_journal.proofs.piece.sync_and_measure.Goals as goal

pub returns-clause-durable : goal.returns-clause-durable
returns-clause-durable g c there told =
    only_stays g.R.Rig.clock g.R.Rig.images c.sync.new.self c.length.new.self c.args.slot 0 there (c.in_ok-sync.ensures.durable there (sym c.length.ensures.reads ∙ told)) c.length.ensures.any_moment

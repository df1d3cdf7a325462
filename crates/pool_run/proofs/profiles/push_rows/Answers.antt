use Rattle.pool_run.specs.Profiles.{row_line}
use Rattle.pool_run.proofs.ProfileLemmas.{texts_more}
use Rattle.pool_run.proofs.profiles.push_rows.Goals as goal

pub loop-p-preserved : goal.loop-p-preserved
loop-p-preserved g c =
    texts_more (row_line ((goal.Code-dyn g c.args.code.now).meaning c.args.code.now.1)) c.args.list.now.items c.loop-p.list.items _ c.loop-p.p
    c.loop-p.invariant c.in_ok-push_row.ensures

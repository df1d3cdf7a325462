use Rattle.std.proofs.Common.{rules}
use Rattle.pool_run.proofs.ProfileLemmas.{value_more}
use Rattle.pool_run.proofs.profiles.row.Goals as goal

pub loop-j-preserved : goal.loop-j-preserved
loop-j-preserved g c =
    value_more _ _ _ c.loop-j.j c.entry.result c.loop-j.invariant (search rules) (search rules)

use Rattle.pool_map.proofs.TextLemmas.{open_told}
use Rattle.pool_map.proofs.map.PoolMap.there.Goals as goal

pub returns-clause-yes : goal.returns-clause-yes
returns-clause-yes g c = λ yes text told.
    (open_told (g.R.Rig.reads c.args.rig.now 16 0) text c.read_front.new.front told (c.in_ok-read_front.ensures.some yes)).0

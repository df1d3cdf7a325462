use Rattle.auth_log.specs.Choice.{said_in}
use Rattle.auth_log.proofs.OrderLemmas.{one_more, none_more, least_so_far_same, least_more}
use Rattle.auth_log.proofs.order.least_head.Goals as goal
use Rattle.auth_log.proofs.order.least_head.Goals.{in-Some, in-None}

pub loop-p-preserved : goal.loop-p-preserved
loop-p-preserved c =
    let said = said_in c.args.infos.now in
    elim c.match-said.branch [
      | in-Some w ↦
          rw w.least-is rw w.lesser-least.ensures
          (least_more _ _ c.loop-p.p c.args.epoch w.in-Some.info c.loop-p.least (one_more said c.args.set.0 c.loop-p.p w.in-Some.info w.in-Some.ensures.some) c.loop-p.invariant)
      | in-None w ↦ rw w.least-is (least_so_far_same _ _ c.args.epoch c.loop-p.least (none_more said c.args.set.0 c.loop-p.p w.in-None.ensures.none) c.loop-p.invariant)
    ]

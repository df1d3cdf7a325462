use Rattle.std.proofs.Common.{◌≡◌, ap}
use Rattle.auth_log.specs.Choice.{said_in}
use Rattle.auth_log.proofs.OrderLemmas.{one_more, none_more, all_of_list, greatest_same, greatest_more}
use Rattle.auth_log.proofs.order.greatest_epoch.Goals as goal
use Rattle.auth_log.proofs.order.greatest_epoch.Goals.{in-Some, in-None}

pub loop-p-preserved : goal.loop-p-preserved
loop-p-preserved c =
    let said = said_in c.args.infos.now in
    elim c.match-said.branch [
      | in-Some w ↦
          let les : w.info.inside.les ≡ w.in-Some.info.les = ap (λ i. i.les) w.info.view_is in
          rw w.epoch-is rw w.max-epoch.ensures rw les
          (greatest_more _ _ c.loop-p.p c.loop-p.epoch w.in-Some.info (one_more said c.args.set.0 c.loop-p.p w.in-Some.info w.in-Some.ensures.some) c.loop-p.invariant)
      | in-None w ↦ rw w.epoch-is (greatest_same _ _ _ (none_more said c.args.set.0 c.loop-p.p w.in-None.ensures.none) c.loop-p.invariant)
    ]

pub returns : goal.returns
returns c =
    greatest_same _ _ _ (all_of_list c.args.infos.now c.args.set.0 c.loop-p.p c.type_inv.infos c.loop-p-test.false) c.loop-p.invariant

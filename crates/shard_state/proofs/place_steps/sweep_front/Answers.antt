use Rattle.std.proofs.Common.{sym, ap, subst, ◌∙◌, drop, map as each}
use Rattle.std.specs.List.{AllByRecursion}
use Rattle.shard_state.specs.Places.{inside}
use Rattle.shard_state.specs.Records.{recorded}
use Rattle.shard_state.specs.Sound.{HasPlace}
use Rattle.shard_state.proofs.SweepLemmas.{apart_placed}
use Rattle.shard_state.proofs.place_steps.sweep_front.Goals as goal
use Rattle.shard_state.proofs.place_steps.sweep_front.Goals.{then-may_go, else-may_go}

pub loop-i-preserved : goal.loop-i-preserved
loop-i-preserved c =
    let left = each recorded (drop c.args.cut c.args.log.now.items) in
    elim c.if-may_go.branch [
      | then-may_go w ↦ (
        ap inside w.places-is ∙ w.sweep.ensures.same ∙ c.loop-i.invariant.0,
        λ all. subst (λ m. AllByRecursion (λ r. HasPlace m r.logged.name) left) (sym w.places-is)
            (apart_placed c.loop-i.places w.sweep.new.self _ left w.sweep.ensures.others (c.may_go.ensures w.if-may_go.true) (c.loop-i.invariant.1 all)),
      )
      | else-may_go w ↦ (
        ap inside w.places-is ∙ c.loop-i.invariant.0,
        λ all. subst (λ m. AllByRecursion (λ r. HasPlace m r.logged.name) left) (sym w.places-is) (c.loop-i.invariant.1 all),
      )
    ]

use Rattle.std.proofs.Common.{false, map as each, sym, ap, subst, refl, ◌∙◌}
use Rattle.ec_model.specs.Versions.{zero_version}
use Rattle.shard_model.specs.Objects.{Geometry, AreHeld}
use Rattle.shard_model.specs.States.{Unbegun}
use Rattle.shard_state.specs.Places.{inside}
use Rattle.shard_state.specs.Records.{recorded}
use Rattle.shard_state.specs.Sound.{IsKept, logged_in}
use Rattle.shard_state.specs.Doing.{fresh_state}
use Rattle.shard_state.proofs.OrderLemmas.{OrderedWith}
use Rattle.shard_state.proofs.KeepLemmas.{no_log_kept, nothing_held, nothing_inside}
use Rattle.shard_state.proofs.state.ShardState.fresh.Goals as goal

pub invariant_of-result : goal.invariant_of-result
invariant_of-result c =
    let g : Geometry = record { k = c.args.g.k; unit = c.args.g.unit } in
    let held : AreHeld g (inside c.new.result) = subst (AreHeld g) (sym (ap inside c.new.ensures ∙ nothing_inside)) (nothing_held g) in
    let none = ap (each recorded) c.new-2.ensures.items in
    let order = subst (OrderedWith fresh_state) (sym (ap (each logged_in) none)) (record { below = tt; rising = tt; alone = λ p. refl }) in
    record {
      kept = subst (IsKept g c.new.result (inside c.new.result)) (sym none) (no_log_kept g c.new.result (inside c.new.result) held);
      ordered = record { below = order.below; rising = order.rising; alone = order.alone };
    }

pub returns : goal.returns
returns c =
    let g : Geometry = record { k = c.args.g.k; unit = c.args.g.unit } in
    let objects = ap inside c.new.ensures ∙ nothing_inside in
    let log = ap (λ es. each logged_in (each recorded es)) c.new-2.ensures.items in
    λ i. record { geometry = g; state = record { phase = Unbegun; objects = objects i; log = log i; tail = zero_version; firm = zero_version; head = zero_version; les = 0; partial = false } }

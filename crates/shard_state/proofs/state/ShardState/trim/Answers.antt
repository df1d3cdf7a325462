use Rattle.std.proofs.Common.{map as each, drop, sym, ap, subst, ◌∙◌}
use Rattle.shard_model.specs.Objects.{Geometry}
use Rattle.shard_model.specs.Steps.{Control, Trim}
use Rattle.shard_model.specs.Shards.{Shard, stepped}
use Rattle.shard_state.specs.Inner.{shard_of}
use Rattle.shard_state.specs.Places.{inside}
use Rattle.shard_state.specs.Records.{recorded, log_of}
use Rattle.shard_state.specs.Sound.{IsKept, IsOrdered}
use Rattle.shard_state.proofs.HoldLemmas.{log_is}
use Rattle.shard_state.proofs.LogLemmas.{recorded_dropped, log_dropped}
use Rattle.shard_state.proofs.OrderLemmas.{ordered_after}
use Rattle.shard_state.proofs.KeepLemmas.{dropped_kept}
use Rattle.shard_state.proofs.SweepLemmas.{swept_kept}
use Rattle.shard_model.specs.Fronts.{after}
use Rattle.shard_model.specs.States.{Running, version_of}
use Rattle.shard_state.proofs.state.ShardState.trim.Goals as goal

pub returns : goal.returns
returns c =
    let g : Geometry = record { k = c.self.inside.geometry.k; unit = c.self.inside.geometry.unit } in
    let s = shard_of c.self.inside in
    let left = ap log_of c.take_off.ensures ∙ log_dropped c.self.inside.log.items c.front_len-cut.result ∙ c.front_len-cut.ensures.rest in
    let log = sym (log_is c.take_off.new.log.items) ∙ left ∙ ap (after version_of c.args.version.now) (log_is c.self.inside.log.items) in
    (λ i. record { geometry = g; state = record { phase = Running; objects = c.sweep_front.ensures.same i; log = log i; tail = c.args.version.now; firm = s.state.firm; head = s.state.head; les = s.state.les; partial = s.state.partial } })
    ∙ ap (λ t. stepped t (Control (Trim c.args.version.now))) c.self.view_is

pub invariant_of-self : goal.invariant_of-self
invariant_of-self c =
    let g : Geometry = record { k = c.self.inside.geometry.k; unit = c.self.inside.geometry.unit } in
    let cut = c.front_len-cut.result in
    let old = c.self.inside.places in
    let kept = subst (IsKept g old (inside old)) (sym (recorded_dropped c.self.inside.log.items cut)) (dropped_kept g old (inside old) cut (each recorded c.self.inside.log.items) c.self.invariant.kept) in
    record {
      kept = subst (IsKept g c.sweep_front.new.places (inside c.sweep_front.new.places)) (sym (ap (each recorded) c.take_off.ensures))
          (swept_kept g old c.sweep_front.new.places (each recorded (drop cut c.self.inside.log.items)) c.sweep_front.ensures.same c.sweep_front.ensures.placed kept);
      ordered = subst (λ (t : Shard). IsOrdered t.state) (sym (returns c))
          (ordered_after c.args.self.now.geometry c.args.self.now.state (Control (Trim c.args.version.now)) (subst (λ (t : Shard). IsOrdered t.state) c.self.view_is c.self.invariant.ordered) c.requires);
    }

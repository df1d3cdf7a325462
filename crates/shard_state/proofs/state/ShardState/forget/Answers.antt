use Rattle.std.proofs.Common.{None, map as each, sym, ap, subst, ◌∙◌}
use Rattle.shard_model.specs.Objects.{Geometry, AreHeld}
use Rattle.shard_model.specs.Steps.{Recover, Drop}
use Rattle.shard_model.specs.States.{Running}
use Rattle.shard_model.specs.Shards.{Shard, stepped}
use Rattle.shard_state.specs.Inner.{shard_of}
use Rattle.shard_state.specs.Places.{inside}
use Rattle.shard_state.specs.Records.{recorded}
use Rattle.shard_state.specs.Sound.{IsKept, IsOrdered}
use Rattle.shard_state.proofs.OrderLemmas.{ordered_after}
use Rattle.shard_state.proofs.StateLemmas.{put_held}
use Rattle.shard_state.proofs.KeepLemmas.{no_log_kept, none_recorded}
use Rattle.shard_state.proofs.state.ShardState.forget.Goals as goal

pub returns : goal.returns
returns c =
    let g : Geometry = record { k = c.self.inside.geometry.k; unit = c.self.inside.geometry.unit } in
    let s = shard_of c.self.inside in
    (λ i. record { geometry = g; state = record { phase = Running; objects = c.empty_place.ensures i; log = s.state.log; tail = s.state.tail; firm = s.state.firm; head = s.state.head; les = s.state.les; partial = s.state.partial } })
    ∙ ap (λ t. stepped t (Recover (Drop c.args.name.now))) c.self.view_is

pub invariant_of-self : goal.invariant_of-self
invariant_of-self c =
    let g : Geometry = record { k = c.self.inside.geometry.k; unit = c.self.inside.geometry.unit } in
    let s = shard_of c.self.inside in
    let none = none_recorded (each recorded c.self.inside.log.items) (c.self.invariant.ordered.alone (ap (λ t. t.state.partial) c.self.view_is ∙ c.requires)) in
    let held : AreHeld g (inside c.empty_place.new.places) =
    subst (AreHeld g) (sym c.empty_place.ensures) (put_held g (inside c.self.inside.places) c.args.name.now None c.self.invariant.kept.held tt) in
    record {
      kept = subst (IsKept g c.empty_place.new.places (inside c.empty_place.new.places)) (sym none) (no_log_kept g c.empty_place.new.places (inside c.empty_place.new.places) held);
      ordered = subst (λ (t : Shard). IsOrdered t.state) (sym (returns c))
          (ordered_after c.args.self.now.geometry c.args.self.now.state (Recover (Drop c.args.name.now)) (subst (λ (t : Shard). IsOrdered t.state) c.self.view_is c.self.invariant.ordered) c.requires);
    }

use Rattle.std.proofs.Common.{map as each, sym, ap, subst, ◌∙◌}
use Rattle.shard_model.specs.Objects.{Geometry, AreHeld}
use Rattle.shard_model.specs.Steps.{Recover, Clear}
use Rattle.shard_model.specs.States.{Running}
use Rattle.shard_model.specs.Shards.{Shard, stepped}
use Rattle.shard_state.specs.Inner.{shard_of}
use Rattle.shard_state.specs.Places.{inside}
use Rattle.shard_state.specs.Records.{recorded}
use Rattle.shard_state.specs.Sound.{IsKept, IsOrdered}
use Rattle.shard_state.proofs.OrderLemmas.{ordered_after}
use Rattle.shard_state.proofs.KeepLemmas.{no_log_kept, nothing_held, nothing_inside, none_recorded}
use Rattle.shard_state.proofs.state.ShardState.clear.Goals as goal

pub returns : goal.returns
returns c =
    let g : Geometry = record { k = c.self.inside.geometry.k; unit = c.self.inside.geometry.unit } in
    let s = shard_of c.self.inside in
    let objects = ap inside c.new.ensures ∙ nothing_inside in
    (λ i. record { geometry = g; state = record { phase = Running; objects = objects i; log = s.state.log; tail = s.state.tail; firm = s.state.firm; head = s.state.head; les = s.state.les; partial = s.state.partial } })
    ∙ ap (λ t. stepped t (Recover Clear)) c.self.view_is

pub invariant_of-self : goal.invariant_of-self
invariant_of-self c =
    let g : Geometry = record { k = c.self.inside.geometry.k; unit = c.self.inside.geometry.unit } in
    let s = shard_of c.self.inside in
    let none = none_recorded (each recorded c.self.inside.log.items) (c.self.invariant.ordered.alone (ap (λ t. t.state.partial) c.self.view_is ∙ c.requires)) in
    let held : AreHeld g (inside c.new.result) = subst (AreHeld g) (sym (ap inside c.new.ensures ∙ nothing_inside)) (nothing_held g) in
    record {
      kept = subst (IsKept g c.new.result (inside c.new.result)) (sym none) (no_log_kept g c.new.result (inside c.new.result) held);
      ordered = subst (λ (t : Shard). IsOrdered t.state) (sym (returns c))
          (ordered_after c.args.self.now.geometry c.args.self.now.state (Recover Clear) (subst (λ (t : Shard). IsOrdered t.state) c.self.view_is c.self.invariant.ordered) c.requires);
    }

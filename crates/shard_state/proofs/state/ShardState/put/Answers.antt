use Rattle.std.proofs.Common.{Some, map as each, sym, ap, subst, ◌∙◌}
use Rattle.shard_model.specs.Objects.{Geometry, IsHeld, AreHeld, put}
use Rattle.shard_model.specs.Steps.{Recover, Put}
use Rattle.shard_model.specs.States.{Running, brought}
use Rattle.shard_model.specs.Shards.{Shard, stepped}
use Rattle.shard_state.specs.Inner.{shard_of}
use Rattle.shard_state.specs.Places.{inside}
use Rattle.shard_state.specs.Records.{recorded}
use Rattle.shard_state.specs.Sound.{IsKept, IsOrdered}
use Rattle.shard_state.proofs.OrderLemmas.{ordered_after}
use Rattle.shard_state.proofs.PlaceLemmas.{inside-insert}
use Rattle.shard_state.proofs.StateLemmas.{put_held}
use Rattle.shard_state.proofs.KeepLemmas.{no_log_kept, none_recorded, brought_held}
use Rattle.shard_state.proofs.state.ShardState.put.Goals as goal

pub returns-clause-ok : goal.returns-clause-ok
returns-clause-ok c =
    let g : Geometry = record { k = c.self.inside.geometry.k; unit = c.self.inside.geometry.unit } in
    let s = shard_of c.self.inside in
    let name = c.args.name.now in
    let objects = ap inside c.set.ensures.value ∙ inside-insert c.make_place.new.places name (Some c.in_ok-held.held)
    ∙ (λ i. put (c.in_ok-make_place.ensures.made.same i) name (Some (c.in_ok-held.ensures i))) in
    (λ i. record { geometry = g; state = record { phase = Running; objects = objects i; log = s.state.log; tail = s.state.tail; firm = s.state.firm; head = s.state.head; les = s.state.les; partial = s.state.partial } })
    ∙ ap (λ t. stepped t (Recover (Put name c.args.size c.args.bytes.now c.args.attrs.now))) c.self.view_is

pub invariant_of-self-2 : goal.invariant_of-self-2
invariant_of-self-2 c =
    let g : Geometry = record { k = c.self.inside.geometry.k; unit = c.self.inside.geometry.unit } in
    let name = c.args.name.now in
    let step = Recover (Put name c.args.size c.args.bytes.now c.args.attrs.now) in
    let new = brought c.args.size c.args.bytes.now c.args.attrs.now in
    let all = brought_held c.args.self.now.geometry c.args.self.now.state name c.args.size c.args.bytes.now c.args.attrs.now c.requires in
    let is : IsHeld g new = subst (λ (t : Shard). IsHeld t.geometry new) (sym c.self.view_is) all.1.1 in
    let objects = ap inside c.set.ensures.value ∙ inside-insert c.make_place.new.places name (Some c.in_ok-held.held)
    ∙ (λ i. put (c.in_ok-make_place.ensures.made.same i) name (Some (c.in_ok-held.ensures i))) in
    let held : AreHeld g (inside c.set.new.self) = subst (AreHeld g) (sym objects) (put_held g (inside c.self.inside.places) name (Some new) c.self.invariant.kept.held is) in
    let none = none_recorded (each recorded c.self.inside.log.items) (c.self.invariant.ordered.alone (ap (λ (t : Shard). t.state.partial) c.self.view_is ∙ all.0)) in
    record {
      kept = subst (IsKept g c.set.new.self (inside c.set.new.self)) (sym none) (no_log_kept g c.set.new.self (inside c.set.new.self) held);
      ordered = subst (λ (t : Shard). IsOrdered t.state) (sym (returns-clause-ok c))
          (ordered_after c.args.self.now.geometry c.args.self.now.state step (subst (λ (t : Shard). IsOrdered t.state) c.self.view_is c.self.invariant.ordered) c.requires);
    }

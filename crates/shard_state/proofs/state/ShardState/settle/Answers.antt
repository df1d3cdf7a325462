use Rattle.std.proofs.Common.{map as each, sym, ap, subst, ◌∙◌}
use Rattle.shard_model.specs.Objects.{Geometry}
use Rattle.shard_model.specs.Steps.{Control, Firm}
use Rattle.shard_model.specs.States.{Running}
use Rattle.shard_model.specs.Shards.{Shard, stepped}
use Rattle.shard_state.specs.Inner.{shard_of}
use Rattle.shard_state.specs.Places.{inside}
use Rattle.shard_state.specs.Records.{recorded}
use Rattle.shard_state.specs.Sound.{IsKept, IsOrdered, logged_in}
use Rattle.shard_state.proofs.OrderLemmas.{ordered_after}
use Rattle.shard_state.proofs.KeepLemmas.{settled_kept, settled_log}
use Rattle.shard_state.proofs.state.ShardState.settle.Goals as goal

pub returns : goal.returns
returns c =
    let g : Geometry = record { k = c.self.inside.geometry.k; unit = c.self.inside.geometry.unit } in
    let s = shard_of c.self.inside in
    let log = ap (each logged_in) c.settle_to.ensures ∙ settled_log c.args.version.now (each recorded c.self.inside.log.items) in
    (λ i. record { geometry = g; state = record { phase = Running; objects = s.state.objects; log = log i; tail = s.state.tail; firm = c.args.version.now; head = s.state.head; les = s.state.les; partial = s.state.partial } })
    ∙ ap (λ t. stepped t (Control (Firm c.args.version.now))) c.self.view_is

pub invariant_of-self : goal.invariant_of-self
invariant_of-self c =
    let g : Geometry = record { k = c.self.inside.geometry.k; unit = c.self.inside.geometry.unit } in
    let s = shard_of c.self.inside in
    record {
      kept = subst (IsKept g c.self.inside.places (inside c.self.inside.places)) (sym c.settle_to.ensures)
          (settled_kept g c.self.inside.places (inside c.self.inside.places) c.args.version.now (each recorded c.self.inside.log.items) c.self.invariant.ordered.rising c.self.invariant.kept);
      ordered = subst (λ (t : Shard). IsOrdered t.state) (sym (returns c))
          (ordered_after c.args.self.now.geometry c.args.self.now.state (Control (Firm c.args.version.now)) (subst (λ (t : Shard). IsOrdered t.state) c.self.view_is c.self.invariant.ordered) c.requires);
    }

use Rattle.std.proofs.Common.{◌∙◌, List, map as each, ap, sym, subst}
use Rattle.shard_model.specs.Objects.{Geometry}
use Rattle.shard_model.specs.Shards.{Shard}
use Rattle.shard_state.specs.Copies.{AreCopies}
use Rattle.shard_state.specs.Inner.{shard_of}
use Rattle.shard_state.specs.Places.{inside}
use Rattle.shard_state.specs.Records.{recorded}
use Rattle.shard_state.specs.Sound.{IsKept, IsOrdered}
use Rattle.shard_state.specs.declared.record.Record.{Record}
use Rattle.shard_state.proofs.CopyLemmas.{same_log, copied_kept}
use Rattle.shard_state.proofs.state.ShardState.copy.Goals as goal

pub returns : goal.returns
returns c =
    let g : Geometry = record { k = c.self.inside.geometry.k; unit = c.self.inside.geometry.unit } in
    let s = shard_of c.self.inside in
    let copies = subst (λ (l : List Record). AreCopies (each recorded l) (each recorded c.in_ok-log.log.items)) c.deref.ensures.value c.in_ok-log.ensures in
    let objects = ap inside c.in_ok-places.ensures in
    let log = same_log (each recorded c.self.inside.log.items) (each recorded c.in_ok-log.log.items) copies in
    (λ i. record { geometry = g; state = record { phase = s.state.phase; objects = objects i; log = log i; tail = s.state.tail; firm = s.state.firm; head = s.state.head; les = s.state.les; partial = s.state.partial } })
    ∙ c.self.view_is

pub invariant_of-result : goal.invariant_of-result
invariant_of-result c =
    let g : Geometry = record { k = c.self.inside.geometry.k; unit = c.self.inside.geometry.unit } in
    let copies = subst (λ (l : List Record). AreCopies (each recorded l) (each recorded c.in_ok-log.log.items)) c.deref.ensures.value c.in_ok-log.ensures in
    let news = each recorded c.in_ok-log.log.items in
    record {
      kept = subst (λ p. IsKept g p (inside p) news) (sym c.in_ok-places.ensures)
          (copied_kept g c.self.inside.places (inside c.self.inside.places) (each recorded c.self.inside.log.items) news copies c.self.invariant.kept);
      ordered = subst (λ (t : Shard). IsOrdered t.state) (sym (returns c)) (subst (λ (t : Shard). IsOrdered t.state) c.self.view_is c.self.invariant.ordered);
    }

use Rattle.std.proofs.Common.{◌∙◌, ◌++◌, List, ap, sym}
use Rattle.std.specs.BTreeMap.{insert_entry}
use Rattle.shard_state.proofs.CopyLemmas.{place_copied}
use Rattle.shard_state.proofs.MapLemmas.{by_name}
use Rattle.shard_state.proofs.TotalsLemmas.{Place}
use Rattle.shard_state.proofs.places.Places.copy.Goals as goal

pub loop-name-preserved-in_ok-insert : goal.loop-name-preserved-in_ok-insert
loop-name-preserved-in_ok-insert c =
    let place : Place = (c.in-Some.name.now, c.in-Some.place.now) in
    let all = c.into_iter-name-iterator.ensures.into_iter_gives ∙ c.iter-name-items.ensures.rest in
    let whole = ap (λ (l : List Place). c.loop-name.slots.entries ++ l) (sym c.in-Some.ensures.steps) ∙ c.loop-name.invariant.2 ∙ all in (
      tt,
      tt,
      place_copied c.loop-name.slots.entries c.next.new.self c.self.inside.slots.entries c.insert.new.self.entries place whole c.self.invariant.ordered
          (c.in_ok-insert.ensures.entries ∙ (λ i. insert_entry by_name c.loop-name.slots.entries (c.in_ok-name.ensures i) (c.in_ok-place.ensures i)))
          ∙ sym all,
    )

pub loop-name-preserved-in_ok-insert-2 : goal.loop-name-preserved-in_ok-insert-2
loop-name-preserved-in_ok-insert-2 c =
    let place : Place = (c.in-Some.name.now, c.in-Some.place.now) in
    let all = c.into_iter-name-iterator.ensures.into_iter_gives ∙ c.iter-name-items.ensures.rest in
    let whole = ap (λ (l : List Place). c.loop-name.slots.entries ++ l) (sym c.in-Some.ensures.steps) ∙ c.loop-name.invariant.2 ∙ all in (
      tt,
      tt,
      place_copied c.loop-name.slots.entries c.next.new.self c.self.inside.slots.entries c.insert.new.self.entries place whole c.self.invariant.ordered
          (c.in_ok-insert.ensures.entries ∙ (λ i. insert_entry by_name c.loop-name.slots.entries (c.in_ok-name.ensures i) (c.in_ok-place.ensures i)))
          ∙ sym all,
    )

pub loop-name-preserved : goal.loop-name-preserved
loop-name-preserved c =
    let place : Place = (c.in-Some.name.now, c.in-Some.place.now) in
    let all = c.into_iter-name-iterator.ensures.into_iter_gives ∙ c.iter-name-items.ensures.rest in
    let whole = ap (λ (l : List Place). c.loop-name.slots.entries ++ l) (sym c.in-Some.ensures.steps) ∙ c.loop-name.invariant.2 ∙ all in (
      tt,
      tt,
      place_copied c.loop-name.slots.entries c.next.new.self c.self.inside.slots.entries c.insert.new.self.entries place whole c.self.invariant.ordered
          (c.in_ok-insert.ensures.entries ∙ (λ i. insert_entry by_name c.loop-name.slots.entries (c.in_ok-name.ensures i) (c.in_ok-place.ensures i)))
          ∙ sym all,
    )

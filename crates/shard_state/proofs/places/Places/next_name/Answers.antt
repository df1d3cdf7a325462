use Rattle.std.proofs.Common.{sym, ap, ◌∙◌, slice_get}
use Rattle.std.specs.Option.{option_copied}
use Rattle.std.specs.Map.{keys_of}
use Rattle.std.specs.BTreeMap.Range.{entries_between}
use Rattle.std.specs.declared.ops.Bound.TheVariants.{Unbounded}
use Rattle.shard_model.specs.Listings.{next_name}
use Rattle.shard_state.specs.Places.{inside}
use Rattle.shard_state.specs.Totals.{full}
use Rattle.shard_state.proofs.MapLemmas.{by_name}
use Rattle.shard_state.proofs.TotalsLemmas.{full_skip, first_full, next_listed}
use Rattle.shard_state.proofs.places.Places.next_name.Goals as goal

pub loop-name-preserved : goal.loop-name-preserved
loop-name-preserved c = (
  tt,
  tt,
  sym (full_skip c.in-Some.name.now c.in-Some.place.now c.next.new.self (sym c.is_some.ensures ∙ c.if-is_some.false))
      ∙ ap full (sym c.in-Some.ensures.steps) ∙ c.loop-name.invariant.2,
)

pub returns-then-is_some : goal.returns-then-is_some
returns-then-is_some c =
    let after = option_copied c.args.after in
    let es = c.self.inside.slots.entries in
    let all = ap full (c.into_iter-name-iterator.ensures.into_iter_gives ∙ c.range-name-items.ensures.between tt ∙ ap (λ b. entries_between by_name b Unbounded es) c.start_after.ensures) in
    sym (first_full c.in-Some.name.now c.in-Some.place.now c.next.new.self (sym c.is_some.ensures ∙ c.if-is_some.true))
    ∙ ap (λ fs. slice_get (keys_of fs) 0) (ap full (sym c.in-Some.ensures.steps) ∙ c.loop-name.invariant.2 ∙ all)
    ∙ next_listed es c.self.invariant.ordered after
    ∙ ap (λ m. next_name (inside m) after) c.self.view_is

pub returns : goal.returns
returns c =
    let after = option_copied c.args.after in
    let es = c.self.inside.slots.entries in
    let all = ap full (c.into_iter-name-iterator.ensures.into_iter_gives ∙ c.range-name-items.ensures.between tt ∙ ap (λ b. entries_between by_name b Unbounded es) c.start_after.ensures) in
    ap (λ fs. slice_get (keys_of fs) 0) (ap full (sym c.in-None.ensures.steps.0) ∙ c.loop-name.invariant.2 ∙ all)
    ∙ next_listed es c.self.invariant.ordered after
    ∙ ap (λ m. next_name (inside m) after) c.self.view_is

use Rattle.std.proofs.Common.{◌≡◌, sym, ap, ◌∙◌, None, is_some}
use Rattle.std.specs.BTreeMap.{is_at}
use Rattle.std.specs.FinMap as map
use Rattle.shard_state.specs.Places.{joined, inside}
use Rattle.shard_state.proofs.MapLemmas.{by_name, get-listed, listed-remove, none_copied}
use Rattle.shard_state.proofs.SweepLemmas.{empty_there, inside-remove, removed_swept}
use Rattle.shard_state.proofs.TotalsLemmas.{swept_totals}
use Rattle.shard_state.proofs.places.Places.sweep.Goals as goal

pub invariant_of-self : goal.invariant_of-self
invariant_of-self c =
    let none : joined (map.get c.args.self.now c.args.name.now) ≡ None = sym c.get.ensures ∙ none_copied c.get.result c.if-is_none.ensures in
    let there = empty_there (map.get c.args.self.now c.args.name.now) (sym c.has.ensures ∙ c.if-has.true) none in
    swept_totals c.self.inside.slots.entries _ (is_at (by_name c.args.name.now)) _ _ c.self.invariant
    (sym (get-listed c.args.name.now c.self.inside.slots.entries) ∙ ap (λ m. map.get m c.args.name.now) c.self.view_is ∙ there)
    c.remove.ensures.entries c.remove.ensures.ordered

pub returns-then-is_none-clause-same : goal.returns-then-is_none-clause-same
returns-then-is_none-clause-same c =
    let none : joined (map.get c.args.self.now c.args.name.now) ≡ None = sym c.get.ensures ∙ none_copied c.get.result c.if-is_none.ensures in
    ap inside (listed-remove _ _ c.args.name.now c.remove.ensures.updates.0 ∙ ap (λ m. map.remove m c.args.name.now) c.self.view_is)
    ∙ inside-remove c.args.self.now c.args.name.now none

pub returns-then-is_none-clause-others : goal.returns-then-is_none-clause-others
returns-then-is_none-clause-others c q other some =
    ap (λ m. is_some (map.get m q)) (listed-remove _ _ c.args.name.now c.remove.ensures.updates.0 ∙ ap (λ m. map.remove m c.args.name.now) c.self.view_is)
    ∙ removed_swept c.args.self.now c.args.name.now q other some

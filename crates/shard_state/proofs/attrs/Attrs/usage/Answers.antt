use Rattle.std.proofs.Common.{min, sym, ap, ◌∙◌}
use Rattle.std.specs.List.{sum_by}
use Rattle.std.specs.FinMap as map
use Rattle.shard_model.specs.Listings.{attr_usage}
use Rattle.shard_state.specs.Totals.{most}
use Rattle.shard_state.proofs.TotalsLemmas.{listed}
use Rattle.shard_state.proofs.attrs.Attrs.usage.Goals as goal

pub returns : goal.returns
returns c =
    c.pairs_usage.ensures
    ∙ ap (λ list. min (sum_by attr_usage list) most) (c.deref.ensures.value ∙ sym (listed c.self.inside.list.items c.self.invariant))
    ∙ ap (λ m. min (sum_by attr_usage (map.entries m)) most) c.self.view_is

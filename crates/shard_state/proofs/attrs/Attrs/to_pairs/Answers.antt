use Rattle.std.proofs.Common.{sym, ap, ◌∙◌}
use Rattle.std.specs.FinMap as map
use Rattle.shard_state.proofs.AttrLemmas.{entries_listed}
use Rattle.shard_state.proofs.attrs.Attrs.to_pairs.Goals as goal

pub returns : goal.returns
returns c =
    c.of.ensures ∙ c.in_ok-list.ensures ∙ c.deref.ensures.value ∙ sym (entries_listed c.self.inside.list.items c.self.invariant) ∙ ap map.entries c.self.view_is

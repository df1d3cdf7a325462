use Rattle.std.proofs.Common.{sym, ap, ◌∙◌}
use Rattle.std.specs.FinMap as map
use Rattle.shard_state.proofs.AttrLemmas.{listed, entries_listed}
use Rattle.shard_state.proofs.attrs.Attrs.is_same.Goals as goal

pub returns : goal.returns
returns c =
    let left = c.deref.ensures.value in
    let right = c.deref-2.ensures.value in (
      λ is. sym c.self.view_is ∙ ap listed (sym left ∙ c.are_same.ensures.0 is ∙ right) ∙ c.other.view_is,
      λ e. c.are_same.ensures.1
          (left ∙ sym (entries_listed c.self.inside.list.items c.self.invariant)
          ∙ ap map.entries (c.self.view_is ∙ e ∙ sym c.other.view_is)
          ∙ entries_listed c.other.inside.list.items c.other.invariant ∙ sym right),
    )

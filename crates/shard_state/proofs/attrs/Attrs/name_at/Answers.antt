use Rattle.std.proofs.Common.{◌∙◌, sym, ap, Some, rules}
use Rattle.std.specs.FinMap as map
use Rattle.std.proofs.Common.{slice_get, map as map_each}
use Rattle.shard_state.proofs.AttrLemmas.{got, got_none, entries_listed}
use Rattle.shard_state.proofs.attrs.Attrs.name_at.Goals as goal

pub returns-then-i-len : goal.returns-then-i-len
returns-then-i-len c =
    let list = c.self.inside.list.items in
    ap (λ q. Some q.0) c.index.ensures
    ∙ got (λ a. a.0) list c.args.i c.index.result.now (search rules)
    ∙ ap (λ (es : _). slice_get (map_each (λ a. a.0) es) c.args.i) (sym (entries_listed list c.self.invariant))
    ∙ ap (λ m. slice_get (map.keys m) c.args.i) c.self.view_is

pub returns-else-i-len : goal.returns-else-i-len
returns-else-i-len c =
    let list = c.self.inside.list.items in
    got_none (λ a. a.0) list c.args.i (search rules)
    ∙ ap (λ (es : _). slice_get (map_each (λ a. a.0) es) c.args.i) (sym (entries_listed list c.self.invariant))
    ∙ ap (λ m. slice_get (map.keys m) c.args.i) c.self.view_is

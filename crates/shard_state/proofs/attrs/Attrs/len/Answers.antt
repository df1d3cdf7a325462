use Rattle.std.proofs.Common.{◌≡◌, length, rules, ◌∙◌, sym, ap}
use Rattle.std.specs.FinMap as map
use Rattle.shard_state.proofs.AttrLemmas.{len_listed}
use Rattle.shard_state.proofs.attrs.Attrs.len.Goals as goal

pub returns : goal.returns
returns c =
    let long : c.len.result ≡ length c.self.inside.list.items = search rules in
    long ∙ sym (len_listed c.self.inside.list.items c.self.invariant) ∙ ap (λ m. map.len m) c.self.view_is

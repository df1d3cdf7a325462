use Rattle.std.proofs.Common.{[], get_or, cond, ◌∙◌, sym, ap, Some, None}
use Rattle.std.specs.FinMap as map
use Rattle.std.specs.Cmp.Lexicographic.{nat_list_cmp_total}
use Rattle.shard_state.proofs.attrs.Attrs.get.Goals as goal

pub returns-then-found : goal.returns-then-found
returns-then-found c =
    let list = c.self.inside.list.items in
    let d = c.index.result.now in
    ap (λ q. Some q.1) c.index.ensures
    ∙ ap (λ b. cond b (Some (get_or list c.spot-i.result.0 d).1) None) (sym c.if-found.true)
    ∙ sym (c.spot-i.ensures.value d)
    ∙ sym (map.get-from_entries nat_list_cmp_total list c.args.name.now)
    ∙ ap (λ m. map.get m c.args.name.now) c.self.view_is

pub returns-else-found : goal.returns-else-found
returns-else-found c =
    let list = c.self.inside.list.items in
    ap (λ b. cond b (Some (get_or list c.spot-i.result.0 ([], [])).1) None) (sym c.if-found.false)
    ∙ sym (c.spot-i.ensures.value ([], []))
    ∙ sym (map.get-from_entries nat_list_cmp_total list c.args.name.now)
    ∙ ap (λ m. map.get m c.args.name.now) c.self.view_is

use Rattle.std.proofs.Common.{◌∙◌, sym, ap, subst}
use Rattle.std.specs.FinMap as map
use Rattle.std.specs.Cmp.Lexicographic.{nat_list_cmp_total}
use Rattle.shard_state.proofs.AttrLemmas.{IsAscending, put_listed, put_ascends, either_way, on_ok_map, on_err_map, if_ok_map}
use Rattle.shard_state.proofs.attrs.Attrs.set.Goals as goal

pub invariant_of-self : goal.invariant_of-self
invariant_of-self c =
    let list = c.self.inside.list.items in
    either_way (IsAscending c.put_pair.new.list.items) c.put_pair.result
    (on_ok_map c.put_pair.result (λ e. subst IsAscending (sym e) (put_ascends c.args.name c.args.value list c.self.invariant)) c.put_pair.ensures.ok)
    (on_err_map c.put_pair.result (λ e. subst IsAscending (sym e) c.self.invariant) c.put_pair.ensures.unchanged)

pub returns-clause-ok : goal.returns-clause-ok
returns-clause-ok c =
    let list = c.self.inside.list.items in
    on_ok_map c.put_pair.result
    (λ e. ap (λ es. map.from_entries es) e ∙ put_listed c.args.name c.args.value list c.self.invariant ∙ ap (λ m. map.insert m c.args.name c.args.value) c.self.view_is)
    c.put_pair.ensures.ok

pub returns-clause-before : goal.returns-clause-before
returns-clause-before c =
    if_ok_map c.put_pair.result
    (λ x e. e ∙ sym (map.get-from_entries nat_list_cmp_total c.self.inside.list.items c.args.name) ∙ ap (λ m. map.get m c.args.name) c.self.view_is)
    c.put_pair.ensures.before

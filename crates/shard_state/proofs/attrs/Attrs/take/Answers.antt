use Rattle.std.proofs.Common.{◌∙◌, sym, ap, subst}
use Rattle.std.specs.FinMap as map
use Rattle.std.specs.Cmp.Lexicographic.{nat_list_cmp_total}
use Rattle.shard_state.proofs.AttrLemmas.{IsAscending, without_listed, without_ascends}
use Rattle.shard_state.proofs.attrs.Attrs.take.Goals as goal

pub invariant_of-self : goal.invariant_of-self
invariant_of-self c = subst IsAscending (sym c.take_pair.ensures.value) (without_ascends c.args.name.now c.self.inside.list.items c.self.invariant)

pub returns-clause-value : goal.returns-clause-value
returns-clause-value c =
    ap (λ es. map.from_entries es) c.take_pair.ensures.value ∙ without_listed c.args.name.now c.self.inside.list.items ∙ ap (λ m. map.remove m c.args.name.now) c.self.view_is

pub returns-clause-before : goal.returns-clause-before
returns-clause-before c =
    c.take_pair.ensures.before ∙ sym (map.get-from_entries nat_list_cmp_total c.self.inside.list.items c.args.name.now) ∙ ap (λ m. map.get m c.args.name.now) c.self.view_is

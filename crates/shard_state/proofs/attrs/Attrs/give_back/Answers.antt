use Rattle.std.proofs.Common.{◌<◌, ◌∙◌, sym, ap, subst, IsSome, inl, inr}
use Rattle.std.specs.FinMap as map
use Rattle.std.specs.Cmp.Lexicographic.{nat_list_cmp_total}
use Rattle.shard_state.proofs.AttrLemmas.{IsAscending, put_listed, put_ascends, len_listed}
use Rattle.shard_state.proofs.attrs.Attrs.give_back.Goals as goal

pub give_pair-requires-clause-room : goal.give_pair-requires-clause-room
give_pair-requires-clause-room c =
    let list = c.self.inside.list.items in
    elim c.requires [
      | inl there ↦ inl (subst IsSome (ap (λ m. map.get m c.args.name) (sym c.self.view_is) ∙ map.get-from_entries nat_list_cmp_total list c.args.name) there)
      | inr room ↦ inr (subst (λ n. n < c.args.spare) (ap (λ m. map.len m) (sym c.self.view_is) ∙ len_listed list c.self.invariant) room)
    ]

pub invariant_of-self : goal.invariant_of-self
invariant_of-self c = subst IsAscending (sym c.give_pair.ensures) (put_ascends c.args.name c.args.value c.self.inside.list.items c.self.invariant)

pub returns : goal.returns
returns c =
    ap (λ es. map.from_entries es) c.give_pair.ensures ∙ put_listed c.args.name c.args.value c.self.inside.list.items c.self.invariant
    ∙ ap (λ m. map.insert m c.args.name c.args.value) c.self.view_is

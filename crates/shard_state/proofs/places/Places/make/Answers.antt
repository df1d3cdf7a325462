use Rattle.std.proofs.Common.{sym, ap, ◌∙◌, None}
use Rattle.std.specs.FinMap as map
use Rattle.shard_state.proofs.MapLemmas.{get-listed, listed-insert}
use Rattle.shard_state.proofs.TotalsLemmas.{made_totals}
use Rattle.shard_state.proofs.places.Places.make.Goals as goal

pub returns-clause-ok : goal.returns-clause-ok
returns-clause-ok c =
    listed-insert _ _ c.args.name None c.in_ok-insert.ensures.updates.0 ∙ ap (λ m. map.insert m c.args.name None) c.self.view_is

pub invariant_of-self-2 : goal.invariant_of-self-2
invariant_of-self-2 c =
    made_totals _ _ c.args.name _ _ c.self.invariant
    (sym (get-listed c.args.name c.self.inside.slots.entries) ∙ ap (λ m. map.get m c.args.name) c.self.view_is ∙ c.requires)
    c.in_ok-insert.ensures.entries c.in_ok-insert.ensures.ordered

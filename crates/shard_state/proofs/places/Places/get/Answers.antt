use Rattle.std.proofs.Common.{sym, ap, ◌∙◌}
use Rattle.std.specs.FinMap as map
use Rattle.shard_state.specs.Places.{joined}
use Rattle.shard_state.proofs.MapLemmas.{get-listed}
use Rattle.shard_state.proofs.places.Places.get.Goals as goal

pub returns-in-None : goal.returns-in-None
returns-in-None c =
    ap joined (c.in-None.ensures.value ∙ sym (get-listed c.args.name.now c.self.inside.slots.entries) ∙ ap (λ m. map.get m c.args.name.now) c.self.view_is)

pub returns-in-Some : goal.returns-in-Some
returns-in-Some c =
    c.as_ref.ensures.value
    ∙ ap joined (c.in-Some.ensures.value ∙ sym (get-listed c.args.name.now c.self.inside.slots.entries) ∙ ap (λ m. map.get m c.args.name.now) c.self.view_is)

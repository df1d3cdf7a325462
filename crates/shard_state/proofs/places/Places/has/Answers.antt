use Rattle.std.proofs.Common.{sym, ap, ◌∙◌, is_some}
use Rattle.std.specs.FinMap as map
use Rattle.shard_state.proofs.MapLemmas.{get-listed, some_copied}
use Rattle.shard_state.proofs.places.Places.has.Goals as goal

pub returns : goal.returns
returns c =
    c.is_some.ensures ∙ some_copied c.get.result
    ∙ ap is_some (c.get.ensures.value ∙ sym (get-listed c.args.name.now c.self.inside.slots.entries) ∙ ap (λ m. map.get m c.args.name.now) c.self.view_is)

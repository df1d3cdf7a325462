use Rattle.std.proofs.Common.{sym, ap, ◌∙◌, None}
use Rattle.shard_state.specs.Places.{inside}
use Rattle.shard_state.proofs.PlaceLemmas.{inside-insert}
use Rattle.shard_state.proofs.KeepLemmas.{not_there}
use Rattle.shard_state.proofs.place_steps.empty_place.Goals as goal

pub returns-then-has : goal.returns-then-has
returns-then-has c = ap inside c.set.ensures.value ∙ inside-insert c.args.places.now c.args.name.now None

pub returns-else-has : goal.returns-else-has
returns-else-has c = not_there c.args.places.now c.args.name.now (sym c.has.ensures ∙ c.if-has.false)

use Rattle.std.proofs.Common.{ap, ◌∙◌}
use Rattle.std.specs.FinMap as map
use Rattle.shard_state.specs.Places.{inside}
use Rattle.shard_state.proofs.TotalsLemmas.{count_is}
use Rattle.shard_state.proofs.places.Places.count.Goals as goal

pub returns : goal.returns
returns c = count_is _ _ _ c.self.invariant ∙ ap (λ m. map.len (inside m)) c.self.view_is

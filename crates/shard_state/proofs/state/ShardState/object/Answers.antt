use Rattle.std.proofs.Common.{sym, ap, ◌∙◌}
use Rattle.std.specs.FinMap as map
use Rattle.shard_state.proofs.PlaceLemmas.{get-inside}
use Rattle.shard_state.proofs.state.ShardState.object.Goals as goal

pub returns : goal.returns
returns c = c.get.ensures ∙ sym (get-inside c.self.inside.places c.args.name.now) ∙ ap (λ s. map.get s.state.objects c.args.name.now) c.self.view_is

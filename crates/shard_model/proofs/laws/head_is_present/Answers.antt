use Rattle.std.proofs.Common.{ap}
use Rattle.shard_model.specs.Replays.{replayed}
use Rattle.shard_model.proofs.PastLemmas.{all_up_to}
use Rattle.shard_model.proofs.laws.head_is_present.Goals as goal

pub returns : goal.returns
returns c = λ g s whole. ap (replayed g s.base) (all_up_to s.base_version s.entries whole.rising)

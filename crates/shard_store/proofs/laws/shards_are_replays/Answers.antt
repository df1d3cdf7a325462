use Rattle.shard_store.proofs.LawLemmas.{shard_is_replay}
use Rattle.shard_store.proofs.laws.shards_are_replays.Goals as goal

pub returns : goal.returns
returns c = λ g positive steps fitting. shard_is_replay g positive steps fitting

use Rattle.shard_model.proofs.TextLemmas.{one_way}
use Rattle.shard_model.proofs.laws.bytes_are_read_one_way.Goals as goal

pub returns : goal.returns
returns c = one_way

use Rattle.std.proofs.Common.{refl}
use Rattle.shard_model.proofs.laws.worked_writes.Goals as goal

pub returns : goal.returns
returns c = record { once = refl; twice = refl; kept = refl; to_the_middle = refl; to_the_start = refl }

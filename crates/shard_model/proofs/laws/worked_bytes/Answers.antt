use Rattle.std.proofs.Common.{refl}
use Rattle.shard_model.specs.StepBytes.{version_bytes}
use Rattle.shard_model.proofs.laws.worked_bytes.Goals as goal

pub returns : goal.returns
unfolding version_bytes
returns c = record { started = refl; with_data = refl; with_zeros = refl; long = refl }

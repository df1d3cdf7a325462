use Rattle.shard_model.proofs.StepReadingLemmas.{step_reading}
use Rattle.shard_model.proofs.laws.steps_are_read.Goals as goal

pub returns : goal.returns
returns c = step_reading

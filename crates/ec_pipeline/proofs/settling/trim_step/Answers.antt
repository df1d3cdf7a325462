use Rattle.shard_model.specs.Steps.{Trim}
use Rattle.ec_pipeline.proofs.SettleLemmas.{one_control}
use Rattle.ec_pipeline.proofs.settling.trim_step.Goals as goal

pub returns-clause-short : goal.returns-clause-short
returns-clause-short c = one_control (Trim c.in-Some.what.now.version)

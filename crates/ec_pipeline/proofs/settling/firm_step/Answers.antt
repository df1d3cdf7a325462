use Rattle.shard_model.specs.Steps.{Firm}
use Rattle.ec_pipeline.proofs.SettleLemmas.{one_control}
use Rattle.ec_pipeline.proofs.settling.firm_step.Goals as goal

pub returns-else-is_same-clause-short : goal.returns-else-is_same-clause-short
returns-else-is_same-clause-short c = one_control (Firm c.args.committed.now)

use Rattle.run_model.proofs.TryLemmas.{answers_as_memory}
use Rattle.run_model.proofs.laws.serving_pools_answer_as_memory.Goals as goal

pub returns : goal.returns
returns c = answers_as_memory

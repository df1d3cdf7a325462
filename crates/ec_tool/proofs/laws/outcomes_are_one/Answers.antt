use Rattle.ec_tool.proofs.SameRunLemmas.{outcomes_one}
use Rattle.ec_tool.proofs.laws.outcomes_are_one.Goals as goal

pub returns : goal.returns
returns g c = outcomes_one c.layers_have_one_code.ensures c.least_plan_is_one.ensures _

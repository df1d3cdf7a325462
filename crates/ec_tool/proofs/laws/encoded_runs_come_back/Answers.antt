use Rattle.ec_tool.proofs.RunBackLemmas.{runs_come_back}
use Rattle.ec_tool.proofs.laws.encoded_runs_come_back.Goals as goal

pub returns : goal.returns
returns g c = runs_come_back c.layers_have_one_code.ensures _

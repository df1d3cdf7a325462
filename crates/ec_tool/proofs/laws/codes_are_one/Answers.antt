use Rattle.ec_tool.proofs.SameCodeLemmas.{codes_one}
use Rattle.ec_tool.proofs.laws.codes_are_one.Goals as goal

pub returns : goal.returns
returns c = codes_one c.layers_have_one_code.ensures

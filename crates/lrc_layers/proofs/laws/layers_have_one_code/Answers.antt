use Rattle.lrc_layers.proofs.OneCodeLemmas.{one_code}
use Rattle.lrc_layers.proofs.laws.layers_have_one_code.Goals as goal

pub returns : goal.returns
returns c = one_code

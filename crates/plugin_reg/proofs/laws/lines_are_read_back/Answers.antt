use Rattle.plugin_reg.proofs.CanonicalLemmas.{lines_read_back}
use Rattle.plugin_reg.proofs.laws.lines_are_read_back.Goals as goal

pub returns : goal.returns
returns c = lines_read_back

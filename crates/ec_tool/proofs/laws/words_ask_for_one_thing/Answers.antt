use Rattle.ec_tool.proofs.SameWordLemmas.{one_thing}
use Rattle.ec_tool.proofs.laws.words_ask_for_one_thing.Goals as goal

pub returns : goal.returns
returns c = one_thing

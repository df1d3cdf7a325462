use Rattle.ec_tool.proofs.SameProfileLemmas.{profiles_one}
use Rattle.ec_tool.proofs.laws.profiles_are_one.Goals as goal

pub returns : goal.returns
returns c = profiles_one

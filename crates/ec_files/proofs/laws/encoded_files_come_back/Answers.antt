use Rattle.ec_files.proofs.BackLemmas.{come_back}
use Rattle.ec_files.proofs.laws.encoded_files_come_back.Goals as goal

pub returns : goal.returns
returns c = come_back

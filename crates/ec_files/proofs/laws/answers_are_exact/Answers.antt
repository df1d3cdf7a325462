use Rattle.ec_files.proofs.FileLemmas.{exact}
use Rattle.ec_files.proofs.laws.answers_are_exact.Goals as goal

pub returns : goal.returns
returns c = exact

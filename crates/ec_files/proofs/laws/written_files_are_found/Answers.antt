use Rattle.ec_files.proofs.FileLemmas.{written, others_stay}
use Rattle.ec_files.proofs.laws.written_files_are_found.Goals as goal

pub returns : goal.returns
returns c = λ old name bytes. (written old name bytes, others_stay old name bytes)

use Rattle.ec_files.proofs.SameEncodeLemmas.{encodes_one}
use Rattle.ec_files.proofs.laws.encoded_files_are_one.Goals as goal

pub returns : goal.returns
returns c = λ one other job files status its_status line its_line now its_now. encodes_one one other job files status line now its_status its_line its_now

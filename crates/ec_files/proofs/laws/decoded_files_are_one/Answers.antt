use Rattle.ec_files.proofs.SameDecodeLemmas.{decodes_one}
use Rattle.ec_files.proofs.laws.decoded_files_are_one.Goals as goal

pub returns : goal.returns
returns c = λ one other job files status its_status line its_line now its_now.
    decodes_one c.least_plan_is_one.ensures one other job files status line now its_status its_line its_now

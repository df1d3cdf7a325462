use Rattle.run_model.proofs.GrammarLemmas.{spelled_is_read, read_is_spelled}
use Rattle.run_model.proofs.laws.lines_are_spelled.Goals as goal

pub returns : goal.returns
returns c = λ text line form. (spelled_is_read text line, λ read. read_is_spelled text line read form)

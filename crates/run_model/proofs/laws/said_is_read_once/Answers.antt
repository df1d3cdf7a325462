use Rattle.run_model.proofs.SaidLemmas.{said_is_read_once}
use Rattle.run_model.proofs.laws.said_is_read_once.Goals as goal

pub returns : goal.returns
returns c = said_is_read_once

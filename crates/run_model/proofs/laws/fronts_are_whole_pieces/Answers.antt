use Rattle.run_model.proofs.PieceLemmas.{whole_and_a_part}
use Rattle.run_model.proofs.laws.fronts_are_whole_pieces.Goals as goal

pub returns : goal.returns
returns c = whole_and_a_part

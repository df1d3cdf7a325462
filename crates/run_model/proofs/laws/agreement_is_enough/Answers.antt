use Rattle.run_model.proofs.ShowLemmas.{shows_all}
use Rattle.run_model.proofs.laws.agreement_is_enough.Goals as goal

pub returns : goal.returns
returns c = shows_all c.sufficient_sets_show_committed.ensures

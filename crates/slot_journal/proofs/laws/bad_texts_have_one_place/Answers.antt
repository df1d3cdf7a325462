use Rattle.slot_journal.proofs.GrammarLemmas.{not_both, one_place}
use Rattle.slot_journal.proofs.laws.bad_texts_have_one_place.Goals as goal

pub returns : goal.returns
returns c text head at bad = (λ bodies place is. not_both head bodies place at text is bad, λ other again. one_place head other at text again bad)

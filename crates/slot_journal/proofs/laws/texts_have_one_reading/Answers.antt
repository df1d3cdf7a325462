use Rattle.slot_journal.proofs.GrammarLemmas.{one_text}
use Rattle.slot_journal.proofs.laws.texts_have_one_reading.Goals as goal

pub returns : goal.returns
returns c text head other bodies those place there a b = one_text head other bodies those place there text a b

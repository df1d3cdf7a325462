use Rattle.lrc_layers.proofs.NumberLemmas.{kept_whole, counted_whole}
use Rattle.lrc_layers.proofs.laws.texts_are_kept.Goals as goal

pub returns-clause-short : goal.returns-clause-short
returns-clause-short c = kept_whole

pub returns-clause-counted : goal.returns-clause-counted
returns-clause-counted c = counted_whole

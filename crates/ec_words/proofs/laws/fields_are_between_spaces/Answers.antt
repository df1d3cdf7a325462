use Rattle.std.proofs.Common.{subst, sym, ap, ◌∙◌}
use Rattle.ec_words.specs.Fields.{fields, StandApart}
use Rattle.ec_words.proofs.FieldLemmas.{fields-joined, fields_stand_apart}
use Rattle.ec_words.proofs.laws.fields_are_between_spaces.Goals as goal

pub returns : goal.returns
returns c = λ line pieces. (
  λ apart. ap fields (sym apart.whole) ∙ fields-joined pieces apart.some apart.unbroken,
  λ same. subst (StandApart line) same (fields_stand_apart line),
)

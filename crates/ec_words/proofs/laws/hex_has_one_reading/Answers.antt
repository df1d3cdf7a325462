use Rattle.ec_words.proofs.HexTextLemmas.{one_reading}
use Rattle.ec_words.proofs.laws.hex_has_one_reading.Goals as goal

pub returns : goal.returns
returns c = one_reading

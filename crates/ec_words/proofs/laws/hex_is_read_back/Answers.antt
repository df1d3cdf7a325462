use Rattle.ec_words.proofs.HexTextLemmas.{read_back}
use Rattle.ec_words.proofs.laws.hex_is_read_back.Goals as goal

pub returns : goal.returns
returns c = read_back

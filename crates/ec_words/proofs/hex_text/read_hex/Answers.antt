use Rattle.ec_words.proofs.HexTextLemmas.{spelled-decode_of}
use Rattle.ec_words.proofs.hex_text.read_hex.Goals as goal

pub returns-in-Ok-clause-value : goal.returns-in-Ok-clause-value
returns-in-Ok-clause-value c = rw c.of.ensures (spelled-decode_of c.args.text.now _ c.in-Ok.ensures.ok)

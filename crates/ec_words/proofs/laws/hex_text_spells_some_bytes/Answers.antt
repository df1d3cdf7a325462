use Rattle.ec_words.proofs.HexTextLemmas.{is_hex_text_of_spelled, spelled_of_hex_text}
use Rattle.ec_words.proofs.laws.hex_text_spells_some_bytes.Goals as goal

pub returns : goal.returns
returns c = λ text. (λ spelled. is_hex_text_of_spelled text spelled.0 spelled.1, λ is. spelled_of_hex_text text is)

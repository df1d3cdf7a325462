-- What layers above cite.
pub use Rattle.ec_words.proofs.FieldLemmas.{fields-joined, fields_stand_apart}
pub use Rattle.ec_words.proofs.HexTextLemmas.{decode_of-spelled, spelled-decode_of, is_hex_text_of_spelled}

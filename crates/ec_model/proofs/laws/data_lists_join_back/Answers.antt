use Rattle.std.proofs.lemmas.Nat.{mul-le}
use Rattle.ec_model.proofs.StripeLemmas.{joined-data_lists}
use Rattle.ec_model.proofs.laws.data_lists_join_back.Goals as goal

pub returns : goal.returns
returns c = λ k unit bytes some_chunk some_byte. joined-data_lists k unit bytes (mul-le 1 1 k unit some_chunk some_byte)

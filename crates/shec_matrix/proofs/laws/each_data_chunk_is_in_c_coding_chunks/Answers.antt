use Rattle.shec_matrix.proofs.CountLemmas.{each_is_in_c}
use Rattle.shec_matrix.proofs.laws.each_data_chunk_is_in_c_coding_chunks.Goals as goal

pub returns : goal.returns
returns c = each_is_in_c

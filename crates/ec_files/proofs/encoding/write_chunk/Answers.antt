use Rattle.std.proofs.Common.{rules}
use Rattle.ec_files.proofs.encoding.write_chunk.Goals as goal

pub returns-in-Ok-clause-value : goal.returns-in-Ok-clause-value
returns-in-Ok-clause-value g c = search rules

pub returns-in-Err-clause-value : goal.returns-in-Err-clause-value
returns-in-Err-clause-value g c = search rules

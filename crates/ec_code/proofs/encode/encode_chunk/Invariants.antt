use Rattle.ec_code.specs.Encoding.{IsChunk}
use Rattle.ec_code.proofs.encode.encode_chunk.Given as goal

abbrev pub invariant-loop-j : goal.invariant-loop-j
invariant-loop-j l = IsChunk l.j l.row l.stripe l.unit l.chunk

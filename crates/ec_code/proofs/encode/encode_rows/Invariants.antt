use Rattle.ec_code.specs.Encoding.{AreChunks}
use Rattle.ec_code.proofs.encode.encode_rows.Given as goal

abbrev pub invariant-loop-p : goal.invariant-loop-p
invariant-loop-p l = AreChunks l.k l.rows l.stripe l.unit l.out l.p

use Rattle.std.proofs.Common.{take}
use Rattle.ec_files.specs.Chunks.{IsSetOf}
use Rattle.ec_files.proofs.positions.set_of.Given as goal

abbrev pub invariant-loop-p : goal.invariant-loop-p
invariant-loop-p l = IsSetOf (take l.p-index l.positions) l.bits

use Rattle.std.proofs.Common.{slice_index}
use Rattle.stripe_map.proofs.DataSetLemmas.{IsSetBelow}
use Rattle.stripe_map.proofs.data.data_set.Given as goal

abbrev pub invariant-loop-j : goal.invariant-loop-j
invariant-loop-j g l = IsSetBelow (slice_index ((goal.Code-dyn g l.code.now).meaning l.code.now.1).places) l.j l.bits

use Rattle.pool_run.proofs.StoredLemmas.{ListsBelow}
use Rattle.pool_run.proofs.object.StoredObject.encode.Given as goal

abbrev pub invariant-loop-p : goal.invariant-loop-p
invariant-loop-p g l = ListsBelow ((goal.Code-dyn g l.code.now).meaning l.code.now.1) l.unit l.bytes l.chunks l.p

use Rattle.stripe_map.proofs.ChunkLemmas.{HasBelow}
use Rattle.stripe_map.proofs.chunks.Chunks.mask.Given as goal

abbrev pub invariant-loop-p : goal.invariant-loop-p
invariant-loop-p l = HasBelow l.self-inside.list l.bits l.p

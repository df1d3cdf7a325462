use Rattle.std.proofs.Common.{◌<◌, ℕ}
use Rattle.stripe_map.specs.Chunks.{chunk_of_position}
use Rattle.stripe_map.specs.Decoding.{HasLength}
use Rattle.stripe_map.proofs.chunks.Chunks.have_length.Given as goal

abbrev pub invariant-loop-p : goal.invariant-loop-p
invariant-loop-p l = (p : ℕ) → p < l.p → HasLength (chunk_of_position l.self p) l.long

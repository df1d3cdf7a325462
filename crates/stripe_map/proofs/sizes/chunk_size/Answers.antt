use Rattle.std.proofs.Common.{arith}
use Rattle.stripe_map.proofs.SizeLemmas.{times_alignment-chunk_size_of, times_alignment-IsLeastChunk}
use Rattle.stripe_map.proofs.sizes.chunk_size.Goals as goal

pub returns-clause-value : goal.returns-clause-value
returns-clause-value c = rw (c.div_ceil.ensures, c.from.ensures) (times_alignment-chunk_size_of c.args.lead c.args.size (omega arith))

pub returns-clause-least : goal.returns-clause-least
returns-clause-least c = rw (c.div_ceil.ensures, c.from.ensures) (times_alignment-IsLeastChunk c.args.lead c.args.size (omega arith))

use Rattle.std.proofs.Common.{length}
use Rattle.shard_steps.proofs.DecodingLemmas.{IsReadTo}
use Rattle.shard_steps.proofs.decoding.decode_steps.Given as goal

-- the steps so far and what is left are the text
abbrev pub invariant-loop-reader : goal.invariant-loop-reader
invariant-loop-reader l = IsReadTo l.text l.list.items l.reader

abbrev pub decreases-loop-reader : goal.decreases-loop-reader
decreases-loop-reader l = length l.reader

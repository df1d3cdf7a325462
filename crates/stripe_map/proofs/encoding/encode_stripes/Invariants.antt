use Rattle.std.proofs.Common.{◌≡◌, ◌*◌, length}
use Rattle.stripe_map.specs.Encoding.{HasStripes}
use Rattle.stripe_map.proofs.encoding.encode_stripes.Given as goal

abbrev pub invariant-loop-stripe : goal.invariant-loop-stripe
invariant-loop-stripe l =
    (length l.chunk.items ≡ l.unit)
    × (length l.list.items ≡ l.stripe * l.g.unit)
    × HasStripes l.g.k l.g.unit l.row l.bytes l.stripe l.list.items

use Rattle.std.proofs.Common.{◌≡◌, ◌*◌, length}
use Rattle.stripe_map.specs.Decoding.{stripes_of, made_lists}
use Rattle.stripe_map.proofs.joining.joined.Given as goal

abbrev pub invariant-loop-stripe : goal.invariant-loop-stripe
invariant-loop-stripe l =
    (length l.piece.items ≡ l.g.unit)
    × (l.whole.items ≡ stripes_of l.g.k l.g.unit (made_lists l.g.k l.n l.rows l.chunks (l.count * l.g.unit)) l.stripe)

use Rattle.std.proofs.Common.{◌≡◌, ◌*◌, ◌++◌, length}
use Rattle.std.specs.List.{flat_map, range_with_len}
use Rattle.ec_model.specs.Stripes.{chunk_at}
use Rattle.stripe_map.specs.Decoding.{list_at, made_lists}
use Rattle.stripe_map.proofs.joining.join_stripe.Given as goal

abbrev pub invariant-loop-j : goal.invariant-loop-j
invariant-loop-j l =
    (length l.piece ≡ l.fn.g.unit)
    × (l.whole.items ≡ l.initial.whole.items
    ++ flat_map (λ j. chunk_at l.fn.g.unit (list_at (made_lists l.fn.g.k l.n l.rows l.chunks (l.count * l.fn.g.unit)) j) l.stripe) (range_with_len 0 l.j))

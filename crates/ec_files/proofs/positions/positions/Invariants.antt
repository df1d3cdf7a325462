use Rattle.std.proofs.Common.{◌≡◌, ◌<◌, take}
use Rattle.std.specs.List.{All}
use Rattle.ec_files.proofs.positions.positions.Given as goal

abbrev pub invariant-loop-p : goal.invariant-loop-p
invariant-loop-p l = (l.list.items ≡ take l.p-index l.wanted) × All (λ p. p < l.n) (take l.p-index l.wanted)

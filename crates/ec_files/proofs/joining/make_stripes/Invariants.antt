use Rattle.std.proofs.Common.{◌≡◌, length}
use Rattle.ec_files.specs.Joining.{AreMadeStripes}
use Rattle.ec_files.proofs.joining.make_stripes.Given as goal

abbrev pub invariant-loop-q : goal.invariant-loop-q
invariant-loop-q l = AreMadeStripes l.g.k l.g.unit l.q l.rows l.chunks l.from l.here l.piece × (length l.piece ≡ length l.initial.piece)

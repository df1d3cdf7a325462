use Rattle.std.proofs.Common.{◌≡◌, ◌*◌, length}
use Rattle.ec_files.specs.Pieces.{AreRowChunks}
use Rattle.ec_files.proofs.encoding.make_piece.Given as goal

abbrev pub invariant-loop-t : goal.invariant-loop-t
invariant-loop-t l = AreRowChunks l.g.k l.g.unit l.row l.stripes l.t l.piece × (length l.piece ≡ l.count * l.g.unit)

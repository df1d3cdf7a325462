use Rattle.std.proofs.Common.{◌≡◌, length}
use Rattle.ec_files.proofs.JoinLemmas.{WrittenSoFar}
use Rattle.ec_files.proofs.joining.write_pieces.Given as goal

abbrev pub invariant-loop-i : goal.invariant-loop-i
invariant-loop-i g l =
    WrittenSoFar l.g.k l.g.unit l.n l.rows l.chunks l.per l.count l.i l.from (g.F.Files.files l.initial.files) (g.F.Files.files l.files) l.name
    × (length l.piece ≡ length l.initial.piece)
    × (g.F.Files.faults l.files ≡ g.F.Files.faults l.initial.files)

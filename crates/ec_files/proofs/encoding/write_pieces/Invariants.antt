use Rattle.std.proofs.Common.{◌≡◌, length}
use Rattle.ec_files.proofs.ChunkPieceLemmas.{HasPart}
use Rattle.ec_files.proofs.encoding.write_pieces.Given as goal

abbrev pub invariant-loop-i : goal.invariant-loop-i
invariant-loop-i g l =
    let code = (goal.Code-dyn g l.code.now).meaning l.code.now.1 in
    HasPart code l.g.unit l.file l.bytes l.position l.size l.i (g.F.Files.files l.initial.files) (g.F.Files.files l.files)
    × (g.F.Files.faults l.files ≡ g.F.Files.faults l.initial.files)
    × (length l.piece ≡ length l.initial.piece)

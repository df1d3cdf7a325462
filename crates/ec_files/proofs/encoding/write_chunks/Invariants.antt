use Rattle.std.proofs.Common.{◌≡◌, length, take}
use Rattle.ec_files.specs.Accesses.{Told}
use Rattle.ec_files.specs.Encoding.{HasChunks}
use Rattle.ec_files.proofs.encoding.write_chunks.Given as goal

abbrev pub invariant-loop-i : goal.invariant-loop-i
invariant-loop-i g l =
    let code = (goal.Code-dyn g l.code.now).meaning l.code.now.1 in
    Told (g.F.Files.files l.initial.files) (g.F.Files.files l.files) (HasChunks code l.g.unit l.name l.bytes (take l.i l.wanted))
    × (g.F.Files.faults l.files ≡ g.F.Files.faults l.initial.files)
    × (length l.piece ≡ length l.initial.piece)

use Rattle.std.proofs.Common.{◌≡◌, take, length}
use Rattle.ec_files.specs.Decoding.{AreShort, HaveChunks, Fetches}
use Rattle.ec_files.proofs.decoding.read_chunks.Given as goal

abbrev pub invariant-loop-i : goal.invariant-loop-i
invariant-loop-i g l =
    HaveChunks (take l.i l.listed) l.chunks
    × Fetches (g.F.Files.files l.initial.files) l.name (take l.i l.listed) l.chunks
    × (g.F.Files.files l.files ≡ g.F.Files.files l.initial.files)
    × (g.F.Files.faults l.files ≡ g.F.Files.faults l.initial.files)
    × (length l.chunks ≡ 16)
    × AreShort l.chunks

-- The outcomes of a job by one code: a status, a line, and the files. Source: this project.
-- `before` and `now` are the files, if they are told; `was` and `is` are the counts of their faults.
use Rattle.std.specs.Prelude.{◌≡◌, ◌<◌, ◌⊎◌, ℕ, List, [], length, take, slice_index, Option}
use Rattle.ec_model.specs.Codes.{CodeRows}
use Rattle.rig_disk.specs.Faults.{Rose}
use Rattle.ec_files.specs.Accesses.{Told}
use Rattle.ec_files.specs.Chunks.{AreBelow, AreReadable, DecideTheData, chunk_name}
use Rattle.ec_files.specs.Files.{FileMap, KeepsOthers}
use Rattle.ec_files.specs.Runs.{Encodes, EncodesFirst, Decodes, CanDecode, WhereTold}
use Rattle.ec_files.specs.Texts.{failed_line}
use Rattle.ec_files.specs.Jobs.{Job}

-- memory ran out before anything is said
abbrev pub RunsOut : ℕ → List ℕ → Type 0
RunsOut status line = (status ≡ 13) × (line ≡ [])

-- reading or writing the file of this name failed
abbrev pub Fails : List ℕ → ℕ → List ℕ → ℕ → ℕ → Type 0
Fails name status line was is = (status ≡ 5) × (line ≡ failed_line name) × Rose was is

-- `encode` could not read its file, and no file changed
abbrev pub EncodeUnread : Job → ℕ → List ℕ → Option FileMap → Option FileMap → ℕ → ℕ → Type 0
EncodeUnread job status line before now was is = Fails job.name status line was is × (now ≡ before)

-- `encode` could not write the file of a wanted position: the files of the positions before it are whole, that file may have any
-- bytes or may not be there, and all others are as they were
abbrev pub EncodeUnwritten : CodeRows → Job → ℕ → List ℕ → Option FileMap → Option FileMap → ℕ → ℕ → Type 0
EncodeUnwritten code job status line before now was is =
    (count : ℕ) × (count < length job.wanted) × Fails (chunk_name job.name (slice_index job.wanted count)) status line was is
    × Told before now (λ old new. (whole : FileMap) × EncodesFirst code job count old whole × KeepsOthers whole new (chunk_name job.name (slice_index job.wanted count)))

-- memory ran out in `encode`: no file changed, or the files of some first wanted positions are whole and all others are as they were
abbrev pub EncodeOut : CodeRows → Job → Option FileMap → Option FileMap → Type 0
EncodeOut code job before now =
    (now ≡ before) ⊎ (AreBelow code.n job.wanted × ((count : ℕ) × (count < length job.wanted) × Told before now (EncodesFirst code job count)))

-- files are encoded, or reading or writing one failed, or memory ran out
abbrev pub EncodeEnds : CodeRows → Job → ℕ → List ℕ → Option FileMap → Option FileMap → ℕ → ℕ → Type 0
EncodeEnds code job status line before now was is =
    (Encodes code job before status line now × (is ≡ was))
    ⊎ (AreBelow code.n job.wanted × (EncodeUnread job status line before now was is ⊎ EncodeUnwritten code job status line before now was is))
    ⊎ (RunsOut status line × (is ≡ was) × EncodeOut code job before now)

-- `decode` could not read the file of a listed position: the files of the positions before it can be read, and no file changed
abbrev pub DecodeUnread : Job → ℕ → List ℕ → Option FileMap → Option FileMap → ℕ → ℕ → Type 0
DecodeUnread job status line before now was is =
    (i : ℕ) × (i < length job.wanted) × Fails (chunk_name job.name (slice_index job.wanted i)) status line was is
    × WhereTold before (λ files. AreReadable files job.name (take i job.wanted)) × (now ≡ before)

-- `decode` could not write its file: it may have any bytes or may not be there, and all others are as they were
abbrev pub DecodeUnwritten : CodeRows → Job → ℕ → List ℕ → Option FileMap → Option FileMap → ℕ → ℕ → Type 0
DecodeUnwritten code job status line before now was is =
    Fails job.name status line was is × Told before now (λ old new. CanDecode code job old × KeepsOthers old new job.name)

-- a file is decoded, or reading or writing one failed, or memory ran out before anything was written
abbrev pub DecodeEnds : CodeRows → Job → ℕ → List ℕ → Option FileMap → Option FileMap → ℕ → ℕ → Type 0
DecodeEnds code job status line before now was is =
    (Decodes code job before status line now × (is ≡ was))
    ⊎ (AreBelow code.n job.wanted × DecideTheData code job.wanted
    × (DecodeUnread job status line before now was is ⊎ DecodeUnwritten code job status line before now was is))
    ⊎ (RunsOut status line × (is ≡ was) × (now ≡ before))

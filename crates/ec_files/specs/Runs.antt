-- The outcomes of a job, by the files that are there. Source: this project.
use Rattle.std.specs.Prelude.{◌≡◌, ◌<◌, ◌≤◌, ◌*◌, ◌-◌, ◌%◌, ◌⊎◌, ⊤, ℕ, List, [], ◌∷◌, ◌++◌, length, take, slice_index, codes, bytes_eq, if◌then◌else◌, Option, Some, None}
use Rattle.std.specs.List.{flat_map}
use Rattle.std.specs.FinMap as map
use Rattle.ec_model.specs.Codes.{CodeRows}
use Rattle.ec_files.specs.Files.{FileMap, max_file}
use Rattle.ec_files.specs.Texts.{usage_line, missing_line, too_long_line, not_decided_line, lengths_line}
use Rattle.ec_files.specs.Jobs.{Job}
use Rattle.ec_files.specs.Chunks.{AreBelow, Written, after, AreChunkFiles, DecideTheData, IsReadPlan, AreReadable, HaveLength, IsDecoded, chunk_name}

-- a command stopped: its status and the line that it says; no file changed
abbrev pub Stops : ℕ → List ℕ → ℕ → List ℕ → Option FileMap → Option FileMap → Type 0
Stops its_status its_line status line before now = (status ≡ its_status) × (line ≡ its_line) × (now ≡ before)

-- a property of the files, if they are told
abbrev pub WhereTold : Option FileMap → (FileMap → Type 0) → Type 0
WhereTold (Some files) so = so files
WhereTold None so = ⊤

-- the file of a wanted position's chunks
abbrev pub IsChunkFileOf : Job → List ℕ → Type 0
IsChunkFileOf job name = (i : ℕ) × ((i < length job.wanted) × (name ≡ chunk_name job.name (slice_index job.wanted i)))

-- a file of a job: the file itself, or the file of a wanted position's chunks
abbrev pub IsFileOf : Job → List ℕ → Type 0
IsFileOf job name = (name ≡ job.name) ⊎ IsChunkFileOf job name

-- a status, and the line that is said with it
abbrev pub Answers : ℕ → List ℕ → ℕ → List ℕ → Type 0
Answers its_status its_line status line = (status ≡ its_status) × (line ≡ its_line)

-- the answers of `encode` if all wanted positions are the code's, whether files are told or not: it is done, or the file is not
-- there, or the file is too long
abbrev pub EncodeAnswers : Job → ℕ → List ℕ → Type 0
EncodeAnswers job status line = Answers 0 [] status line ⊎ Answers 4 (missing_line job.name) status line ⊎ Answers 8 (too_long_line job.name) status line

-- the answers of `decode` if all listed positions are the code's and decide its data, whether files are told or not: it is done, or
-- a chunk file is not there, or their lengths are wrong, or a chunk file or the file itself is too long
abbrev pub DecodeAnswers : Job → ℕ → List ℕ → Type 0
DecodeAnswers job status line =
    Answers 0 [] status line
    ⊎ ((name : List ℕ) × IsChunkFileOf job name × Answers 4 (missing_line name) status line)
    ⊎ Answers 7 lengths_line status line
    ⊎ ((name : List ℕ) × IsFileOf job name × Answers 8 (too_long_line name) status line)

-- `encode` if all wanted positions are the code's, by the file that is read
pub record EncodesFiles (code : CodeRows) (job : Job) (status : ℕ) (line : List ℕ) (now : Option FileMap) (files : FileMap) : Type 0 where
  pub missing : map.get files job.name ≡ None → Stops 4 (missing_line job.name) status line (Some files) now
  pub too_long : (bytes : List ℕ) → map.get files job.name ≡ Some bytes → max_file < length bytes → Stops 8 (too_long_line job.name) status line (Some files) now
  pub done : (bytes : List ℕ) → map.get files job.name ≡ Some bytes → length bytes ≤ max_file
      → (status ≡ 0) × (line ≡ []) × ((written : List Written)
      × AreChunkFiles code job.unit job.name bytes job.wanted written × (now ≡ Some (after files written)))

-- `encode`: a position that is not one of the code's, then the file that is read, and then the chunks of each wanted position.
-- `before` and `now` are the files, if they are told
pub record Encodes (code : CodeRows) (job : Job) (before : Option FileMap) (status : ℕ) (line : List ℕ) (now : Option FileMap) : Type 0 where
  pub outside : (AreBelow code.n job.wanted → ⊥) → Stops 2 usage_line status line before now
  pub only_outside : status ≡ 2 → AreBelow code.n job.wanted → ⊥
  pub answers : AreBelow code.n job.wanted → EncodeAnswers job status line
  pub files : AreBelow code.n job.wanted → WhereTold before (EncodesFiles code job status line now)

-- the file of a job of `encode` was read, and those of the first `count` wanted positions were written, each whole: these are
-- the files then
pub record EncodesFirst (code : CodeRows) (job : Job) (count : ℕ) (files now : FileMap) : Type 0 where
  pub bytes : List ℕ
  pub is_read : map.get files job.name ≡ Some bytes
  pub short : length bytes ≤ max_file
  pub written : List Written
  pub are : AreChunkFiles code job.unit job.name bytes (take count job.wanted) written
  pub left : now ≡ after files written

-- `decode` if all listed positions are the code's and decide its data: the files that are read in turn, then their lengths, and
-- then the length of the decoded file
pub record DecodesFiles (code : CodeRows) (job : Job) (status : ℕ) (line : List ℕ) (now : Option FileMap) (files : FileMap) : Type 0 where
  pub missing : (i : ℕ) → i < length job.wanted → AreReadable files job.name (take i job.wanted)
      → map.get files (chunk_name job.name (slice_index job.wanted i)) ≡ None
      → Stops 4 (missing_line (chunk_name job.name (slice_index job.wanted i))) status line (Some files) now
  pub too_long_chunks : (i : ℕ) (bytes : List ℕ) → i < length job.wanted → AreReadable files job.name (take i job.wanted)
      → map.get files (chunk_name job.name (slice_index job.wanted i)) ≡ Some bytes → max_file < length bytes
      → Stops 8 (too_long_line (chunk_name job.name (slice_index job.wanted i))) status line (Some files) now
  pub lengths : AreReadable files job.name job.wanted → ((long : ℕ) → long % job.unit ≡ 0 → HaveLength files job.name job.wanted long → ⊥)
      → Stops 7 lengths_line status line (Some files) now
  pub too_long : (long : ℕ) → AreReadable files job.name job.wanted → long % job.unit ≡ 0 → HaveLength files job.name job.wanted long
      → max_file < code.k * long → Stops 8 (too_long_line job.name) status line (Some files) now
  pub done : (long : ℕ) → AreReadable files job.name job.wanted → long % job.unit ≡ 0 → HaveLength files job.name job.wanted long
      → code.k * long ≤ max_file
      → (status ≡ 0) × (line ≡ []) × ((plan : ℕ) × (found : List ℕ) × IsReadPlan code job.wanted plan
      × IsDecoded code job.unit files job.name plan long found × (now ≡ Some (map.insert files job.name found)))

-- the files of all listed positions can be read, and they give a file that is not too long
pub record CanDecode (code : CodeRows) (job : Job) (files : FileMap) : Type 0 where
  pub long : ℕ
  pub readable : AreReadable files job.name job.wanted
  pub whole : long % job.unit ≡ 0
  pub lengths : HaveLength files job.name job.wanted long
  pub short : code.k * long ≤ max_file

-- `decode`: a position that is not one of the code's, then whether the listed positions decide the data, and then the files
pub record Decodes (code : CodeRows) (job : Job) (before : Option FileMap) (status : ℕ) (line : List ℕ) (now : Option FileMap) : Type 0 where
  pub outside : (AreBelow code.n job.wanted → ⊥) → Stops 2 usage_line status line before now
  pub only_outside : status ≡ 2 → AreBelow code.n job.wanted → ⊥
  pub not_decided : AreBelow code.n job.wanted → (DecideTheData code job.wanted → ⊥) → Stops 6 not_decided_line status line before now
  pub only_not_decided : status ≡ 6 → DecideTheData code job.wanted → ⊥
  pub answers : AreBelow code.n job.wanted → DecideTheData code job.wanted → DecodeAnswers job status line
  pub files : AreBelow code.n job.wanted → DecideTheData code job.wanted → WhereTold before (DecodesFiles code job status line now)

-- Laws about files and their chunks. Source: this project.
use Rattle.std.specs.Prelude.{◌≡◌, ◌≢◌, ◌<◌, ◌≤◌, ◌^◌, ◌↔◌, ℕ, List, [], length, slice_index, Option, Some, None, Result, Ok, Err, IsSomeAnd}
use Rattle.std.specs.Io.KnownBytes.{Appends}
use Rattle.std.specs.List.{All}
use Rattle.std.specs.FinMap as map
use Rattle.ec_model.specs.Codes.{CodeRows, IsCode}
use Rattle.ec_model.specs.Stripes.{padded}
use Rattle.lrc_layers.specs.Laws.{AreAlike}
use Rattle.ec_files.specs.Chunks.{AreBelow, Written, after, AreChunkFiles, DecideTheData}
use Rattle.ec_files.specs.Decoding.{IsAmong}
use Rattle.ec_files.specs.Files.{FileMap, AnswersFor, KeepsOthers, max_file}
use Rattle.ec_files.specs.Runs.{Encodes, Decodes, IsFileOf}
use Rattle.ec_files.specs.Texts.{too_long_line}
use Rattle.ec_files.specs.Jobs.{Job}
use Rattle.ec_files.specs.declared.fault.FileFault.{FileFault}
use Rattle.ec_files.specs.declared.fault.FileFault.TheVariants.{Missing, TooLong, Failed, NoMemory}

-- an answer says everything about a file that may be there: `Missing` comes exactly if it is not there, `TooLong` exactly if it
-- has more than `max_file` bytes, and `Ok` exactly with all bytes of any other file
pub record IsExact (file : Option (List ℕ)) (result : Result (List ℕ) FileFault) : Type 0 where
  pub missing : (result ≡ Err Missing) ↔ (file ≡ None)
  pub too_long : (result ≡ Err TooLong) ↔ IsSomeAnd file (λ bytes. max_file < length bytes)
  pub ok : (bytes : List ℕ) → (result ≡ Ok bytes) ↔ ((file ≡ Some bytes) × (length bytes ≤ max_file))

abbrev pub AnswersAreExact : Type 0
AnswersAreExact =
    (file : Option (List ℕ)) (result : Result (List ℕ) FileFault)
    → AnswersFor file result → result ≢ Err Failed → result ≢ Err NoMemory → IsExact file result

-- after a write a file is found with its bytes, and each other file is found as before
abbrev pub WrittenFilesAreFound : Type 0
WrittenFilesAreFound =
    (old : FileMap) (name bytes : List ℕ)
    → (map.get (map.insert old name bytes) name ≡ Some bytes) × KeepsOthers old (map.insert old name bytes) name

-- chunk files that `encode` wrote of a file with these bytes, and a job that lists some of its positions; these decide the data
pub record AreListed (code : CodeRows) (bytes encoded : List ℕ) (written : List Written) (job : Job) : Type 0 where
  pub some_unit : 1 ≤ job.unit
  pub all_bytes : All (λ b. b < 2 ^ 8) bytes
  pub encoded_below : AreBelow code.n encoded
  pub are : AreChunkFiles code job.unit job.name bytes encoded written
  pub some_listed : 1 ≤ length job.wanted
  pub listed_below : AreBelow code.n job.wanted
  pub among : (i : ℕ) → i < length job.wanted → IsAmong encoded (slice_index job.wanted i)
  pub decide : DecideTheData code job.wanted

-- a file came back, with these bytes; or it was refused as too long, by the name of the file or of a file of its chunks, and no
-- file changed
pub record ComesBack (job : Job) (files : FileMap) (bytes : List ℕ) (status : ℕ) (line : List ℕ) (now : Option FileMap) : Type 0 where
  pub whole : length bytes ≤ max_file → (status ≡ 0) × (line ≡ []) × (now ≡ Some (map.insert files job.name bytes))
  pub too_long : max_file < length bytes
      → (status ≡ 8) × ((name : List ℕ) × IsFileOf job name × (line ≡ too_long_line name)) × (now ≡ Some files)

-- the chunk files that `encode` wrote of a file are decoded to that file, padded with zeros to whole stripes
abbrev pub EncodedFilesComeBack : Type 0
EncodedFilesComeBack =
    (code : CodeRows) (bytes encoded : List ℕ) (files : FileMap) (written : List Written) (job : Job) (status : ℕ) (line : List ℕ) (now : Option FileMap)
    → IsCode code → AreListed code bytes encoded written job → Decodes code job (Some (after files written)) status line now
    → ComesBack job (after files written) (padded code.k job.unit bytes) status line now

-- the outcome of `encode` is determined: the status, the line, and the files after
abbrev pub EncodedFilesAreOne : Type 0
EncodedFilesAreOne =
    (one other : CodeRows) (job : Job) (files : FileMap) (status its_status : ℕ) (line its_line : List ℕ) (now its_now : Option FileMap)
    → AreAlike one other → 1 ≤ job.unit → Encodes one job (Some files) status line now → Encodes other job (Some files) its_status its_line its_now
    → (status ≡ its_status) × (line ≡ its_line) × (now ≡ its_now)

-- each file holds bytes
abbrev pub HoldBytes : FileMap → Type 0
HoldBytes files = (name held : List ℕ) → map.get files name ≡ Some held → All (λ b. b < 2 ^ 8) held

-- the outcome of `decode` is determined, for chunks of an object and for others
abbrev pub DecodedFilesAreOne : Type 0
DecodedFilesAreOne =
    (one other : CodeRows) (job : Job) (files : FileMap) (status its_status : ℕ) (line its_line : List ℕ) (now its_now : Option FileMap)
    → IsCode one → AreAlike one other → 1 ≤ length job.wanted → HoldBytes files
    → Decodes one job (Some files) status line now → Decodes other job (Some files) its_status its_line its_now
    → (status ≡ its_status) × (line ≡ its_line) × (now ≡ its_now)

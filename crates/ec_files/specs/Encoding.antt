-- Writing the chunks of a file, and how far it comes. Source: this project.
use Rattle.std.specs.Prelude.{◌≡◌, ◌<◌, ℕ, List, length, take, slice_index, Option, Result, Ok, Err, string_bytes}
use Rattle.std.specs.FinMap as map
use Rattle.ec_model.specs.Codes.{CodeRows, IsPositionList}
use Rattle.ec_files.specs.Accesses.{Told}
use Rattle.ec_files.specs.Chunks.{chunk_name, Written, after, AreChunkFiles}
use Rattle.ec_files.specs.Files.{FileMap, KeepsOthers}
use Rattle.ec_files.specs.declared.stop.Stop.{Stop}
use Rattle.ec_files.specs.declared.stop.Stop.TheVariants.{Failed, NoMemory}

-- the chunks of a position were written
abbrev pub HasChunk : CodeRows → ℕ → List ℕ → List ℕ → ℕ → FileMap → FileMap → Type 0
HasChunk code unit name bytes p old new =
    (chunks : List ℕ) × IsPositionList code unit bytes p chunks × (new ≡ map.insert old (chunk_name name p) chunks)

-- the chunks of some positions were written, one file after another
abbrev pub HasChunks : CodeRows → ℕ → List ℕ → List ℕ → List ℕ → FileMap → FileMap → Type 0
HasChunks code unit name bytes wanted old new =
    (written : List Written) × AreChunkFiles code unit name bytes wanted written × (new ≡ after old written)

-- the chunks of some positions were written, and the file of this name may have any bytes
abbrev pub HasChunksBut : CodeRows → ℕ → List ℕ → List ℕ → List ℕ → List ℕ → FileMap → FileMap → Type 0
HasChunksBut code unit name bytes wanted next old new =
    (written : List Written) × AreChunkFiles code unit name bytes wanted written × KeepsOthers (after old written) new next

-- a failure or want of memory in writing the chunks of one position
abbrev pub StopsOne : List ℕ → ℕ → Option FileMap → Option FileMap → Stop → Type 0
StopsOne name p before now (Failed shown) = (string_bytes shown ≡ chunk_name name p) × Told before now (λ old new. KeepsOthers old new (chunk_name name p))
StopsOne name p before now NoMemory = now ≡ before
StopsOne name p before now _ = ⊥

abbrev pub WritesOne : {T : Type 0} → CodeRows → ℕ → List ℕ → List ℕ → ℕ → Option FileMap → Option FileMap → Result T Stop → Type 0
WritesOne {T} code unit name bytes p before now (Ok done) = Told before now (HasChunk code unit name bytes p)
WritesOne {T} code unit name bytes p before now (Err stop) = StopsOne name p before now stop

-- a failure or want of memory in writing the chunks of some positions comes at one of them
abbrev pub StopsChunks : CodeRows → ℕ → List ℕ → List ℕ → List ℕ → Option FileMap → Option FileMap → Stop → Type 0
StopsChunks code unit name bytes wanted before now (Failed shown) =
    (count : ℕ) × (count < length wanted) × (string_bytes shown ≡ chunk_name name (slice_index wanted count))
    × Told before now (HasChunksBut code unit name bytes (take count wanted) (chunk_name name (slice_index wanted count)))
StopsChunks code unit name bytes wanted before now NoMemory =
    (count : ℕ) × (count < length wanted) × Told before now (HasChunks code unit name bytes (take count wanted))
StopsChunks code unit name bytes wanted before now _ = ⊥

abbrev pub WritesChunks : {T : Type 0} → CodeRows → ℕ → List ℕ → List ℕ → List ℕ → Option FileMap → Option FileMap → Result T Stop → Type 0
WritesChunks {T} code unit name bytes wanted before now (Ok done) = Told before now (HasChunks code unit name bytes wanted)
WritesChunks {T} code unit name bytes wanted before now (Err stop) = StopsChunks code unit name bytes wanted before now stop

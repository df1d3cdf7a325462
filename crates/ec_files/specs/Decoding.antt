-- Reading files of chunks, and what they give. Source: this project.
use Rattle.std.specs.Prelude.{◌≡◌, ◌↔◌, ◌<◌, ◌≤◌, ◌^◌, ◌*◌, ◌%◌, ⊤, ℕ, List, length, take, slice_index, Option, Some, None, IsSome, IsSomeAnd, Result, Ok, Err, string_bytes}
use Rattle.std.specs.List.{All}
use Rattle.std.specs.FinMap as map
use Rattle.ec_model.specs.Codes.{CodeRows, HasPosition, IsPositionList}
use Rattle.stripe_map.specs.Chunks.{chunk_of_position}
use Rattle.stripe_map.specs.Decoding.{AllHaveLength}
use Rattle.ec_files.specs.Chunks.{chunk_name, AreReadable, NeedsEach}
use Rattle.ec_files.specs.Files.{FileMap, max_file}
use Rattle.ec_files.specs.declared.stop.Stop.{Stop}
use Rattle.ec_files.specs.declared.stop.Stop.TheVariants.{Missing, Failed, Lengths, TooLong, NoMemory}

-- a position is one of these
abbrev pub IsAmong : List ℕ → ℕ → Type 0
IsAmong positions p = (i : ℕ) × ((i < length positions) × (slice_index positions i ≡ p))

-- exactly these positions have chunks
abbrev pub HaveChunks : List ℕ → List (Option (List ℕ)) → Type 0
HaveChunks positions chunks = (p : ℕ) → IsSome (chunk_of_position chunks p) ↔ IsAmong positions p

-- each chunk that is there can be that of a file
abbrev pub AreShort : List (Option (List ℕ)) → Type 0
AreShort chunks = (p : ℕ) (bytes : List ℕ) → chunk_of_position chunks p ≡ Some bytes → length bytes ≤ max_file

-- each of these positions has the chunks of its file
abbrev pub AreFetched : FileMap → List ℕ → List ℕ → List (Option (List ℕ)) → Type 0
AreFetched files name positions chunks =
    (i : ℕ) → i < length positions → (bytes : List ℕ) × (map.get files (chunk_name name (slice_index positions i)) ≡ Some bytes)
    × (length bytes ≤ max_file) × (chunk_of_position chunks (slice_index positions i) ≡ Some bytes)

-- the files of chunks of some positions were read, if files are told
abbrev pub Fetches : Option FileMap → List ℕ → List ℕ → List (Option (List ℕ)) → Type 0
Fetches (Some files) name positions chunks = AreFetched files name positions chunks
Fetches None name positions chunks = ⊤

-- the file of a position's chunks cannot be read
abbrev pub StopsAtFile : Option FileMap → List ℕ → List ℕ → ℕ → Stop → Type 0
StopsAtFile (Some files) name positions i (Missing shown) =
    (string_bytes shown ≡ chunk_name name (slice_index positions i)) × AreReadable files name (take i positions)
    × (map.get files (chunk_name name (slice_index positions i)) ≡ None)
StopsAtFile (Some files) name positions i (TooLong shown) =
    (string_bytes shown ≡ chunk_name name (slice_index positions i)) × AreReadable files name (take i positions)
    × IsSomeAnd (map.get files (chunk_name name (slice_index positions i))) (λ bytes. max_file < length bytes)
StopsAtFile (Some files) name positions i (Failed shown) =
    (string_bytes shown ≡ chunk_name name (slice_index positions i)) × AreReadable files name (take i positions)
StopsAtFile None name positions i (Missing shown) = string_bytes shown ≡ chunk_name name (slice_index positions i)
StopsAtFile None name positions i (TooLong shown) = string_bytes shown ≡ chunk_name name (slice_index positions i)
StopsAtFile None name positions i (Failed shown) = string_bytes shown ≡ chunk_name name (slice_index positions i)
StopsAtFile files name positions i NoMemory = ⊤
StopsAtFile files name positions i _ = ⊥

-- the files of chunks of some positions were to be read, in their order
abbrev pub StopsReading : Option FileMap → List ℕ → List ℕ → Stop → Type 0
StopsReading files name positions stop = (i : ℕ) × (i < length positions) × StopsAtFile files name positions i stop

-- all chunks have this length, and it is that of whole units
abbrev pub AreWhole : ℕ → ℕ → List (Option (List ℕ)) → Type 0
AreWhole unit long chunks = (long % unit ≡ 0) × AllHaveLength chunks long

-- a file was put together from the chunks of a set of positions: if they are those of an object, it is the object; and the chunks
-- of a set with no position to spare are its own
pub record IsFileOfChunks (code : CodeRows) (unit long set : ℕ) (chunks : List (Option (List ℕ))) (found : List ℕ) : Type 0 where
  pub whole : length found ≡ code.k * long
  pub is : (bytes : List ℕ) → length bytes ≡ code.k * long → All (λ b. b < 2 ^ 8) bytes
      → ((p : ℕ) (chunk : List ℕ) → HasPosition set p → chunk_of_position chunks p ≡ Some chunk → IsPositionList code unit bytes p chunk)
      → found ≡ bytes
  pub all_bytes : All (λ b. b < 2 ^ 8) found
  pub own : NeedsEach code set → (p : ℕ) (chunk : List ℕ) → HasPosition set p → chunk_of_position chunks p ≡ Some chunk → All (λ b. b < 2 ^ 8) chunk
      → IsPositionList code unit found p chunk

-- a file of this name was to be put together
abbrev pub GivesFile : CodeRows → ℕ → List ℕ → ℕ → ℕ → List (Option (List ℕ)) → Result (List ℕ) Stop → Type 0
GivesFile code unit name long set chunks (Ok found) =
    AreWhole unit long chunks × (code.k * long ≤ max_file) × IsFileOfChunks code unit long set chunks found
GivesFile code unit name long set chunks (Err Lengths) = AreWhole unit long chunks → ⊥
GivesFile code unit name long set chunks (Err (TooLong shown)) =
    AreWhole unit long chunks × (max_file < code.k * long) × (string_bytes shown ≡ name)
GivesFile code unit name long set chunks (Err NoMemory) = ⊤
GivesFile code unit name long set chunks (Err _) = ⊥

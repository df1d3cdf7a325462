-- Files of chunks. Source: this project, after ceph-erasure-code-tool: the chunks of position P of file NAME are in NAME.P.
use Rattle.std.specs.Prelude.{◌≡◌, ◌≢◌, ◌↔◌, ◌<◌, ◌≤◌, ◌^◌, ◌*◌, ℕ, List, [], ◌∷◌, ◌++◌, length, slice_index, Some, ⊤}
use Rattle.std.specs.List.{All}
use Rattle.std.specs.Fmt.{decimal}
use Rattle.std.specs.FinMap as map
use Rattle.ec_model.specs.Codes.{CodeRows, IsColumn, HasPosition, IsPositionList, chunk_of}
use Rattle.read_plan.specs.Plans.{LiesIn, IsLeastPlan}
use Rattle.stripe_map.specs.Decoding.{DecidesData}
use Rattle.stripe_map.specs.DecodingLaws.{IsDataMask}
use Rattle.ec_files.specs.Files.{FileMap, max_file}

-- the name of the file of a position's chunks
abbrev pub chunk_name : List ℕ → ℕ → List ℕ
chunk_name name p = name ++ 46 ∷ decimal p

-- each wanted position is below n
abbrev pub AreBelow : ℕ → List ℕ → Type 0
AreBelow n wanted = All (λ p. p < n) wanted

-- a set has exactly these positions
abbrev pub IsSetOf : List ℕ → ℕ → Type 0
IsSetOf positions set = (p : ℕ) → HasPosition set p ↔ ((i : ℕ) × ((i < length positions) × (slice_index positions i ≡ p)))

-- a file that is to be written: its name and its bytes
abbrev pub Written : Type 0
Written = List ℕ × List ℕ

-- the files after these were written, one after another
abbrev pub after : FileMap → List Written → FileMap
after files [] = files
after files (one ∷ more) = after (map.insert files one.0 one.1) more

-- these are the files of the wanted positions' chunks of a file with these bytes, in the order of the positions
abbrev pub AreChunkFiles : CodeRows → ℕ → List ℕ → List ℕ → List ℕ → List Written → Type 0
AreChunkFiles code unit name bytes [] [] = ⊤
AreChunkFiles code unit name bytes (p ∷ wanted) (one ∷ more) =
    (one.0 ≡ chunk_name name p) × IsPositionList code unit bytes p one.1 × AreChunkFiles code unit name bytes wanted more
AreChunkFiles code unit name bytes _ _ = ⊥

-- some positions decide the data positions
abbrev pub DecideTheData : CodeRows → List ℕ → Type 0
DecideTheData code positions = (set : ℕ) → IsSetOf positions set → DecidesData code set

-- the other positions of a set decide one of them: any two columns whose chunks agree on all the others agree there
pub record DecideByOthers (code : CodeRows) (set p : ℕ) : Type 0 where
  pub agree : (one other : List ℕ) → IsColumn code.k one → IsColumn code.k other
      → ((q : ℕ) → q < code.n → q ≢ p → HasPosition set q → chunk_of code one q ≡ chunk_of code other q)
      → chunk_of code one p ≡ chunk_of code other p

-- a set has no position to spare: the others do not decide it
abbrev pub NeedsEach : CodeRows → ℕ → Type 0
NeedsEach code set = (p : ℕ) → HasPosition set p → DecideByOthers code set p → ⊥

-- the set of the listed positions that is read: the data positions if they are listed, else the least set that decides them
pub record IsReadPlan (code : CodeRows) (listed : List ℕ) (plan : ℕ) : Type 0 where
  pub given : ℕ
  pub data_set : ℕ
  pub is_given : IsSetOf listed given
  pub is_data : IsDataMask code data_set
  pub itself : LiesIn data_set given → plan ≡ data_set
  pub least : (LiesIn data_set given → ⊥) → IsLeastPlan code given data_set plan

-- a file is there and can be read
abbrev pub IsReadable : FileMap → List ℕ → Type 0
IsReadable files name = (bytes : List ℕ) × (map.get files name ≡ Some bytes) × (length bytes ≤ max_file)

-- each listed position's chunks can be read
abbrev pub AreReadable : FileMap → List ℕ → List ℕ → Type 0
AreReadable files name listed = (i : ℕ) → i < length listed → IsReadable files (chunk_name name (slice_index listed i))

-- each listed position's file of chunks has this length
abbrev pub HaveLength : FileMap → List ℕ → List ℕ → ℕ → Type 0
HaveLength files name listed long =
    (i : ℕ) → i < length listed → (bytes : List ℕ) × (map.get files (chunk_name name (slice_index listed i)) ≡ Some bytes) × (length bytes ≡ long)

-- the chunks of a set of positions are those of an object with these bytes
pub record AreChunksOf (code : CodeRows) (unit : ℕ) (files : FileMap) (name : List ℕ) (set : ℕ) (bytes : List ℕ) : Type 0 where
  pub all_bytes : All (λ b. b < 2 ^ 8) bytes
  pub each : (p : ℕ) (chunks : List ℕ) → HasPosition set p → map.get files (chunk_name name p) ≡ Some chunks → IsPositionList code unit bytes p chunks

-- a file was decoded from the chunks of a set of positions, each of this length: it has the bytes of all the stripes, those of
-- the object to which the chunks belong. The chunks that hold bytes are its own, so there is such an object
pub record IsDecoded (code : CodeRows) (unit : ℕ) (files : FileMap) (name : List ℕ) (set long : ℕ) (found : List ℕ) : Type 0 where
  pub whole : length found ≡ code.k * long
  pub is : (bytes : List ℕ) → length bytes ≡ code.k * long → AreChunksOf code unit files name set bytes → found ≡ bytes
  pub all_bytes : All (λ b. b < 2 ^ 8) found
  pub own : (p : ℕ) (chunks : List ℕ) → HasPosition set p → map.get files (chunk_name name p) ≡ Some chunks → All (λ b. b < 2 ^ 8) chunks
      → IsPositionList code unit found p chunks

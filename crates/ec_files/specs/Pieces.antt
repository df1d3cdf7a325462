-- A position's chunks; they are made and written piece after piece. Source: this project.
use Rattle.std.specs.Prelude.{◌≡◌, ◌<◌, ◌*◌, ◌+◌, ℕ, List, length, slice_index, Option, Result, Ok, Err}
use Rattle.std.specs.FinMap as map
use Rattle.ec_model.specs.Codes.{CodeRows, IsPositionList}
use Rattle.ec_model.specs.Field.{field_product}
use Rattle.ec_model.specs.Rows.{sum_below}
use Rattle.ec_files.specs.Accesses.{Told}
use Rattle.ec_files.specs.Files.{FileMap, KeepsOthers}

-- the bytes are whole stripes
pub record AreWholeStripes (k unit : ℕ) (bytes : List ℕ) : Type 0 where
  pub count : ℕ
  pub long : length bytes ≡ count * (k * unit)

-- the chunks of the first `count` stripes by a row of k entries stand one after another
abbrev pub AreRowChunks : ℕ → ℕ → List ℕ → List ℕ → ℕ → List ℕ → Type 0
AreRowChunks k unit row stripes count chunks = (t b : ℕ) → t < count → b < unit →
    slice_index chunks (t * unit + b) ≡ sum_below k (λ j. field_product (slice_index row j) (slice_index stripes ((t * k + j) * unit + b)))

-- a file has a position's chunks, and no other file changed
abbrev pub HasChunksOf : CodeRows → ℕ → List ℕ → List ℕ → ℕ → FileMap → FileMap → Type 0
HasChunksOf code unit file bytes p old new = (chunks : List ℕ) × IsPositionList code unit bytes p chunks × (new ≡ map.insert old file chunks)

-- a position's chunks were written into a file; at a failure all other files stay
abbrev pub WritesPieces : {T E : Type 0} → CodeRows → ℕ → List ℕ → List ℕ → ℕ → Option FileMap → Option FileMap → Result T E → Type 0
WritesPieces {T} {E} code unit file bytes p before now (Ok done) = Told before now (HasChunksOf code unit file bytes p)
WritesPieces {T} {E} code unit file bytes p before now (Err why) = Told before now (λ old new. KeepsOthers old new file)

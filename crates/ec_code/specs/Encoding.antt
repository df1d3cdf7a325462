-- The chunks of a stripe. Source: this project. A stripe is k units, one from each data chunk; a unit is `unit` bytes.
use Rattle.std.specs.Prelude.{◌≡◌, ◌+◌, ◌*◌, ◌<◌, ℕ, List, slice_index}
use Rattle.ec_model.specs.Field.{field_product}
use Rattle.ec_model.specs.Rows.{sum_below, entry_at}

-- the chunk of a stripe at a row: its byte b is the sum of the row's entries times byte b of each unit
abbrev pub IsChunk : ℕ → List ℕ → List ℕ → ℕ → List ℕ → Type 0
IsChunk k row stripe unit chunk = (b : ℕ) → b < unit →
    slice_index chunk b ≡ sum_below k (λ j. field_product (slice_index row j) (slice_index stripe (j * unit + b)))

-- the chunks of a stripe at the first rows stand one after another
abbrev pub AreChunks : ℕ → List (List ℕ) → List ℕ → ℕ → List ℕ → ℕ → Type 0
AreChunks k rows stripe unit chunks count = (p b : ℕ) → p < count → b < unit →
    slice_index chunks (p * unit + b) ≡ sum_below k (λ j. field_product (entry_at rows p j) (slice_index stripe (j * unit + b)))

-- An object that is put together from the chunks of one position after another. Source: this project.
-- The object has whole stripes. Its unit v is data chunk v % k of stripe v / k. So it is unit v / k in the list of that data position.
use Rattle.std.specs.Prelude.{◌≡◌, ◌<◌, ◌+◌, ◌*◌, ◌/◌, ◌%◌, ℕ, List, Option, length, slice_index, bit_xor}
use Rattle.ec_model.specs.Codes.{CodeRows, Combines}
use Rattle.ec_model.specs.Field.{field_product}
use Rattle.ec_model.specs.Rows.{row_at, entry_at}
use Rattle.stripe_map.specs.Decoding.{made_byte}

-- for each data position, the coefficients by which the chunks of a set make its list
abbrev pub MakeData : CodeRows → ℕ → List (List ℕ) → Type 0
MakeData code set rows = (j : ℕ) → j < code.k → Combines code set (slice_index code.places j) (row_at rows j)

-- each byte of the object is the sum of the first n positions' chunks, each times its entry of the row of the byte's data position
pub record IsMade (k unit n : ℕ) (rows : List (List ℕ)) (chunks : List (Option (List ℕ))) (count : ℕ) (object : List ℕ) : Type 0 where
  pub long : length object ≡ count * k * unit
  pub bytes : (v b : ℕ) → v < count * k → b < unit → slice_index object (v * unit + b) ≡ made_byte n (row_at rows (v % k)) chunks (v / k * unit + b)

-- the chunks of position q were added to an object
abbrev pub AddsPosition : ℕ → ℕ → List (List ℕ) → ℕ → List ℕ → List ℕ → List ℕ → ℕ → Type 0
AddsPosition k unit rows q chunks old new units = (v b : ℕ) → v < units → b < unit
    → slice_index new (v * unit + b) ≡ bit_xor (slice_index old (v * unit + b)) (field_product (entry_at rows (v % k) q) (slice_index chunks (v / k * unit + b)))

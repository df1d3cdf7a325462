-- Linear codes, and which positions decide which. Source: this project.
-- A code has k data chunks and n positions. A column is k bytes, one from each data chunk; its chunk at a position is a byte.
use Rattle.std.specs.Prelude.{◌≡◌, ◌<◌, ◌≤◌, ◌^◌, ◌*◌, ◌+◌, ℕ, List, zero, suc, length, slice_index}
use Rattle.std.specs.Int.{bit_at}
use Rattle.ec_model.specs.Field.{field_product}
use Rattle.ec_model.specs.Rows.{dot, sum_below, row_at, entry_at, unit_entry}
use Rattle.ec_model.specs.Stripes.{stripe_count, shard_len, padded}

-- a code: a row of k bytes for each of n positions, the position of each data chunk, and the divisor of chunk sizes
pub record CodeRows : Type 0 where
  pub k : ℕ
  pub n : ℕ
  pub lead : ℕ
  pub rows : List (List ℕ)
  pub places : List ℕ

-- what holds of each code: each position has a row of k entries or more, entries are bytes, and data chunk j stands at
-- position `places` j. The row of that position is unit row j. Rows from n on and entries from k on say nothing
pub record IsCode (code : CodeRows) : Type 0 where
  pub some_data : 1 ≤ code.k
  pub as_many : code.k ≤ code.n
  pub few : code.n ≤ 16
  pub some_lead : 1 ≤ code.lead
  pub full : code.n ≤ length code.rows
  pub wide : (p : ℕ) → p < code.n → code.k ≤ length (row_at code.rows p)
  pub bytes : (p j : ℕ) → entry_at code.rows p j < 2 ^ 8
  pub placed : (j : ℕ) → j < code.k → slice_index code.places j < code.n
  pub units : (i j : ℕ) → i < code.k → j < code.k → entry_at code.rows (slice_index code.places i) j ≡ unit_entry i j

-- a column: k bytes
pub record IsColumn (k : ℕ) (column : List ℕ) : Type 0 where
  pub long : length column ≡ k
  pub bytes : (j : ℕ) → slice_index column j < 2 ^ 8

-- the chunk of a column at a position
abbrev pub chunk_of : CodeRows → List ℕ → ℕ → ℕ
chunk_of code column p = dot code.k (row_at code.rows p) column

-- a mask has a position: bit p is set
abbrev pub HasPosition : ℕ → ℕ → Type 0
HasPosition mask p = bit_at mask p ≡ 1

-- a mask lies below n: it has no position from n on
abbrev pub LiesBelow : ℕ → ℕ → Type 0
LiesBelow n mask = mask < 2 ^ n

-- a set of positions decides p: any two columns whose chunks agree on all of the set agree at p
pub record DecidesOne (code : CodeRows) (from p : ℕ) : Type 0 where
  pub agree : (one other : List ℕ) → IsColumn code.k one → IsColumn code.k other
      → ((q : ℕ) → q < code.n → HasPosition from q → chunk_of code one q ≡ chunk_of code other q)
      → chunk_of code one p ≡ chunk_of code other p

-- a set decides each position of another
abbrev pub Decides : CodeRows → ℕ → ℕ → Type 0
Decides code from wanted = (p : ℕ) → p < code.n → HasPosition wanted p → DecidesOne code from p

-- how many of the positions below n a mask has
abbrev pub count_below : ℕ → ℕ → ℕ
count_below mask zero = 0
count_below mask (suc p) = bit_at mask p + count_below mask p

-- any k positions decide all
pub record AnyKDecideAll (code : CodeRows) : Type 0 where
  pub each : (from p : ℕ) → code.k ≤ count_below from code.n → p < code.n → DecidesOne code from p

-- coefficients on a set, 0 elsewhere, by which its rows make the row of position p
pub record Combines (code : CodeRows) (from p : ℕ) (coefficients : List ℕ) : Type 0 where
  pub long : length coefficients ≡ 16
  pub outside : (q : ℕ) → q < 16 → (HasPosition from q → ⊥) → slice_index coefficients q ≡ 0
  pub makes : (j : ℕ) → j < code.k
      → sum_below code.n (λ q. field_product (slice_index coefficients q) (entry_at code.rows q j)) ≡ entry_at code.rows p j

-- the chunks of a stripe of k units, position after position: byte b of chunk p is the chunk of the stripe's column b there
pub record IsEncoded (code : CodeRows) (stripe : List ℕ) (unit : ℕ) (chunks : List ℕ) : Type 0 where
  pub long : length chunks ≡ code.n * unit
  pub sums : (p b : ℕ) → p < code.n → b < unit
      → slice_index chunks (p * unit + b) ≡ sum_below code.k (λ j. field_product (entry_at code.rows p j) (slice_index stripe (j * unit + b)))

-- the list of position p of an object: its chunk of each stripe, one after another. Byte b of the chunk of stripe t is the
-- sum over the data chunks of that stripe, each times its entry in the row of p
pub record IsPositionList (code : CodeRows) (unit : ℕ) (bytes : List ℕ) (p : ℕ) (list : List ℕ) : Type 0 where
  pub long : length list ≡ shard_len code.k unit (length bytes)
  pub sums : (t b : ℕ) → t < stripe_count code.k unit (length bytes) → b < unit
      → slice_index list (t * unit + b) ≡ sum_below code.k (λ j.
      field_product (entry_at code.rows p j) (slice_index (padded code.k unit bytes) ((t * code.k + j) * unit + b)))

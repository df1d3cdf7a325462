-- An object from chunks of some positions. Source: this project.
-- `unit` is the number of bytes of a chunk in one stripe. The list of a position has its chunk of each stripe, one after another.
use Rattle.std.specs.Prelude.{◌≡◌, ◌↔◌, ◌<◌, ◌^◌, ℕ, List, [], Option, Some, None, IsSome, ⊤, length, map, slice_index, slice_index_or}
use Rattle.std.specs.List.{All, flat_map, range_with_len}
use Rattle.ec_model.specs.Codes.{CodeRows, HasPosition, LiesBelow, DecidesOne, IsPositionList}
use Rattle.ec_model.specs.Field.{field_product}
use Rattle.ec_model.specs.Rows.{sum_below, row_at}
use Rattle.ec_model.specs.Stripes.{chunk_at}
use Rattle.stripe_map.specs.Chunks.{chunk_of_position}

-- a mask has exactly the positions that have a chunk
abbrev pub IsMaskOf : List (Option (List ℕ)) → ℕ → Type 0
IsMaskOf chunks mask = (p : ℕ) → HasPosition mask p ↔ IsSome (chunk_of_position chunks p)

-- the chunks' mask lies below n
pub record HaveMaskBelow (chunks : List (Option (List ℕ))) (n : ℕ) : Type 0 where
  pub mask : ℕ
  pub is_theirs : IsMaskOf chunks mask
  pub below : LiesBelow n mask

-- a set of positions decides all data positions
abbrev pub DecidesData : CodeRows → ℕ → Type 0
DecidesData code from = (j : ℕ) → j < code.k → DecidesOne code from (slice_index code.places j)

-- the chunks' mask decides all data positions
pub record DecideData (code : CodeRows) (chunks : List (Option (List ℕ))) : Type 0 where
  pub mask : ℕ
  pub is_theirs : IsMaskOf chunks mask
  pub decides : DecidesData code mask

-- a chunk that is there has this length
abbrev pub HasLength : Option (List ℕ) → ℕ → Type 0
HasLength (Some chunk) long = length chunk ≡ long
HasLength None long = ⊤

-- each chunk that is there has this length
abbrev pub AllHaveLength : List (Option (List ℕ)) → ℕ → Type 0
AllHaveLength chunks long = (p : ℕ) → HasLength (chunk_of_position chunks p) long

-- each chunk that is there is its position's list of an object
abbrev pub ArePositionLists : CodeRows → ℕ → List (Option (List ℕ)) → List ℕ → Type 0
ArePositionLists code unit chunks bytes = (p : ℕ) (chunk : List ℕ) → p < code.n → chunk_of_position chunks p ≡ Some chunk → IsPositionList code unit bytes p chunk

-- the chunks are of an object of `size` bytes
pub record AreOfObject (code : CodeRows) (unit : ℕ) (chunks : List (Option (List ℕ))) (size : ℕ) (bytes : List ℕ) : Type 0 where
  pub has_size : length bytes ≡ size
  pub all_bytes : All (λ b. b < 2 ^ 8) bytes
  pub lists : ArePositionLists code unit chunks bytes

-- the bytes of a chunk; empty if it is not there
abbrev pub bytes_of : Option (List ℕ) → List ℕ
bytes_of (Some bytes) = bytes
bytes_of None = []

-- byte i of the sum of the first n positions' chunks, each times its entry of a row
abbrev pub made_byte : ℕ → List ℕ → List (Option (List ℕ)) → ℕ → ℕ
made_byte n row chunks i = sum_below n (λ q. field_product (slice_index row q) (slice_index (bytes_of (chunk_of_position chunks q)) i))

-- the first `long` bytes of that sum
abbrev pub made_list : ℕ → List ℕ → List (Option (List ℕ)) → ℕ → List ℕ
made_list n row chunks long = map (made_byte n row chunks) (range_with_len 0 long)

-- such a list for each of k rows
abbrev pub made_lists : ℕ → ℕ → List (List ℕ) → List (Option (List ℕ)) → ℕ → List (List ℕ)
made_lists k n rows chunks long = map (λ j. made_list n (row_at rows j) chunks long) (range_with_len 0 k)

-- one list of several; empty past them
abbrev pub list_at : List (List ℕ) → ℕ → List ℕ
list_at lists j = slice_index_or lists j []

-- a stripe: its chunk of each of k lists
abbrev pub stripe_of : ℕ → ℕ → List (List ℕ) → ℕ → List ℕ
stripe_of k unit lists stripe = flat_map (λ j. chunk_at unit (list_at lists j) stripe) (range_with_len 0 k)

-- the first stripes, one after another
abbrev pub stripes_of : ℕ → ℕ → List (List ℕ) → ℕ → List ℕ
stripes_of k unit lists count = flat_map (stripe_of k unit lists) (range_with_len 0 count)

-- each of k lists has this length
pub record HaveLength (k long : ℕ) (lists : List (List ℕ)) : Type 0 where
  pub as_many : length lists ≡ k
  pub each : (j : ℕ) → j < k → length (list_at lists j) ≡ long

-- the lists of an object's data positions, data chunk after data chunk
abbrev pub AreDataLists : CodeRows → ℕ → List ℕ → List (List ℕ) → Type 0
AreDataLists code unit bytes lists = (j : ℕ) → j < code.k → IsPositionList code unit bytes (slice_index code.places j) (list_at lists j)

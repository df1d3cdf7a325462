-- How values are read from the front of bytes. Source: this project. `IsReadingOf` ties each reader to the bytes that it
-- reads. Each number stands with its most significant byte first.
use Rattle.std.specs.Prelude.{◌≡◌, ◌<◌, ◌^◌, ℕ, nat_le, if◌then◌else◌, List, [], ◌∷◌, ◌++◌, length, take, drop, Option, Some, None}
use Rattle.std.specs.List.{AllByRecursion}
use Rattle.std.specs.Int.{w32, w64, from_be_bytes, bytes_high_first}
use Rattle.ec_model.specs.Versions.{Version}

-- from a text: the value at its front, and the rest; or nothing if no value stands there
abbrev pub Reader : Type 0 → Type 0
Reader X = List ℕ → Option (X × List ℕ)

-- a text whose elements are all bytes
abbrev pub AreBytes : List ℕ → Type 0
AreBytes text = AllByRecursion (λ b. b < 256) text

-- a reader reads exactly the values that have a form as bytes, from these bytes
pub record IsReadingOf {X : Type 0} (reader : Reader X) (bytes_of : X → List ℕ) (Has : X → Type 0) : Type 0 where
  pub reads : (text : List ℕ) (x : X) (rest : List ℕ) → AreBytes text → reader text ≡ Some (x, rest) → Has x × (text ≡ bytes_of x ++ rest)
  pub spelled : (x : X) (rest : List ℕ) → Has x → reader (bytes_of x ++ rest) ≡ Some (x, rest)

-- what was read, and another reading of the rest
abbrev pub and_then : {X Y : Type 0} → Option (X × List ℕ) → (X → Reader Y) → Option (Y × List ℕ)
and_then None f = None
and_then (Some p) f = f p.0 p.1

-- a reading in another form
abbrev pub mapped : {X Y : Type 0} → (X → Y) → Reader X → Reader Y
mapped f reader text = and_then (reader text) (λ x rest. Some (f x, rest))

-- one reading after another
abbrev pub both : {X Y : Type 0} → Reader X → Reader Y → Reader (X × Y)
both first second text = and_then (first text) (λ x rest. and_then (second rest) (λ y rest. Some ((x, y), rest)))

abbrev pub read_byte : Reader ℕ
read_byte [] = None
read_byte (b ∷ rest) = Some (b, rest)

abbrev pub read_u32 : Reader ℕ
read_u32 text = if nat_le 4 (length text) then Some (from_be_bytes w32 (take 4 text), drop 4 text) else None

abbrev pub read_u64 : Reader ℕ
read_u64 text = if nat_le 8 (length text) then Some (from_be_bytes w64 (take 8 text), drop 8 text) else None

-- this many bytes
abbrev pub read_list : ℕ → Reader (List ℕ)
read_list n text = if nat_le n (length text) then Some (take n text, drop n text) else None

abbrev pub read_counted : Reader (List ℕ)
read_counted text = and_then (read_u32 text) read_list

abbrev pub version_from : ℕ × ℕ → Version
version_from p = record { epoch = p.0; seq = p.1 }

abbrev pub read_version : Reader Version
read_version = mapped version_from (both read_u32 read_u64)

-- the epoch in four bytes, the number in eight
unfoldable pub version_bytes : Version → List ℕ
version_bytes v = bytes_high_first 4 v.epoch ++ bytes_high_first 8 v.seq

-- the length in four bytes, and the bytes
abbrev pub counted_bytes : List ℕ → List ℕ
counted_bytes bytes = bytes_high_first 4 (length bytes) ++ bytes

-- numbers, versions and lengths that have their place in the bytes
abbrev pub IsWord : ℕ → Type 0
IsWord n = n < 2 ^ 32

abbrev pub HasWords : Version → Type 0
HasWords v = IsWord v.epoch × (v.seq < 2 ^ 64)

abbrev pub IsCounted : List ℕ → Type 0
IsCounted bytes = IsWord (length bytes)

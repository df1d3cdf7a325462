-- The file that chunks make; it is made and written piece after piece. Source: this project.
use Rattle.std.specs.Prelude.{◌≡◌, ◌<◌, ◌≤◌, ◌+◌, ◌*◌, ◌/◌, ◌%◌, ⊤, ℕ, List, Bool, Option, length, slice_index, bit_xor, Result, Ok, Err, string_bytes}
use Rattle.ec_model.specs.Field.{field_product}
use Rattle.ec_model.specs.Rows.{row_at, entry_at}
use Rattle.stripe_map.specs.Assembling.{IsMade}
use Rattle.stripe_map.specs.Decoding.{bytes_of, made_byte}
use Rattle.ec_files.specs.Accesses.{HasFile, Puts, Told}
use Rattle.ec_files.specs.Decoding.{AreWhole}
use Rattle.ec_files.specs.Files.{FileMap, KeepsOthers, max_file}
use Rattle.ec_files.specs.declared.stop.Stop.{Stop}
use Rattle.ec_files.specs.declared.stop.Stop.TheVariants.{Failed, Lengths, TooLong, NoMemory}

-- chunks of this length were to make a file of this name: all have it, it is that of whole units, and the file is not too long
abbrev pub ChecksLengths : {T : Type 0} → ℕ → ℕ → List ℕ → ℕ → List (Option (List ℕ)) → Result T Stop → Type 0
ChecksLengths {T} k unit name long chunks (Ok done) = AreWhole unit long chunks × (k * long ≤ max_file)
ChecksLengths {T} k unit name long chunks (Err Lengths) = AreWhole unit long chunks → ⊥
ChecksLengths {T} k unit name long chunks (Err (TooLong shown)) = AreWhole unit long chunks × (max_file < k * long) × (string_bytes shown ≡ name)
ChecksLengths {T} k unit name long chunks (Err NoMemory) = ⊤
ChecksLengths {T} k unit name long chunks (Err _) = ⊥

-- these are the `count` stripes from stripe `from` on that the first n positions' chunks make by some rows
pub record AreMadeStripes (k unit n : ℕ) (rows : List (List ℕ)) (chunks : List (Option (List ℕ))) (from count : ℕ) (piece : List ℕ) : Type 0 where
  pub long : length piece ≡ count * k * unit
  pub bytes : (v b : ℕ) → v < count * k → b < unit → slice_index piece (v * unit + b) ≡ made_byte n (row_at rows (v % k)) chunks (from * unit + (v / k * unit + b))

-- the part that a position's chunks make was added to some stripes, if the chunks are there
abbrev pub AddsStripes : ℕ → ℕ → List (List ℕ) → ℕ → Option (List ℕ) → ℕ → ℕ → List ℕ → List ℕ → Type 0
AddsStripes k unit rows q chunk from count old new = (v b : ℕ) → v < count * k → b < unit
    → slice_index new (v * unit + b)
    ≡ bit_xor (slice_index old (v * unit + b)) (field_product (entry_at rows (v % k) q) (slice_index (bytes_of chunk) (from * unit + (v / k * unit + b))))

-- some stripes were to be put behind those before them, or made the first ones of a file
abbrev pub PutsStripes : {T E : Type 0} → ℕ → ℕ → ℕ → List (List ℕ) → List (Option (List ℕ)) → ℕ → ℕ → Option FileMap → Option FileMap → List ℕ → Bool → Result T E → Type 0
PutsStripes {T} {E} k unit n rows chunks from count before now name first result =
    (piece : List ℕ) × AreMadeStripes k unit n rows chunks from count piece × Puts {T = T} {E = E} before now name first piece result

-- the file of this name has the stripes that the chunks make, and all others stay; at a failure nothing is said of that one file
abbrev pub WritesMade : {T E : Type 0} → ℕ → ℕ → ℕ → List (List ℕ) → List (Option (List ℕ)) → ℕ → Option FileMap → Option FileMap → List ℕ → Result T E → Type 0
WritesMade {T} {E} k unit n rows chunks count before now name (Ok done) =
    (object : List ℕ) × IsMade k unit n rows chunks count object × Told before now (HasFile name object)
WritesMade {T} {E} k unit n rows chunks count before now name (Err why) = Told before now (λ old new. KeepsOthers old new name)

-- the same, but memory may run out before anything is written
abbrev pub WritesMadeOrStops : {T : Type 0} → ℕ → ℕ → ℕ → List (List ℕ) → List (Option (List ℕ)) → ℕ → Option FileMap → Option FileMap → List ℕ → Result T Stop → Type 0
WritesMadeOrStops {T} k unit n rows chunks count before now name (Ok done) =
    (object : List ℕ) × IsMade k unit n rows chunks count object × Told before now (HasFile name object)
WritesMadeOrStops {T} k unit n rows chunks count before now name (Err (Failed shown)) =
    (string_bytes shown ≡ name) × Told before now (λ old new. KeepsOthers old new name)
WritesMadeOrStops {T} k unit n rows chunks count before now name (Err NoMemory) = now ≡ before
WritesMadeOrStops {T} k unit n rows chunks count before now name (Err _) = ⊥

-- The bytes of the steps of a pool's map. Source: this project. Each number stands with its most significant byte first.
use Rattle.std.specs.Prelude.{◌<◌, ◌^◌, ℕ, List, [], ◌∷◌, ◌++◌}
use Rattle.std.specs.List.{flat_map}
use Rattle.std.specs.Int.{bytes_high_first}
use Rattle.map_model.specs.Steps.{MapStep, Profile, Begin, Alive, Mark}
use Rattle.ec_words.specs.Readers.{version_bytes, counted_bytes, IsWord, IsCounted, HasWords}

-- a set of positions in two bytes
abbrev pub mask_bytes : ℕ → List ℕ
mask_bytes mask = bytes_high_first 2 mask

-- a step: its kind in a byte, and its fields
abbrev pub step_bytes : MapStep → List ℕ
step_bytes (Profile lines) = 1 ∷ counted_bytes lines
step_bytes (Begin epoch up) = 2 ∷ bytes_high_first 4 epoch ++ mask_bytes up
step_bytes (Alive epoch joined base) = 3 ∷ bytes_high_first 4 epoch ++ (mask_bytes joined ++ version_bytes base)
step_bytes (Mark slot down) = 4 ∷ slot ∷ down ∷ []

-- steps, one after another
abbrev pub steps_bytes : List MapStep → List ℕ
steps_bytes steps = flat_map step_bytes steps

-- a step whose parts all have their place in the bytes
abbrev pub IsWritable : MapStep → Type 0
IsWritable (Profile lines) = IsCounted lines
IsWritable (Begin epoch up) = IsWord epoch × (up < 2 ^ 16)
IsWritable (Alive epoch joined base) = IsWord epoch × ((joined < 2 ^ 16) × HasWords base)
IsWritable (Mark slot down) = (slot < 256) × (down < 256)

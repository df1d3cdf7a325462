-- One file read or written, or the reason to stop. Source: this project.
use Rattle.std.specs.Prelude.{◌≡◌, ◌<◌, ◌≤◌, ⊤, ℕ, List, length, Bool, true, false, Option, Some, None, Result, Ok, Err, IsSomeAnd, string_bytes}
use Rattle.std.specs.FinMap as map
use Rattle.ec_files.specs.Files.{Appends, FileMap, Writes, max_file}
use Rattle.ec_files.specs.declared.stop.Stop.{Stop}
use Rattle.ec_files.specs.declared.stop.Stop.TheVariants.{Missing, Failed, TooLong, NoMemory}

-- what an answer says of a file that may be there, and of its name
abbrev pub SaysOf : Option (List ℕ) → List ℕ → Result (List ℕ) Stop → Type 0
SaysOf file name (Ok bytes) = (file ≡ Some bytes) × (length bytes ≤ max_file)
SaysOf file name (Err (Missing shown)) = (file ≡ None) × (string_bytes shown ≡ name)
SaysOf file name (Err (TooLong shown)) = IsSomeAnd file (λ bytes. max_file < length bytes) × (string_bytes shown ≡ name)
SaysOf file name (Err (Failed shown)) = string_bytes shown ≡ name
SaysOf file name (Err NoMemory) = ⊤
SaysOf file name (Err _) = ⊥

-- what an answer says if the files are not told: the name alone
abbrev pub SaysName : List ℕ → Result (List ℕ) Stop → Type 0
SaysName name (Ok bytes) = ⊤
SaysName name (Err (Missing shown)) = string_bytes shown ≡ name
SaysName name (Err (TooLong shown)) = string_bytes shown ≡ name
SaysName name (Err (Failed shown)) = string_bytes shown ≡ name
SaysName name (Err NoMemory) = ⊤
SaysName name (Err _) = ⊥

abbrev pub ReadsOrStops : Option FileMap → List ℕ → Result (List ℕ) Stop → Type 0
ReadsOrStops (Some files) name result = SaysOf (map.get files name) name result
ReadsOrStops None name result = SaysName name result

-- if the files are told, those before and after are so; whether they are told stays
abbrev pub Told : Option FileMap → Option FileMap → (FileMap → FileMap → Type 0) → Type 0
Told (Some old) (Some new) so = so old new
Told None None so = ⊤
Told _ _ so = ⊥

-- the file of this name has these bytes, and all others stay
abbrev pub HasFile : List ℕ → List ℕ → FileMap → FileMap → Type 0
HasFile name bytes old new = new ≡ map.insert old name bytes

-- a piece was made the first bytes of a file, or was added to it
abbrev pub Puts : {T E : Type 0} → Option FileMap → Option FileMap → List ℕ → Bool → List ℕ → Result T E → Type 0
Puts {T} {E} before now name true piece result = Writes before now name piece result
Puts {T} {E} before now name false piece result = Appends before now name piece result

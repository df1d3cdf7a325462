-- Steps as bytes. Source: this project. Each number stands with its most significant byte first.
use Rattle.std.specs.Prelude.{◌≡◌, ◌<◌, ℕ, List, [], ◌∷◌, ◌++◌, length, true}
use Rattle.std.specs.List.{AllByRecursion, flat_map}
use Rattle.std.specs.Int.{bytes_high_first}
use Rattle.ec_model.specs.Versions.{Version}
use Rattle.ec_words.specs.Names.{is_name}
unfoldable pub use Rattle.ec_words.specs.Readers.{version_bytes}
pub use Rattle.ec_words.specs.Readers.{counted_bytes, IsWord, HasWords, IsCounted}
use Rattle.shard_model.specs.Changes.{Change, Write, Replace, Remove, SetAttr, RemoveAttr}
use Rattle.shard_model.specs.Steps.{Back, Firm, Trim, Started, Partial, Put, Drop, Clear, Reset, Step, Log, Control, Recover}

-- the length in a byte, and the name
abbrev pub name_bytes : List ℕ → List ℕ
name_bytes name = length name ∷ name

-- an attribute's name and its value
abbrev pub pair_bytes : List ℕ × List ℕ → List ℕ
pair_bytes attr = name_bytes attr.0 ++ counted_bytes attr.1

-- the number of the attributes in a byte, and each of them
abbrev pub pairs_bytes : List (List ℕ × List ℕ) → List ℕ
pairs_bytes attrs = length attrs ∷ flat_map pair_bytes attrs

-- what every entry begins with: its version, the one before it, the object's name
abbrev pub head_bytes : Version × (Version × List ℕ) → List ℕ
head_bytes head = version_bytes head.0 ++ (version_bytes head.1.0 ++ name_bytes head.1.1)

-- what follows it
abbrev pub change_bytes : Change → List ℕ
change_bytes (Write fresh size at bytes) =
    fresh ∷ bytes_high_first 4 size ++ (bytes_high_first 4 at ++ counted_bytes bytes)
change_bytes (Replace size bytes) = bytes_high_first 4 size ++ counted_bytes bytes
change_bytes Remove = []
change_bytes (SetAttr attr value) = name_bytes attr ++ counted_bytes value
change_bytes (RemoveAttr attr) = name_bytes attr

-- the kind of an entry's step
abbrev pub change_number : Change → ℕ
change_number (Write fresh size at bytes) = 1
change_number (Replace size bytes) = 2
change_number Remove = 3
change_number (SetAttr attr value) = 4
change_number (RemoveAttr attr) = 5

-- a step: its kind in a byte, and its fields
abbrev pub step_bytes : Step → List ℕ
step_bytes (Log e) = change_number e.change ∷ head_bytes (e.version, (e.prior, e.name)) ++ change_bytes e.change
step_bytes (Control (Back v)) = 6 ∷ version_bytes v
step_bytes (Control (Started epoch)) = 7 ∷ bytes_high_first 4 epoch
step_bytes (Control (Firm v)) = 8 ∷ version_bytes v
step_bytes (Control (Trim v)) = 9 ∷ version_bytes v
step_bytes (Control Partial) = 10 ∷ []
step_bytes (Recover (Put name size bytes attrs)) =
    11 ∷ name_bytes name ++ (bytes_high_first 4 size ++ (counted_bytes bytes ++ pairs_bytes attrs))
step_bytes (Recover (Drop name)) = 12 ∷ name_bytes name
step_bytes (Recover Clear) = 13 ∷ []
step_bytes (Recover (Reset v epoch)) = 14 ∷ version_bytes v ++ bytes_high_first 4 epoch

-- steps, one after another
abbrev pub steps_bytes : List Step → List ℕ
steps_bytes steps = flat_map step_bytes steps

-- names and lists that have their place in the bytes
abbrev pub IsName : List ℕ → Type 0
IsName name = is_name name ≡ true

abbrev pub IsPair : List ℕ × List ℕ → Type 0
IsPair attr = IsName attr.0 × IsCounted attr.1

abbrev pub ArePairs : List (List ℕ × List ℕ) → Type 0
ArePairs attrs = (length attrs < 256) × AllByRecursion IsPair attrs

abbrev pub IsWritableChange : Change → Type 0
IsWritableChange (Write fresh size at bytes) = (fresh < 256) × (IsWord size × (IsWord at × IsCounted bytes))
IsWritableChange (Replace size bytes) = IsWord size × IsCounted bytes
IsWritableChange Remove = Unit {0}
IsWritableChange (SetAttr attr value) = IsName attr × IsCounted value
IsWritableChange (RemoveAttr attr) = IsName attr

-- the bytes of a change are few enough to be counted
abbrev pub HasShortBytes : Change → Type 0
HasShortBytes (Write fresh size at bytes) = IsCounted bytes
HasShortBytes (Replace size bytes) = IsCounted bytes
HasShortBytes Remove = Unit {0}
HasShortBytes (SetAttr attr value) = IsCounted value
HasShortBytes (RemoveAttr attr) = Unit {0}

-- a step whose parts all have their place
abbrev pub IsWritable : Step → Type 0
IsWritable (Log e) = (HasWords e.version × (HasWords e.prior × IsName e.name)) × IsWritableChange e.change
IsWritable (Control (Back v)) = HasWords v
IsWritable (Control (Started epoch)) = IsWord epoch
IsWritable (Control (Firm v)) = HasWords v
IsWritable (Control (Trim v)) = HasWords v
IsWritable (Control Partial) = Unit {0}
IsWritable (Recover (Put name size bytes attrs)) = IsName name × (IsWord size × (IsCounted bytes × ArePairs attrs))
IsWritable (Recover (Drop name)) = IsName name
IsWritable (Recover Clear) = Unit {0}
IsWritable (Recover (Reset v epoch)) = HasWords v × IsWord epoch

-- its lists are short enough to be counted
abbrev pub HasShortLists : Step → Type 0
HasShortLists (Log e) = HasShortBytes e.change
HasShortLists (Control control) = Unit {0}
HasShortLists (Recover (Put name size bytes attrs)) = IsCounted bytes × ((length attrs < 256) × AllByRecursion (λ attr. IsCounted attr.1) attrs)
HasShortLists (Recover (Drop name)) = Unit {0}
HasShortLists (Recover Clear) = Unit {0}
HasShortLists (Recover (Reset v epoch)) = Unit {0}

-- a text begins with the bytes of a step
abbrev pub BeginsWith : List ℕ → Step → List ℕ → Type 0
BeginsWith text step rest = IsWritable step × (text ≡ step_bytes step ++ rest)

-- a text is steps
abbrev pub AreSteps : List ℕ → List Step → Type 0
AreSteps text steps = AllByRecursion IsWritable steps × (text ≡ steps_bytes steps)

-- the first place at which no step is spelled: steps stand before it, and the text does not end there and begins with no step there
pub record IsFirstBad (text : List ℕ) (at : ℕ) : Type 0 where
  pub front : List Step
  pub rest : List ℕ
  pub spelled : AllByRecursion IsWritable front
  pub parts : text ≡ steps_bytes front ++ rest
  pub place : at ≡ length (steps_bytes front)
  pub more : 0 < length rest
  pub none : (step : Step) (after : List ℕ) → BeginsWith rest step after → ⊥

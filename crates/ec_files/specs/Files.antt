-- Files, as contracts know them. Source: this project. A name is its bytes.
use Rattle.std.specs.Prelude.{◌≡◌, ◌≢◌, ◌<◌, ◌≤◌, ◌^◌, ℕ, List, [], ◌++◌, length, Option, Some, None, Result, Ok, Err, IsSomeAnd, MatchResult, ⊤}
use Rattle.std.specs.Ordering.{nat_cmp}
use Rattle.std.specs.Cmp.Lexicographic.{slice_cmp}
use Rattle.std.specs.FinMap as map
use Rattle.rig_disk.specs.Faults.{Rose, count_limit}
use Rattle.stripe_map.specs.Decoding.{bytes_of}
use Rattle.ec_files.specs.declared.fault.FileFault.{FileFault}
use Rattle.ec_files.specs.declared.fault.FileFault.TheVariants.{Missing, TooLong, Failed, NoMemory}

-- the number of bytes of the longest file that is read
abbrev pub max_file : ℕ
max_file = 2 ^ 26

-- the files by name, each with its bytes
abbrev pub FileMap : Type 0
FileMap = map.FinMap (slice_cmp nat_cmp) (List ℕ)

-- what an answer says of a file that may be there: `Ok` has all its bytes, `Missing` says that it is not there,
-- `TooLong` says that it has more than `max_file` bytes, and `Failed` and `NoMemory` say nothing
abbrev pub AnswersFor : Option (List ℕ) → Result (List ℕ) FileFault → Type 0
AnswersFor file (Ok bytes) = (file ≡ Some bytes) × (length bytes ≤ max_file)
AnswersFor file (Err Missing) = file ≡ None
AnswersFor file (Err TooLong) = IsSomeAnd file (λ bytes. max_file < length bytes)
AnswersFor file (Err Failed) = ⊤
AnswersFor file (Err NoMemory) = ⊤

-- an answer is right for the file of this name, if the files are told
abbrev pub Reads : Option FileMap → List ℕ → Result (List ℕ) FileFault → Type 0
Reads None name result = ⊤
Reads (Some files) name result = AnswersFor (map.get files name) result

-- all files but the one of this name stay
abbrev pub KeepsOthers : FileMap → FileMap → List ℕ → Type 0
KeepsOthers old new name = (other : List ℕ) → other ≢ name → map.get new other ≡ map.get old other

-- the file of this name has these bytes, and all others stay; at a failure nothing is said of that one file.
-- Whether the files are told stays
abbrev pub Writes : {T E : Type 0} → Option FileMap → Option FileMap → List ℕ → List ℕ → Result T E → Type 0
Writes None new name bytes result = new ≡ None
Writes (Some old) None name bytes result = ⊥
Writes (Some old) (Some new) name bytes result =
    MatchResult result (λ _. new ≡ map.insert old name bytes) (λ _. KeepsOthers old new name)

-- the file of this name has these bytes more at its end, and all others stay; a file that is not there counts as empty. At a
-- failure nothing is said of that one file. Whether the files are told stays
abbrev pub Appends : {T E : Type 0} → Option FileMap → Option FileMap → List ℕ → List ℕ → Result T E → Type 0
Appends None new name bytes result = new ≡ None
Appends (Some old) None name bytes result = ⊥
Appends (Some old) (Some new) name bytes result =
    MatchResult result (λ _. new ≡ map.insert old name (bytes_of (map.get old name) ++ bytes)) (λ _. KeepsOthers old new name)

-- the count of a read: it stays at each answer but `Failed`, and rises there, but not above its largest value. It never falls
pub record HasReadCause (before now : ℕ) (result : Result (List ℕ) FileFault) : Type 0 where
  pub later : before ≤ now
  pub kept : result ≢ Err Failed → now ≡ before
  pub failed : result ≡ Err Failed → Rose before now
  pub at_limit : before ≡ count_limit → now ≡ before

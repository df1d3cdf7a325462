-- Files in memory, as contracts see them. Source: this project.
use Rattle.std.specs.Prelude.{◌≡◌, ℕ, List, map, string_bytes, String}
use Rattle.std.specs.FinMap as finite
use Rattle.ec_files.specs.Files.{FileMap}
use Rattle.ec_files.specs.declared.mem_files.MemFiles.{MemFiles}

-- entries with the bytes of their keys in place of the keys
abbrev pub named_by_bytes : {Z : Type 0} → List (String Z × List ℕ) → List (List ℕ × List ℕ)
named_by_bytes entries = map (λ e. (string_bytes e.0, e.1)) entries

-- the files with their bytes
abbrev pub files_of : MemFiles → FileMap
files_of mem = finite.from_entries (named_by_bytes mem.kept.entries)

-- the failed calls so far
abbrev pub faults_of : MemFiles → ℕ
faults_of mem = mem.faults

-- the number of the further call that is to fail, from 1; 0 if no call is
abbrev pub planned_of : MemFiles → ℕ
planned_of mem = mem.planned

-- it has no file, no fault, and no planned fault
pub record IsNew (mem : MemFiles) : Type 0 where
  pub no_file : files_of mem ≡ finite.empty
  pub no_fault : faults_of mem ≡ 0
  pub no_plan : planned_of mem ≡ 0

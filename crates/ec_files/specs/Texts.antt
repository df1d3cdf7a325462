-- The lines of the reasons to stop. Source: this project.
use Rattle.std.specs.Prelude.{◌≡◌, ℕ, List, [], ◌∷◌, ◌++◌, codes, Option}
use Rattle.std.specs.Fmt.{decimal}
use Rattle.std.specs.Io.KnownBytes.{Appends}

abbrev pub usage_line : List ℕ
usage_line = codes "usage: ceph_ec_tool test-plugin-exists, validate-profile, calc-chunk-size, encode, decode\n"

-- a word, and the name of a file
abbrev pub line_with : List ℕ → List ℕ → List ℕ
line_with word name = word ++ (32 ∷ name ++ 10 ∷ [])

abbrev pub missing_line : List ℕ → List ℕ
missing_line name = line_with (codes "missing") name

abbrev pub failed_line : List ℕ → List ℕ
failed_line name = line_with (codes "failed") name

abbrev pub too_long_line : List ℕ → List ℕ
too_long_line name = line_with (codes "too long") name

abbrev pub not_decided_line : List ℕ
not_decided_line = codes "not decided\n"

abbrev pub lengths_line : List ℕ
lengths_line = codes "lengths\n"

-- The lines that the tool says, and its statuses. Source: this project.
use Rattle.std.specs.Prelude.{◌≡◌, ℕ, List, [], ◌∷◌, ◌++◌, codes, Option}
use Rattle.std.specs.Fmt.{decimal}
use Rattle.std.specs.Io.KnownBytes.{Appends}
use Rattle.rig_disk.specs.Said.{SaysFront}
pub use Rattle.ec_words.specs.Numbers.{OneOf}

abbrev pub exists_line : List ℕ
exists_line = codes "exists\n"

abbrev pub unknown_plugin_line : List ℕ
unknown_plugin_line = codes "unknown plugin\n"

-- a number on a line of its own
abbrev pub number_line : ℕ → List ℕ
number_line n = decimal n ++ 10 ∷ []

-- a run ended with this status and said this line; or the output failed in it; or memory ran out and nothing was said
pub record EndsWith (status : ℕ) (line : List ℕ) (before now : Option (List ℕ)) (ended : ℕ) : Type 0 where
  pub statuses : OneOf ended (status ∷ 9 ∷ 13 ∷ [])
  pub whole : ended ≡ status → Appends before now line
  pub front : ended ≡ 9 → SaysFront before now line
  pub silent : ended ≡ 13 → Appends before now []
  pub out : status ≡ 13 → ended ≡ 13

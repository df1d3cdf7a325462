-- The lines that a status says besides the replies, and the statuses. Source: this project.
use Rattle.std.specs.Prelude.{◌≡◌, ◌==◌, if◌then◌else◌, ℕ, List, [], ◌∷◌, ◌++◌, codes, Option}
use Rattle.std.specs.Fmt.{decimal}
use Rattle.std.specs.Io.KnownBytes.{Appends}
use Rattle.rig_disk.specs.Said.{SaysFront}
pub use Rattle.ec_words.specs.Numbers.{OneOf}

-- the bytes of the longest input
abbrev pub max_input : ℕ
max_input = 65536

abbrev pub usage_line : List ℕ
usage_line = codes "usage: ecpool try PROFILE, create DIR PROFILE, run DIR [depth=N], profile PROFILE, mill DIR SEED COUNT\n"

abbrev pub exists_line : List ℕ
exists_line = codes "pool exists\n"

-- the slot that failed
abbrev pub slot_line : ℕ → List ℕ
slot_line slot = codes "slot " ++ (decimal slot ++ 10 ∷ [])

abbrev pub too_long_line : List ℕ
too_long_line = codes "too long\n"

-- the line that belongs to a status
abbrev pub line_of : ℕ → List ℕ
line_of status =
    if status == 2 then usage_line
    else if status == 4 then exists_line
    else if status == 12 then too_long_line
    else []

-- a status comes only for its cause, and if the cause holds it comes, or one of those that go before it
pub record ComesFor (cause : Type 0) (status : ℕ) (before : List ℕ) (ended : ℕ) : Type 0 where
  pub only : ended ≡ status → cause
  pub comes : cause → OneOf ended (status ∷ before)

-- a status comes exactly for its cause and with its line; if the output failed, some first bytes of it were said
pub record SaysItsLine (cause : Type 0) (status : ℕ) (before now : Option (List ℕ)) (ended : ℕ) : Type 0 where
  pub only : ended ≡ status → cause
  pub comes : cause → OneOf ended (status ∷ 9 ∷ [])
  pub whole : ended ≡ status → Appends before now (line_of status)
  pub front : cause → SaysFront before now (line_of status)

-- The words of the command line. Source: this project.
use Rattle.std.specs.Prelude.{◌≡◌, ◌≢◌, List, [], ◌∷◌, ℕ, map, codes, string_bytes, String}
use Rattle.std.specs.declared.alloc.Global.{Global}
use Rattle.pool_run.specs.declared.program.Request.{Request}
use Rattle.pool_run.specs.declared.program.Request.TheVariants.{Wrong, Try, Show, ShowInput, Create, CreateFromInput}

-- the words as the program gets them
abbrev pub Words : Type 0
Words = List (String Global)

-- their bytes
abbrev pub texts_of : Words → List (List ℕ)
texts_of words = map string_bytes words

-- `try PROFILE`
abbrev pub AskTry : Words → List ℕ → Type 0
AskTry words profile = texts_of words ≡ codes "try" ∷ profile ∷ []

-- `profile PROFILE`
abbrev pub AskProfile : Words → List ℕ → Type 0
AskProfile words profile = texts_of words ≡ codes "profile" ∷ profile ∷ []

-- `create DIR PROFILE`
abbrev pub AskCreate : Words → List ℕ → Type 0
AskCreate words profile = (dir : List ℕ) × (texts_of words ≡ codes "create" ∷ dir ∷ profile ∷ [])

-- the word that stands for the text of the whole input, in `profile -` and in `create DIR -`
abbrev pub whole_input : List ℕ
whole_input = codes "-"

-- the words are no command
abbrev pub AreWrong : Words → Type 0
AreWrong words = (profile : List ℕ) → ¬ (AskTry words profile) × ¬ (AskProfile words profile) × ¬ (AskCreate words profile)

-- what the words ask for
abbrev pub Asks : Words → Request → Type 0
Asks words Wrong = AreWrong words
Asks words (Try profile) = AskTry words profile.now
Asks words (Show profile) = AskProfile words profile.now × (profile.now ≢ whole_input)
Asks words ShowInput = AskProfile words whole_input
Asks words (Create profile) = AskCreate words profile.now × (profile.now ≢ whole_input)
Asks words CreateFromInput = AskCreate words whole_input

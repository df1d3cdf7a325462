-- What is known of the bytes that were said. Source: this project.
use Rattle.std.specs.Prelude.{ℕ, List, take, Option, Result, MatchResult}
use Rattle.std.specs.Io.KnownBytes.{Appends}

-- some first bytes of a text were said
abbrev pub SaysFront : Option (List ℕ) → Option (List ℕ) → List ℕ → Type 0
SaysFront before now text = (count : ℕ) × Appends before now (take count text)

-- all the bytes were said, or at a failure some first ones
abbrev pub Says : {T E : Type 0} → Option (List ℕ) → Option (List ℕ) → List ℕ → Result T E → Type 0
Says before now bytes result = MatchResult result (λ _. Appends before now bytes) (λ _. SaysFront before now bytes)

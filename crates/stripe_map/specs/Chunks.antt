-- Chunks by position. Source: this project. They are seen as a list of 16 options, one for each position.
use Rattle.std.specs.Prelude.{◌≡◌, ◌≢◌, ℕ, List, Option, None, slice_index_or}

-- the chunk of a position; none past the list
abbrev pub chunk_of_position : List (Option (List ℕ)) → ℕ → Option (List ℕ)
chunk_of_position chunks p = slice_index_or chunks p None

-- each position but p has what it had
abbrev pub KeepsOthers : List (Option (List ℕ)) → List (Option (List ℕ)) → ℕ → Type 0
KeepsOthers old new p = (q : ℕ) → q ≢ p → chunk_of_position new q ≡ chunk_of_position old q

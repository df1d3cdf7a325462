-- What writes make of a text. Source: this project.
use Rattle.std.specs.Prelude.{◌≡◌, ◌≢◌, ◌⊎◌, ◌≤◌, ◌<◌, ◌+◌, ◌++◌, ◌∷◌, [], ℕ, List, length, take, get_or, Option, Some}
use Rattle.byteorder.specs.Endian.{big_bytes}
use Rattle.slot_journal.specs.Header.{open_gate}
use Rattle.slot_journal.specs.Text.{IsText, record_bytes}

-- the first `at` bytes stay
pub record KeepsFront (at : ℕ) (old new : List ℕ) : Type 0 where
  pub before : take at new ≡ take at old
  pub no_shorter : length old ≤ length new

-- what stands behind a record's gate, and a closed gate behind the record
abbrev pub behind_gate : List ℕ → List ℕ
behind_gate body = big_bytes 4 (length body) ++ body ++ 0 ∷ []

-- the place of the closed gate once a record with this body stands in front of it
abbrev pub next_gate : ℕ → List ℕ → ℕ
next_gate gate body = gate + (5 + length body)

-- the text has these records, or these and a new one
abbrev pub IsBeforeOrAfter : List ℕ → List (List ℕ) → List ℕ → ℕ → List ℕ → Type 0
IsBeforeOrAfter head bodies body gate text =
    IsText head bodies gate text ⊎ IsText head (bodies ++ body ∷ []) (next_gate gate body) text

-- a text with its closed gate at a place
pub record IsAtRest (text : List ℕ) (gate : ℕ) : Type 0 where
  pub head : List ℕ
  pub bodies : List (List ℕ)
  pub is_text : IsText head bodies gate text

-- an area that reads as a text with its closed gate at a place
pub record ReadsAsText (told : Option (List ℕ)) (gate : ℕ) : Type 0 where
  pub head : List ℕ
  pub bodies : List (List ℕ)
  pub there : List ℕ
  pub told_there : told ≡ Some there
  pub is_text : IsText head bodies gate there

-- the first byte is there, and is a closed gate
pub record IsShut (text : List ℕ) : Type 0 where
  pub gate : ℕ
  pub rest : List ℕ
  pub bytes : text ≡ gate ∷ rest
  pub closed : gate ≢ open_gate

-- no text at all: shorter than a header, or with its first gate closed
abbrev pub IsVoid : List ℕ → Type 0
IsVoid text = (length text < 24) ⊎ IsShut text

-- the text that a new journal begins with
abbrev pub first_text : List ℕ → List ℕ → List ℕ
first_text head body = open_gate ∷ head ++ record_bytes body ++ 0 ∷ []

-- an area whose bytes are told
pub record ReadsBytes (told : Option (List ℕ)) : Type 0 where
  pub there : List ℕ
  pub told_there : told ≡ Some there

-- nothing is there, or the first gate is open
abbrev pub IsUnshut : List ℕ → Type 0
IsUnshut there = (there ≡ []) ⊎ (get_or there 0 0 ≡ open_gate)

-- the area is as it was, or holds no text
abbrev pub IsSameOrVoid : List ℕ → List ℕ → Type 0
IsSameOrVoid before after = (after ≡ before) ⊎ IsVoid after

-- the area holds no text, or the one that a new journal begins with
abbrev pub IsVoidOrFirst : List ℕ → List ℕ → List ℕ → Type 0
IsVoidOrFirst head body area = IsVoid area ⊎ IsText head (body ∷ []) (next_gate 24 body) area

-- The text of a journal. Source: this project.
use Rattle.std.specs.Prelude.{◌≡◌, ◌≢◌, ◌⊎◌, ◌≤◌, ◌<◌, ◌+◌, ◌^◌, ◌++◌, ◌∷◌, [], ℕ, List, length, take, get_or, Contains}
use Rattle.byteorder.specs.Endian.{big_bytes, big_number}
use Rattle.slot_journal.specs.Header.{open_gate, known_formats}

-- the bytes of the longest body
abbrev pub max_body : ℕ
max_body = 2 ^ 26

-- a byte of a text's header serves for the one that is asked for: it is the same, or both are known formats at the
-- format's place
abbrev pub Serves : ℕ → ℕ → ℕ → Type 0
Serves place wanted byte =
    (byte ≡ wanted) ⊎ ((place ≡ 8) × Contains known_formats wanted × Contains known_formats byte)

-- the text has a byte at this place of its header, and it serves for an open gate and this head
abbrev pub FitsAt : List ℕ → List ℕ → ℕ → Type 0
FitsAt head text place = (place < length text) × Serves place (get_or (open_gate ∷ head) place 0) (get_or text place 0)

-- these 24 bytes are a header for the head
pub record IsHeader (head header : List ℕ) : Type 0 where
  pub long : length header ≡ 24
  pub fits : (place : ℕ) → place < 24 → FitsAt head header place

-- an open gate, the length in four bytes and the body
abbrev pub record_bytes : List ℕ → List ℕ
record_bytes body = (open_gate ∷ big_bytes 4 (length body)) ++ body

-- the records of these bodies, one after the other
abbrev pub records : List (List ℕ) → List ℕ
records [] = []
records (body ∷ bodies) = record_bytes body ++ records bodies

-- each body has from 1 to `max_body` bytes
abbrev pub AreSized : List (List ℕ) → Type 0
AreSized [] = Unit {0}
AreSized (body ∷ bodies) = (1 ≤ length body) × (length body ≤ max_body) × AreSized bodies

-- a header for this head, then these records, and a closed gate at this place; what follows it is not looked at
pub record IsText (head : List ℕ) (bodies : List (List ℕ)) (place : ℕ) (text : List ℕ) : Type 0 where
  pub header : List ℕ
  pub gate : ℕ
  pub rest : List ℕ
  pub is_header : IsHeader head header
  pub sized : AreSized bodies
  pub closed : gate ≢ open_gate
  pub at : place ≡ length (header ++ records bodies)
  pub bytes : text ≡ header ++ records bodies ++ gate ∷ rest

-- no length of a record begins a rest of `count` bytes: its four bytes are not all there, it is out of range, or it
-- passes the end
abbrev pub IsBadLength : List ℕ → ℕ → Type 0
IsBadLength rest count =
    (length rest < 4) ⊎ ((big_number 4 rest < 1) ⊎ ((max_body < big_number 4 rest) ⊎ (count < 4 + big_number 4 rest)))

-- the length of a record's body that begins a rest of `count` bytes and lies within it
pub record IsBodyLength (rest : List ℕ) (count len : ℕ) : Type 0 where
  pub whole : 4 ≤ length rest
  pub is : take 4 rest ≡ big_bytes 4 len
  pub some : 1 ≤ len
  pub most : len ≤ max_body
  pub within : 4 + len ≤ count

-- the text ends where a gate is missing, or no length stands behind an open one; `at` is the place of that end, or of the
-- length's first byte
abbrev pub FailsAt : List ℕ → ℕ → ℕ → Type 0
FailsAt rest place at =
    ((rest ≡ []) × (at ≡ place))
    ⊎ ((after : List ℕ) × (rest ≡ open_gate ∷ after) × IsBadLength after (length after) × (at ≡ place + 1))

-- behind a header for the head and some records the text fails
pub record IsBadRecord (head text : List ℕ) (at : ℕ) : Type 0 where
  pub header : List ℕ
  pub bodies : List (List ℕ)
  pub rest : List ℕ
  pub is_header : IsHeader head header
  pub sized : AreSized bodies
  pub bytes : text ≡ header ++ records bodies ++ rest
  pub fails : FailsAt rest (length (header ++ records bodies)) at

-- the header is out of form, and this is the first such place
pub record IsBadHeader (head text : List ℕ) (at : ℕ) : Type 0 where
  pub within : at < 24
  pub before : (place : ℕ) → place < at → FitsAt head text place
  pub differs : FitsAt head text at → ⊥

-- the text is not in the grammar for this head, and this is the first place where it fails
abbrev pub IsBadText : List ℕ → List ℕ → ℕ → Type 0
IsBadText head text at = IsBadHeader head text at ⊎ IsBadRecord head text at

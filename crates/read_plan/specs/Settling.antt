-- Which rows settle which, and the first set of a size that does. Source: this project. A row has 16 bytes.
use Rattle.std.specs.Prelude.{◌≡◌, ◌≢◌, ◌<◌, ◌≤◌, ℕ, List, bit_xor, slice_index}
use Rattle.std.specs.Int.{bit_at}
use Rattle.ec_model.specs.Field.{field_product}
use Rattle.ec_model.specs.Rows.{dot, row_at, entry_at}
use Rattle.ec_model.specs.Codes.{CodeRows, HasPosition}
use Rattle.read_plan.specs.Plans.{LiesIn, size_of, ComesBefore, IsLess}

-- rows of 16 bytes: those of a code, and 0 past its data chunks
pub record IsTable (code : CodeRows) (rows : List (List ℕ)) : Type 0 where
  pub inside : (p j : ℕ) → p < code.n → j < code.k → entry_at rows p j ≡ entry_at code.rows p j
  pub past : (p j : ℕ) → code.k ≤ j → entry_at rows p j ≡ 0

-- each column that is 0 on the rows of one set is 0 on those of the wanted one
pub record Settles (rows : List (List ℕ)) (from wanted : ℕ) : Type 0 where
  pub zero : (column : List ℕ) → ((q : ℕ) → q < 16 → HasPosition from q → dot 16 (row_at rows q) column ≡ 0)
      → (p : ℕ) → p < 16 → HasPosition wanted p → dot 16 (row_at rows p) column ≡ 0

-- the second set is the first one and position q
pub record IsWith (q one other : ℕ) : Type 0 where
  pub lacks : HasPosition one q → ⊥
  pub has : HasPosition other q
  pub others : (p : ℕ) → p ≢ q → bit_at other p ≡ bit_at one p

-- the needed rows after row q was subtracted: a set settles there what the set and q settle in the rows before
pub record IsTaken (rows : List (List ℕ)) (q needed : ℕ) (left : List (List ℕ)) : Type 0 where
  pub fewer : (one other wanted : ℕ) → IsWith q one other → LiesIn one needed → LiesIn wanted needed
      → Settles rows other wanted → Settles left one wanted
  pub more : (one other wanted : ℕ) → IsWith q one other → LiesIn one needed → LiesIn wanted needed
      → Settles left one wanted → Settles rows other wanted

-- a line less its multiple of a row; its byte at `lead` is then 0 if `by` is the inverse of the row's byte there
abbrev pub IsLineLess : List ℕ → List ℕ → ℕ → ℕ → List ℕ → Type 0
IsLineLess line row lead by left = (j : ℕ) → j < 16
    → slice_index left j ≡ bit_xor (slice_index line j) (field_product (field_product (slice_index line lead) by) (slice_index row j))

-- a line is 0 once its multiple of a row is subtracted
abbrev pub Vanishes : List ℕ → List ℕ → ℕ → ℕ → Type 0
Vanishes line row lead by = (j : ℕ) → j < 16 → bit_xor (slice_index line j) (field_product (field_product (slice_index line lead) by) (slice_index row j)) ≡ 0

-- the first by ascending lists of the sets of one size in `avail` that settle the wanted set
pub record IsFirst (rows : List (List ℕ)) (avail wanted size found : ℕ) : Type 0 where
  pub available : LiesIn found avail
  pub large : size_of found ≡ size
  pub settles : Settles rows found wanted
  pub first : (other : ℕ) → LiesIn other avail → size_of other ≡ size → Settles rows other wanted → other ≢ found → ComesBefore found other

-- no set of one size in `avail` settles the wanted set
abbrev pub NoneSettles : List (List ℕ) → ℕ → ℕ → ℕ → Type 0
NoneSettles rows avail wanted size = (other : ℕ) → LiesIn other avail → size_of other ≡ size → Settles rows other wanted → ⊥

-- the least set in `avail` that settles the wanted set
pub record IsLeastSettling (rows : List (List ℕ)) (avail wanted found : ℕ) : Type 0 where
  pub available : LiesIn found avail
  pub settles : Settles rows found wanted
  pub least : (other : ℕ) → LiesIn other avail → Settles rows other wanted → other ≢ found → IsLess found other

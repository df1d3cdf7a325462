-- Rows and columns over the field of 256 elements. Source: this project. A row and a column are lists of bytes.
use Rattle.std.specs.Prelude.{ℕ, List, [], zero, suc, ◌==◌, if◌then◌else◌, bit_xor, slice_index, slice_index_or}
use Rattle.ec_model.specs.Field.{field_product}

-- the sum of f 0, .., f (n - 1)
unfoldable pub sum_below : ℕ → (ℕ → ℕ) → ℕ
sum_below zero f = 0
sum_below (suc n) f = bit_xor (sum_below n f) (f n)

-- the sum of the products of the first n entries of a row and a column
abbrev pub dot : ℕ → List ℕ → List ℕ → ℕ
dot n row column = sum_below n (λ j. field_product (slice_index row j) (slice_index column j))

-- entry j of unit row i: 1 at its place, and 0 elsewhere
abbrev pub unit_entry : ℕ → ℕ → ℕ
unit_entry i j = if i == j then 1 else 0

-- row i of some rows; it is empty past them
abbrev pub row_at : List (List ℕ) → ℕ → List ℕ
row_at rows i = slice_index_or rows i []

-- the entry of row p at column j, and 0 past the rows
abbrev pub entry_at : List (List ℕ) → ℕ → ℕ → ℕ
entry_at rows p j = slice_index (row_at rows p) j

-- A basis of the columns, reduced by the first rows of a matrix. Source: this project. All is 16 wide.
use Rattle.std.specs.Prelude.{◌≡◌, ◌≢◌, ◌<◌, ◌%◌, ◌^◌, ℕ, List, [], slice_index, slice_index_or, Some, None}
use Rattle.std.specs.declared.option.Option.{Option}
use Rattle.ec_model.specs.Rows.{dot, row_at}

-- column i of some columns; it is empty past them
abbrev pub column_at : List (List ℕ) → ℕ → List ℕ
column_at columns i = slice_index_or columns i []

-- the row that owns column i; a column that no row owns is free
abbrev pub owner : List (Option ℕ) → ℕ → Option ℕ
owner owners i = slice_index_or owners i None

-- Each of the first `count` rows is 0 on the free columns. A row that owns a column is 1 on it and 0 on all others.
-- A row that is 0 on every column is 0.
pub record IsReduced (rows columns : List (List ℕ)) (owners : List (Option ℕ)) (count : ℕ) : Type 0 where
  pub free : (i q : ℕ) → i < 16 → q < count → owner owners i ≡ None
      → dot 16 (row_at rows q) (column_at columns i) ≡ 0
  pub bound : (i q : ℕ) → i < 16 → owner owners i ≡ Some q → q < count
  pub own : (i q : ℕ) → i < 16 → owner owners i ≡ Some q → dot 16 (row_at rows q) (column_at columns i) ≡ 1
  pub others : (i k q : ℕ) → i < 16 → k < 16 → k ≢ i → owner owners i ≡ Some q
      → dot 16 (row_at rows q) (column_at columns k) ≡ 0
  pub whole : (x : List ℕ) → ((i : ℕ) → i < 16 → dot 16 x (column_at columns i) ≡ 0)
      → (j : ℕ) → j < 16 → slice_index x j % 2 ^ 8 ≡ 0

-- The code reed_sol_van. Source: the technique of that name of Ceph's plugin jerasure, and this project's closed form of its rows.
-- The rows are those of the extended Vandermonde matrix after its upper k rows were made the identity by column
-- operations, its first coding row was scaled to ones, and each further row was scaled to a first entry of one.
use Rattle.std.specs.Prelude.{◌≡◌, ◌+◌, ◌<◌, ◌^◌, ℕ, bit_xor, slice_index}
use Rattle.ec_model.specs.Field.{field_product}
use Rattle.ec_model.specs.Rows.{entry_at, unit_entry}
use Rattle.ec_model.specs.Codes.{CodeRows}

-- e is ((k xor j) * x) / (k * (x xor j)) in the field, with x = k + r
pub record IsBetween (k r j e : ℕ) : Type 0 where
  pub byte : e < 2 ^ 8
  pub quotient : field_product e (field_product k (bit_xor (k + r) j)) ≡ field_product (bit_xor k j) (k + r)

-- e is (k xor j) / k in the field
pub record IsLast (k j e : ℕ) : Type 0 where
  pub byte : e < 2 ^ 8
  pub quotient : field_product e k ≡ bit_xor k j

-- e is the entry of coding row r of m at column j
pub record IsCodingEntry (k m r j e : ℕ) : Type 0 where
  pub first : r ≡ 0 → e ≡ 1
  pub between : 0 < r → r + 1 < m → IsBetween k r j e
  pub last : 0 < r → r + 1 ≡ m → IsLast k j e

-- the code with k data chunks and m coding chunks; the data chunks stand first
pub record IsReedSolVan (k m : ℕ) (code : CodeRows) : Type 0 where
  pub data_chunks : code.k ≡ k
  pub positions : code.n ≡ k + m
  pub divisor : code.lead ≡ k
  pub places : (j : ℕ) → j < k → slice_index code.places j ≡ j
  pub units : (i j : ℕ) → i < k → j < k → entry_at code.rows i j ≡ unit_entry i j
  pub coding : (r j : ℕ) → r < m → j < k → IsCodingEntry k m r j (entry_at code.rows (k + r) j)

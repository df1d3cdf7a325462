-- When a table is a code.
use Rattle.std.proofs.Common.{◌≡◌, ℕ, List, ◌<◌, ◌≤◌, slice_index, arith}
use Rattle.ec_model.specs.Rows.{entry_at, unit_entry}
use Rattle.ec_model.specs.Codes.{IsCode}
use Rattle.ec_code.specs.Tables.{AreFullRows, code_of}

pub code_of_table : (k n lead : ℕ) (rows : List (List ℕ)) (places : List ℕ) → AreFullRows rows → 1 ≤ k → k ≤ n → n ≤ 16 → 1 ≤ lead
    → ((j : ℕ) → j < k → slice_index places j < n)
    → ((i j : ℕ) → i < k → j < k → entry_at rows (slice_index places i) j ≡ unit_entry i j)
    → IsCode (code_of k n lead rows places)
code_of_table k n lead rows places are some more few divisor placed units = record {
  some_data = some;
  as_many = more;
  few = few;
  some_lead = divisor;
  full = omega (arith, are.count);
  wide = λ p lt. omega (arith, are.long p (omega arith));
  bytes = are.bytes;
  placed = placed;
  units = units;
}

-- Codes whose data chunks stand first.
use Rattle.std.proofs.Common.{◌≡◌, ℕ, List, ◌+◌, ◌<◌, ◌≤◌, slice_index, refl, ap, ◌∙◌, arith, zero-add}
use Rattle.std.specs.List.{range_with_len}
use Rattle.std.proofs.lemmas.List.FromFn.{get_or-range_with_len}
use Rattle.ec_model.specs.Rows.{entry_at, unit_entry}
use Rattle.ec_model.specs.Codes.{IsCode}
use Rattle.ec_model.specs.ReedSolVan.{IsCodingEntry, IsReedSolVan}
use Rattle.ec_code.specs.Tables.{AreFullRows}
use Rattle.ec_code.proofs.TableLemmas.{code_of_table}
use Rattle.rs_van.specs.Systematic.{systematic}

pub place_at : (k j : ℕ) → j < k → slice_index (range_with_len 0 k) j ≡ j
place_at k j lt = get_or-range_with_len 0 k j 0 lt ∙ zero-add j

pub code_of_rows : (k n : ℕ) (rows : List (List ℕ)) → AreFullRows rows → 1 ≤ k → k ≤ n → n ≤ 16
    → ((i j : ℕ) → i < k → j < k → entry_at rows i j ≡ unit_entry i j) → IsCode (systematic k n rows)
code_of_rows k n rows are some more few units = code_of_table k n k rows (range_with_len 0 k) are some more few some
    (λ j lt. let e = place_at k j lt in omega arith)
    (λ i j li lj. ap (λ t. entry_at rows t j) (place_at k i li) ∙ units i j li lj)

pub reed_sol_van_of : (k m : ℕ) (rows : List (List ℕ)) → ((i j : ℕ) → i < k → j < k → entry_at rows i j ≡ unit_entry i j)
    → ((r j : ℕ) → r < m → j < k → IsCodingEntry k m r j (entry_at rows (k + r) j)) → IsReedSolVan k m (systematic k (k + m) rows)
reed_sol_van_of k m rows units coding = record {
  data_chunks = refl;
  positions = refl;
  divisor = refl;
  places = λ j lt. place_at k j lt;
  units = units;
  coding = coding;
}

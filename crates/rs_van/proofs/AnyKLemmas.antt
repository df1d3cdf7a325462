-- Any k positions decide all.
use Rattle.std.proofs.Common.{◌≡◌, ℕ, List, ◌+◌, ◌<◌, ◌≤◌, ◌^◌, bit_xor, slice_index, ap, sym, ◌∙◌, subst, arith}
use Rattle.std.specs.Int.Bits.{xor_self}
use Rattle.std.proofs.Math.Nat.{mod-eq_of_lt}
use Rattle.std.proofs.lemmas.Nat.{xor_of_8}
use Rattle.ec_model.specs.Field.{field_product}
use Rattle.ec_model.specs.Rows.{sum_below, dot, row_at, entry_at}
use Rattle.ec_model.specs.Codes.{CodeRows, AnyKDecideAll, chunk_of, count_below}
use Rattle.ec_model.specs.ReedSolVan.{IsReedSolVan}
use Rattle.gf256.proofs.CallerLemmas.{field_product-sum}
use Rattle.ec_matrix.proofs.CallerLemmas.{sum_below-same, sum_below-sum, dot_comm, dot_unit}
use Rattle.rs_van.proofs.PolynomialLemmas.{equal_from_sum}
use Rattle.rs_van.proofs.RootLemmas.{any_enough}

pub any_k_decide_all : (k m : ℕ) (code : CodeRows) → 2 ≤ k → 1 ≤ m → k + m ≤ 16 → IsReedSolVan k m code → AnyKDecideAll code
any_k_decide_all k m code two some few is = record {
  each = λ from p many below. record {
    agree = λ d e dc ec agree.
        sum_below-same code.k (λ j. field_product (entry_at code.rows p j) (slice_index d j)) (λ j. field_product (entry_at code.rows p j) (slice_index e j))
        (λ j lt. ap (λ t. field_product (entry_at code.rows p j) t) (equal_from_sum (slice_index d j) (slice_index e j)
        (any_enough from k m (λ r j. entry_at code.rows (k + r) j) (λ j. bit_xor (slice_index d j) (slice_index e j)) two some few is.coding
        (λ j. xor_of_8 (slice_index d j) (slice_index e j) (dc.bytes j) (ec.bytes j)) (enough from many)
        (record {
          data_chunks = λ j lj bit.
              ap (λ t. bit_xor t (slice_index e j)) (sym (unit_chunk j d lj (dc.bytes j)) ∙ agree j (position j (omega arith)) bit ∙ unit_chunk j e lj (ec.bytes j))
              ∙ xor_self (slice_index e j);
          coding_chunks = λ r lr bit. difference (k + r) d e (agree (k + r) (position (k + r) (omega arith)) bit);
        }) j (narrow j lt))));
  };
} where
  position : (p : ℕ) → p < k + m → p < code.n
  position p lt = omega (arith, is.positions)

  narrow : (j : ℕ) → j < code.k → j < k
  narrow j lt = omega (arith, is.data_chunks)

  enough : (from : ℕ) → code.k ≤ count_below from code.n → k ≤ count_below from (k + m)
  enough from many = let P : ℕ → Type 0 = λ n. k ≤ count_below from n in subst P is.positions (omega (arith, is.data_chunks))

  unit_chunk : (j : ℕ) (d : List ℕ) → j < k → slice_index d j < 2 ^ 8 → chunk_of code d j ≡ slice_index d j
  unit_chunk j d lj byte =
      ap (λ t. dot t (row_at code.rows j) d) is.data_chunks
      ∙ dot_comm k (row_at code.rows j) d ∙ dot_unit k j d (row_at code.rows j) lj (λ i li. is.units j i lj li) ∙ mod-eq_of_lt byte

  difference : (q : ℕ) (d e : List ℕ) → chunk_of code d q ≡ chunk_of code e q →
      sum_below k (λ j. field_product (entry_at code.rows q j) (bit_xor (slice_index d j) (slice_index e j))) ≡ 0
  difference q d e same =
      sum_below-same k (λ j. field_product (entry_at code.rows q j) (bit_xor (slice_index d j) (slice_index e j)))
      (λ j. bit_xor (field_product (entry_at code.rows q j) (slice_index d j)) (field_product (entry_at code.rows q j) (slice_index e j)))
      (λ j lj. field_product-sum (entry_at code.rows q j) (slice_index d j) (slice_index e j))
      ∙ sum_below-sum k (λ j. field_product (entry_at code.rows q j) (slice_index d j)) (λ j. field_product (entry_at code.rows q j) (slice_index e j))
      ∙ ap (λ t. bit_xor t (dot k (row_at code.rows q) e)) (sym (ap (λ t. dot t (row_at code.rows q) d) is.data_chunks) ∙ same ∙ ap (λ t. dot t (row_at code.rows q) e) is.data_chunks)
      ∙ xor_self (dot k (row_at code.rows q) e)

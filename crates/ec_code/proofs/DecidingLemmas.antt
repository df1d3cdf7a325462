-- What the answer of the elimination says of the columns of a code.
use Rattle.std.proofs.Common.{◌≡◌, ℕ, List, ◌<◌, ◌≤◌, ◌^◌, length, slice_index, take, refl, ap, sym, ◌∙◌, subst, arith, inl, inr, ◌⊎◌, bit_xor, lit<, zero, suc}
use Rattle.std.specs.Prelude.{replicate}
use Rattle.std.proofs.lemmas.Bool.{cases_eq}
use Rattle.std.proofs.lemmas.List.{length-take-le, get_or-take, get_or_past}
use Rattle.std.proofs.lemmas.Simd.{length-replicate}
use Rattle.std.specs.Int.{bit_at}
use Rattle.ec_model.specs.Field.{field_product}
use Rattle.ec_model.specs.Rows.{sum_below, dot, row_at, entry_at}
use Rattle.ec_model.specs.Codes.{CodeRows, IsColumn, HasPosition, DecidesOne, Combines, chunk_of}
use Rattle.ec_matrix.specs.Matrix.{Matrix}
use Rattle.ec_matrix.specs.Solution.{CombinesTo, TellsApart}
use Rattle.ec_matrix.proofs.CallerLemmas.{sum_below-same, sum_below-sum, sum_below-times, sum_below-zero}
use Rattle.gf256.proofs.FieldLemmas.{field_product-zero, zero-field_product, field_product_assoc, field_product_comm}
use Rattle.ec_code.specs.Choosing.{IsChosen, IsMasked}

test : (from q : ℕ) → HasPosition from q ⊎ (HasPosition from q → ⊥)
test from q = cases_eq (bit_at from q) 1

-- sums over rows and columns change places
sums_swap : (n k : ℕ) (f : ℕ → ℕ → ℕ) → sum_below k (λ j. sum_below n (λ q. f q j)) ≡ sum_below n (λ q. sum_below k (λ j. f q j))
unfolding sum_below
sums_swap zero k f = sum_below-zero k (λ j. 0) (λ j lt. refl)
sums_swap (suc n) k f =
    sum_below-sum k (λ j. sum_below n (λ q. f q j)) (λ j. f n j)
    ∙ ap (λ t. bit_xor t (sum_below k (λ j. f n j))) (sums_swap n k f)

-- the chunk at p is the sum of the chunks of the set, each times its coefficient
combined_chunk : (code : CodeRows) (from p : ℕ) (coefficients column : List ℕ) → Combines code from p coefficients
    → chunk_of code column p ≡ sum_below code.n (λ q. field_product (slice_index coefficients q) (chunk_of code column q))
combined_chunk code from p c d m =
    sum_below-same code.k (λ j. field_product (entry_at code.rows p j) (slice_index d j))
    (λ j. sum_below code.n (λ q. field_product (slice_index c q) (field_product (entry_at code.rows q j) (slice_index d j))))
    (λ j lt.
    ap (λ t. field_product t (slice_index d j)) (sym (m.makes j lt))
    ∙ field_product_comm (sum_below code.n (λ q. field_product (slice_index c q) (entry_at code.rows q j))) (slice_index d j)
    ∙ sym (sum_below-times code.n (slice_index d j) (λ q. field_product (slice_index c q) (entry_at code.rows q j)))
    ∙ sum_below-same code.n (λ q. field_product (slice_index d j) (field_product (slice_index c q) (entry_at code.rows q j)))
    (λ q. field_product (slice_index c q) (field_product (entry_at code.rows q j) (slice_index d j)))
    (λ q _. field_product_comm (slice_index d j) (field_product (slice_index c q) (entry_at code.rows q j)) ∙ field_product_assoc (slice_index c q) (entry_at code.rows q j) (slice_index d j)))
    ∙ sums_swap code.n code.k (λ q j. field_product (slice_index c q) (field_product (entry_at code.rows q j) (slice_index d j)))
    ∙ sum_below-same code.n (λ q. sum_below code.k (λ j. field_product (slice_index c q) (field_product (entry_at code.rows q j) (slice_index d j))))
    (λ q. field_product (slice_index c q) (chunk_of code d q))
    (λ q _. sum_below-times code.k (slice_index c q) (λ j. field_product (entry_at code.rows q j) (slice_index d j)))

-- coefficients carry agreement over
pub decides_by : (code : CodeRows) (from p : ℕ) (coefficients : List ℕ) → code.n ≤ 16 → Combines code from p coefficients → DecidesOne code from p
decides_by code from p c few m = record {
  agree = λ one other _ _ agree.
      combined_chunk code from p c one m
      ∙ sum_below-same code.n (λ q. field_product (slice_index c q) (chunk_of code one q)) (λ q. field_product (slice_index c q) (chunk_of code other q))
      (λ q lt. elim (test from q) [
        | inl b ↦ ap (λ t. field_product (slice_index c q) t) (agree q lt b)
        | inr out ↦
            let z = m.outside q (omega arith) out in
            ap (λ t. field_product t (chunk_of code one q)) z ∙ zero-field_product (chunk_of code one q)
            ∙ sym (ap (λ t. field_product t (chunk_of code other q)) z ∙ zero-field_product (chunk_of code other q))
      ])
      ∙ sym (combined_chunk code from p c other m);
}

-- what the coefficients of the chosen rows say of the code's rows
pub combines_by : (code : CodeRows) (from p : ℕ) (m : Matrix) (wanted coefficients kept : List ℕ) → code.n ≤ 16 → IsChosen code from m
    → ((j : ℕ) → j < code.k → slice_index wanted j ≡ entry_at code.rows p j) → CombinesTo m wanted coefficients → IsMasked from coefficients kept → Combines code from p kept
combines_by code from p m wanted c kept few chosen row_is combines masked = record {
  long = masked.long;
  outside = masked.outside;
  makes = λ j lt.
      sum_below-same code.n (λ q. field_product (slice_index kept q) (entry_at code.rows q j)) (λ q. field_product (slice_index c q) (entry_at m.rows q j))
      (λ q lq. elim (test from q) [
        | inl b ↦ ap (λ t. field_product t (entry_at code.rows q j)) (masked.inside q (omega arith) b) ∙ ap (λ t. field_product (slice_index c q) t) (sym (chosen.inside q j lq lt b))
        | inr out ↦
            ap (λ t. field_product t (entry_at code.rows q j)) (masked.outside q (omega arith) out) ∙ zero-field_product (entry_at code.rows q j)
            ∙ sym (ap (λ t. field_product (slice_index c q) t) (chosen.outside q j out) ∙ field_product-zero (slice_index c q))
      ])
      ∙ ap (λ t. sum_below t (λ q. field_product (slice_index c q) (entry_at m.rows q j))) (sym chosen.size.high)
      ∙ combines.makes j (omega (arith, chosen.size.wide)) ∙ row_is j lt;
}

zero_at : (n r : ℕ) → slice_index (replicate n 0) r ≡ 0
zero_at zero r = refl
zero_at (suc n) zero = refl
zero_at (suc n) (suc r) = zero_at n r

inside_or_out : (j k : ℕ) → (j < k) ⊎ (k ≤ j)
inside_or_out j k = grind arith

front_is_column : (k : ℕ) (column : List ℕ) → k ≤ length column → ((j : ℕ) → slice_index column j < 2 ^ 8) → IsColumn k (take k column)
front_is_column k column le bytes = record {
  long = length-take-le k column le;
  bytes = λ j. elim (inside_or_out j k) [
    | inl lt ↦ let P : ℕ → Type 0 = λ n. n < 2 ^ 8 in subst P (sym (get_or-take k column j 0 lt)) (bytes j)
    | inr past ↦ let P : ℕ → Type 0 = λ n. n < 2 ^ 8 in subst P (sym (get_or_past (take k column) j 0 (omega (arith, length-take-le k column le)))) (lit< tt)
  ];
}

zeros_are_column : (k : ℕ) → IsColumn k (replicate k 0)
zeros_are_column k = record { long = length-replicate {A = ℕ} k 0; bytes = λ j. rw (zero_at k j) (lit< tt) }

-- a column that tells the chosen rows from the wanted one shows two columns that agree on the set and not at p
pub undecided_by : (code : CodeRows) (from p : ℕ) (m : Matrix) (wanted column : List ℕ) → code.k ≤ 16 → IsChosen code from m
    → ((j : ℕ) → j < code.k → slice_index wanted j ≡ entry_at code.rows p j) → TellsApart m wanted column → DecidesOne code from p → ⊥
undecided_by code from p m wanted column narrow chosen row_is apart decides =
    apart.nonzero (ap (λ t. dot t wanted column) chosen.size.wide ∙ same_dot wanted (row_at code.rows p) row_is ∙ chunks_agree ∙ nothing p)
  where
    front : List ℕ
    front = take code.k column

    none : List ℕ
    none = replicate code.k 0

    same_dot : (one other : List ℕ) → ((j : ℕ) → j < code.k → slice_index one j ≡ slice_index other j) → dot code.k one column ≡ dot code.k other front
    same_dot one other same = sum_below-same code.k (λ j. field_product (slice_index one j) (slice_index column j)) (λ j. field_product (slice_index other j) (slice_index front j))
        (λ j lt. ap (λ t. field_product t (slice_index column j)) (same j lt) ∙ ap (λ t. field_product (slice_index other j) t) (sym (get_or-take code.k column j 0 lt)))

    nothing : (q : ℕ) → chunk_of code none q ≡ 0
    nothing q = sum_below-zero code.k (λ j. field_product (entry_at code.rows q j) (slice_index none j))
        (λ j lt. ap (λ t. field_product (entry_at code.rows q j) t) (zero_at code.k j) ∙ field_product-zero (entry_at code.rows q j))

    chunks_agree : chunk_of code front p ≡ chunk_of code none p
    chunks_agree = decides.agree front none (front_is_column code.k column (omega (arith, apart.long)) apart.bytes) (zeros_are_column code.k)
        (λ q lq b. sym (same_dot (row_at m.rows q) (row_at code.rows q) (λ j lj. chosen.inside q j lq lj b))
        ∙ ap (λ t. dot t (row_at m.rows q) column) (sym chosen.size.wide) ∙ apart.zero q (omega (arith, chosen.size.high)) ∙ sym (nothing q))

-- Codes that are alike have the same chunks and decide the same.
use Rattle.std.proofs.Common.{◌≡◌, ◌<◌, ◌+◌, ◌*◌, zero, suc, ℕ, List, length, slice_index, bit_xor, refl, ap, sym, subst, ◌∙◌, arith}
use Rattle.ec_model.specs.Alike.{AreAlike}
use Rattle.ec_model.specs.Codes.{CodeRows, IsColumn, IsPositionList, DecidesOne, chunk_of}
use Rattle.ec_model.specs.Field.{field_product}
use Rattle.ec_model.specs.Rows.{sum_below, entry_at, row_at}
use Rattle.ec_model.specs.Stripes.{stripe_count, shard_len, padded}

-- sums of the same terms
same_sum : (n : ℕ) (f g : ℕ → ℕ) → ((j : ℕ) → j < n → f j ≡ g j) → sum_below n f ≡ sum_below n g
unfolding sum_below
same_sum zero f g same = refl
same_sum (suc n) f g same = λ i. bit_xor (same_sum n f g (λ j lt. same j (omega arith)) i) (same n (omega arith) i)

pub alike_back : (one other : CodeRows) → AreAlike one other → AreAlike other one
alike_back one other alike = record {
  data_chunks = sym alike.data_chunks;
  positions = sym alike.positions;
  divisor = sym alike.divisor;
  rows = λ p j lp lj. sym (alike.rows p j (omega (arith, lp, alike.positions)) (omega (arith, lj, alike.data_chunks)));
  places = λ j lj. sym (alike.places j (omega (arith, lj, alike.data_chunks)));
}

pub chunk_as : (one other : CodeRows) (x : List ℕ) (p : ℕ) → AreAlike one other → p < one.n → chunk_of one x p ≡ chunk_of other x p
chunk_as one other x p alike lp =
    same_sum one.k (λ j. field_product (slice_index (row_at one.rows p) j) (slice_index x j)) (λ j. field_product (slice_index (row_at other.rows p) j) (slice_index x j))
    (λ j lj. ap (λ e. field_product e (slice_index x j)) (alike.rows p j lp lj))
    ∙ ap (λ k. sum_below k (λ j. field_product (slice_index (row_at other.rows p) j) (slice_index x j))) alike.data_chunks

pub decides_as : (one other : CodeRows) (set p : ℕ) → AreAlike one other → p < one.n → DecidesOne one set p → DecidesOne other set p
decides_as one other set p alike lp is = record {
  agree = λ x y is_x is_y on.
      sym (chunk_as one other x p alike lp)
      ∙ is.agree x y (subst (λ (k : ℕ). IsColumn k x) (sym alike.data_chunks) is_x) (subst (λ (k : ℕ). IsColumn k y) (sym alike.data_chunks) is_y)
      (λ q lq has. chunk_as one other x q alike lq ∙ on q (omega (arith, lq, alike.positions)) has ∙ sym (chunk_as one other y q alike lq))
      ∙ chunk_as one other y p alike lp;
}

pub list_as : (one other : CodeRows) (unit : ℕ) (bytes : List ℕ) (p : ℕ) (list : List ℕ) → AreAlike one other → p < one.n → IsPositionList one unit bytes p list
    → IsPositionList other unit bytes p list
list_as one other unit bytes p list alike lt is = record {
  long = is.long ∙ ap (λ k. shard_len k unit (length bytes)) alike.data_chunks;
  sums = λ t b lt_stripe lb.
      is.sums t b (subst (λ (k : ℕ). t < stripe_count k unit (length bytes)) (sym alike.data_chunks) lt_stripe) lb
      ∙ same_sum one.k (λ j. field_product (entry_at one.rows p j) (slice_index (padded one.k unit bytes) ((t * one.k + j) * unit + b)))
      (λ j. field_product (entry_at other.rows p j) (slice_index (padded one.k unit bytes) ((t * one.k + j) * unit + b)))
      (λ j lj. ap (λ e. field_product e (slice_index (padded one.k unit bytes) ((t * one.k + j) * unit + b))) (alike.rows p j lt lj))
      ∙ ap (λ k. sum_below k (λ j. field_product (entry_at other.rows p j) (slice_index (padded k unit bytes) ((t * k + j) * unit + b)))) alike.data_chunks;
}

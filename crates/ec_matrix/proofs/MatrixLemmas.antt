-- What holds of the matrices that the code makes.
use Rattle.std.proofs.Common.{◌≡◌, ℕ, List, [], ◌^◌, ◌<◌, ◌≤◌, zero, suc, length, slice_index, refl, ap, sym, ◌∙◌, subst, arith, inl, inr, ◌⊎◌, replicate}
use Rattle.std.proofs.lemmas.List.{get_or_past, length-replicate}
use Rattle.gf256.proofs.FieldLemmas.{zero-field_product, field_product-zero, field_product-lt}
use Rattle.ec_model.specs.Field.{field_product}
use Rattle.ec_model.specs.Rows.{sum_below, row_at, entry_at}
use Rattle.ec_matrix.specs.Matrix.{Matrix, IsMatrix}
use Rattle.ec_matrix.proofs.CombinationLemmas.{zero_at}
use Rattle.ec_matrix.proofs.SumLaws.{sum_below-front, sum_below-zero, sum_below-lt}

below_or_from : (n r : ℕ) → (r < n) ⊎ (n ≤ r)
below_or_from n r = grind arith

-- the entries of rows of zeros
pub zeros_at : (n m r c : ℕ) → entry_at (replicate n (replicate m 0)) r c ≡ 0
zeros_at zero m r c = refl
zeros_at (suc n) m zero c = zero_at m c
zeros_at (suc n) m (suc r) c = zeros_at n m r c

long_at : (n m r : ℕ) → r < n → length (row_at (replicate n (replicate m 0)) r) ≡ m
long_at zero m r lt = absurd (omega arith)
long_at (suc n) m zero lt = length-replicate m 0
long_at (suc n) m (suc r) lt = long_at n m r (omega arith)

pub zero_is_matrix : (height width : ℕ) → height ≤ 16 → width ≤ 16 →
    IsMatrix record { height = height; width = width; rows = replicate 16 (replicate 16 0) }
zero_is_matrix height width low narrow = record {
  low = low;
  narrow = narrow;
  count = refl;
  long = λ r lt. long_at 16 16 r lt;
  bytes = λ r c. let e = zeros_at 16 16 r c in omega arith;
  below = λ r c le. zeros_at 16 16 r c;
  beside = λ r c le. zeros_at 16 16 r c;
}

-- the rows that the code makes of two matrices
pub record IsProduct (a b : Matrix) (rows : List (List ℕ)) : Type 0 where
  pub left : IsMatrix a
  pub right : IsMatrix b
  pub count : length rows ≡ 16
  pub long : (r : ℕ) → r < 16 → length (row_at rows r) ≡ 16
  pub sums : (r c : ℕ) → r < 16 → c < 16 → entry_at rows r c ≡ sum_below 16 (λ j. field_product (entry_at a.rows r j) (entry_at b.rows j c))

zero_below : (a b : Matrix) (n r c : ℕ) → IsMatrix a → a.height ≤ r → sum_below n (λ j. field_product (entry_at a.rows r j) (entry_at b.rows j c)) ≡ 0
zero_below a b n r c h le = sum_below-zero n (λ j. field_product (entry_at a.rows r j) (entry_at b.rows j c))
    (λ j lt. ap (λ t. field_product t (entry_at b.rows j c)) (h.below r j le) ∙ zero-field_product (entry_at b.rows j c))

zero_beside : (a b : Matrix) (n r c : ℕ) → IsMatrix b → b.width ≤ c → sum_below n (λ j. field_product (entry_at a.rows r j) (entry_at b.rows j c)) ≡ 0
zero_beside a b n r c h le = sum_below-zero n (λ j. field_product (entry_at a.rows r j) (entry_at b.rows j c))
    (λ j lt. ap (λ t. field_product (entry_at a.rows r j) t) (h.beside j c le) ∙ field_product-zero (entry_at a.rows r j))

pub product_entry : (a b : Matrix) (rows : List (List ℕ)) → IsProduct a b rows → (r c : ℕ) →
    entry_at rows r c ≡ sum_below a.width (λ j. field_product (entry_at a.rows r j) (entry_at b.rows j c))
product_entry a b rows h r c =
    elim (below_or_from 16 r) [
      | inl lt ↦ elim (below_or_from 16 c) [
        | inl lc ↦
            h.sums r c lt lc
            ∙ sum_below-front 16 a.width (λ j. field_product (entry_at a.rows r j) (entry_at b.rows j c)) h.left.narrow
            (λ j le. ap (λ t. field_product t (entry_at b.rows j c)) (h.left.beside r j le) ∙ zero-field_product (entry_at b.rows j c))
        | inr le ↦
            get_or_past (row_at rows r) c 0 (let e = h.long r lt in omega arith)
            ∙ sym (zero_beside a b a.width r c h.right (let n = h.right.narrow in omega arith))
      ]
      | inr le ↦
          ap (λ t. slice_index t c) (get_or_past rows r [] (let e = h.count in omega arith))
          ∙ sym (zero_below a b a.width r c h.left (let n = h.left.low in omega arith))
    ]

pub product_is_matrix : (a b : Matrix) (rows : List (List ℕ)) → IsProduct a b rows →
    IsMatrix record { height = a.height; width = b.width; rows = rows }
product_is_matrix a b rows h = record {
  low = h.left.low;
  narrow = h.right.narrow;
  count = h.count;
  long = h.long;
  bytes = λ r c.
      let P : ℕ → Type 0 = λ n. n < 2 ^ 8 in
      subst P (sym (product_entry a b rows h r c))
      (sum_below-lt a.width (λ j. field_product (entry_at a.rows r j) (entry_at b.rows j c)) (λ j. field_product-lt (entry_at a.rows r j) (entry_at b.rows j c)));
  below = λ r c le. product_entry a b rows h r c ∙ zero_below a b a.width r c h.left le;
  beside = λ r c le. product_entry a b rows h r c ∙ zero_beside a b a.width r c h.right le;
}

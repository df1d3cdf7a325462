use Rattle.std.proofs.Common.{◌≡◌, ℕ, ◌<◌, ◌≤◌, List, slice_index, zero, suc, bit_xor, refl, ap, sym, ◌∙◌, arith, ◌^◌, ◌%◌, ◌≢◌, lit<, inl, inr}
use Rattle.std.specs.Int.Bits.{xor_zero_l, xor_zero_r, xor_assoc}
use Rattle.std.proofs.lemmas.Bool.{cases_eq}
use Rattle.std.proofs.lemmas.Bool.Decides.{nat_tests}
use Rattle.std.proofs.lemmas.Nat.{xor_of_8, xor_comm}
use Rattle.ec_model.specs.Field.{field_product}
use Rattle.gf256.proofs.FieldLemmas.{zero-field_product, field_product-sum, field_product-zero, field_product-lt, field_product_assoc, field_product_comm, one-field_product}
use Rattle.gf256.proofs.LinearLemmas.{xor_swap}
use Rattle.ec_model.specs.Rows.{sum_below, dot, unit_entry}

-- equal terms, equal sums
pub sum_below-same : (n : ℕ) (f g : ℕ → ℕ) → ((j : ℕ) → j < n → f j ≡ g j) → sum_below n f ≡ sum_below n g
unfolding sum_below
sum_below-same zero f g e = refl
sum_below-same (suc n) f g e = ap (λ t. bit_xor t (f n)) (sum_below-same n f g (λ j lt. e j (omega arith))) ∙ ap (λ t. bit_xor (sum_below n g) t) (e n (omega arith))

pub sum_below-sum : (n : ℕ) (f g : ℕ → ℕ) → sum_below n (λ j. bit_xor (f j) (g j)) ≡ bit_xor (sum_below n f) (sum_below n g)
unfolding sum_below
sum_below-sum zero f g = refl
sum_below-sum (suc n) f g = ap (λ t. bit_xor t (bit_xor (f n) (g n))) (sum_below-sum n f g) ∙ xor_swap (sum_below n f) (sum_below n g) (f n) (g n)

pub sum_below-times : (n c : ℕ) (f : ℕ → ℕ) → sum_below n (λ j. field_product c (f j)) ≡ field_product c (sum_below n f)
unfolding sum_below
sum_below-times zero c f = sym (field_product-zero c)
sum_below-times (suc n) c f = ap (λ t. bit_xor t (field_product c (f n))) (sum_below-times n c f) ∙ sym (field_product-sum c (sum_below n f) (f n))

pub sum_below-zero : (n : ℕ) (f : ℕ → ℕ) → ((j : ℕ) → j < n → f j ≡ 0) → sum_below n f ≡ 0
unfolding sum_below
sum_below-zero zero f e = refl
sum_below-zero (suc n) f e = ap (λ t. bit_xor t (f n)) (sum_below-zero n f (λ j lt. e j (omega arith))) ∙ e n (omega arith)

times_past : (c x p : ℕ) → field_product x (field_product c p) ≡ field_product c (field_product x p)
times_past c x p = sym (field_product_assoc x c p) ∙ ap (λ t. field_product t p) (field_product_comm x c) ∙ field_product_assoc c x p

-- the product with b + c p, entry by entry
pub dot_of_sum : (n c : ℕ) (x b p b' : List ℕ) → ((j : ℕ) → j < n → slice_index b' j ≡ bit_xor (slice_index b j) (field_product c (slice_index p j))) →
    dot n x b' ≡ bit_xor (dot n x b) (field_product c (dot n x p))
dot_of_sum n c x b p b' e =
    sum_below-same n (λ j. field_product (slice_index x j) (slice_index b' j))
    (λ j. bit_xor (field_product (slice_index x j) (slice_index b j)) (field_product c (field_product (slice_index x j) (slice_index p j))))
    (λ j lt. ap (λ t. field_product (slice_index x j) t) (e j lt)
    ∙ field_product-sum (slice_index x j) (slice_index b j) (field_product c (slice_index p j))
    ∙ ap (λ t. bit_xor (field_product (slice_index x j) (slice_index b j)) t) (times_past c (slice_index x j) (slice_index p j)))
    ∙ sum_below-sum n (λ j. field_product (slice_index x j) (slice_index b j)) (λ j. field_product c (field_product (slice_index x j) (slice_index p j)))
    ∙ ap (λ t. bit_xor (dot n x b) t) (sum_below-times n c (λ j. field_product (slice_index x j) (slice_index p j)))

-- the product with c p, entry by entry
pub dot_of_times : (n c : ℕ) (x p b' : List ℕ) → ((j : ℕ) → j < n → slice_index b' j ≡ field_product c (slice_index p j)) →
    dot n x b' ≡ field_product c (dot n x p)
dot_of_times n c x p b' e =
    sum_below-same n (λ j. field_product (slice_index x j) (slice_index b' j)) (λ j. field_product c (field_product (slice_index x j) (slice_index p j)))
    (λ j lt. ap (λ t. field_product (slice_index x j) t) (e j lt) ∙ times_past c (slice_index x j) (slice_index p j))
    ∙ sum_below-times n c (λ j. field_product (slice_index x j) (slice_index p j))

pub sum_below-lt : (n : ℕ) (f : ℕ → ℕ) → ((j : ℕ) → f j < 2 ^ 8) → sum_below n f < 2 ^ 8
unfolding sum_below
sum_below-lt zero f h = lit< tt
sum_below-lt (suc n) f h = xor_of_8 (sum_below n f) (f n) (sum_below-lt n f h) (h n)

pub dot-lt : (n : ℕ) (x y : List ℕ) → dot n x y < 2 ^ 8
dot-lt n x y = sum_below-lt n (λ j. field_product (slice_index x j) (slice_index y j)) (λ j. field_product-lt (slice_index x j) (slice_index y j))

-- one term alone
pub sum_below-single : (n i : ℕ) (f : ℕ → ℕ) → i < n → ((j : ℕ) → j < n → j ≢ i → f j ≡ 0) → sum_below n f ≡ f i
unfolding sum_below
sum_below-single zero i f lt others = absurd (omega arith)
sum_below-single (suc n) i f lt others =
    elim (cases_eq n i) [
      | inl e ↦ ap (λ t. bit_xor t (f n)) (sum_below-zero n f (λ j lj. others j (omega arith) (λ z. omega arith))) ∙ xor_zero_l (f n) ∙ ap f e
      | inr ne ↦
          ap (λ t. bit_xor (sum_below n f) t) (others n (omega arith) ne)
          ∙ xor_zero_r (sum_below n f)
          ∙ sum_below-single n i f (below_last n i lt (λ e. ne (sym e))) (λ j lj d. others j (omega arith) d)
    ]
  where
    below_last : (n i : ℕ) → i < suc n → (i ≡ n → ⊥) → i < n
    below_last n i h d = grind arith

-- one term more by e
pub sum_below-change : (n q e : ℕ) (f f' : ℕ → ℕ) → q < n → ((r : ℕ) → r < n → r ≢ q → f' r ≡ f r) → f' q ≡ bit_xor (f q) e →
    sum_below n f' ≡ bit_xor (sum_below n f) e
unfolding sum_below
sum_below-change zero q e f f' lt others here = absurd (omega arith)
sum_below-change (suc n) q e f f' lt others here =
    elim (cases_eq n q) [
      | inl d ↦
          ap (λ t. bit_xor t (f' n)) (sum_below-same n f' f (λ r lr. others r (omega arith) (λ z. omega arith)))
          ∙ ap (λ t. bit_xor (sum_below n f) t) (ap f' d ∙ here ∙ ap (λ t. bit_xor (f t) e) (sym d))
          ∙ sym (xor_assoc (sum_below n f) (f n) e)
      | inr ne ↦
          ap (λ t. bit_xor t (f' n)) (sum_below-change n q e f f' (below_last n q lt (λ e. ne (sym e))) (λ r lr d. others r (omega arith) d) here)
          ∙ ap (λ t. bit_xor (bit_xor (sum_below n f) e) t) (others n (omega arith) ne)
          ∙ last_swap (sum_below n f) e (f n)
    ]
  where
    below_last : (n i : ℕ) → i < suc n → (i ≡ n → ⊥) → i < n
    below_last n i h d = grind arith

    last_swap : (a b c : ℕ) → bit_xor (bit_xor a b) c ≡ bit_xor (bit_xor a c) b
    last_swap a b c = xor_assoc a b c ∙ ap (λ t. bit_xor a t) (xor_comm b c) ∙ sym (xor_assoc a c b)

pub dot_comm : (n : ℕ) (x y : List ℕ) → dot n x y ≡ dot n y x
dot_comm n x y = sum_below-same n (λ j. field_product (slice_index x j) (slice_index y j)) (λ j. field_product (slice_index y j) (slice_index x j))
    (λ j lt. field_product_comm (slice_index x j) (slice_index y j))

-- the product of b + c p, entry by entry, with a column
pub sum_dot : (n c : ℕ) (x b p b' : List ℕ) → ((j : ℕ) → j < n → slice_index b' j ≡ bit_xor (slice_index b j) (field_product c (slice_index p j))) →
    dot n b' x ≡ bit_xor (dot n b x) (field_product c (dot n p x))
sum_dot n c x b p b' e =
    dot_comm n b' x ∙ dot_of_sum n c x b p b' e ∙ ap (λ t. bit_xor t (field_product c (dot n x p))) (dot_comm n x b)
    ∙ ap (λ t. bit_xor (dot n b x) (field_product c t)) (dot_comm n x p)

-- the product with a unit column
pub dot_unit : (n i : ℕ) (x e : List ℕ) → i < n → ((j : ℕ) → j < n → slice_index e j ≡ unit_entry i j) → dot n x e ≡ slice_index x i % 2 ^ 8
dot_unit n i x e lt unit =
    sum_below-single n i (λ j. field_product (slice_index x j) (slice_index e j)) lt
    (λ j lj ne. ap (λ t. field_product (slice_index x j) t) (unit j lj ∙ other i j (λ d. ne (sym d))) ∙ field_product-zero (slice_index x j))
    ∙ ap (λ t. field_product (slice_index x i) t) (unit i lt ∙ same i)
    ∙ field_product_comm (slice_index x i) 1 ∙ one-field_product (slice_index x i)
  where
    other : (i j : ℕ) → (i ≡ j → ⊥) → unit_entry i j ≡ 0
    other i j h = grind (arith, nat_tests)

    same : (i : ℕ) → unit_entry i i ≡ 1
    same i = grind (arith, nat_tests)

-- terms from m on that are 0 add nothing
pub sum_below-front : (n m : ℕ) (f : ℕ → ℕ) → m ≤ n → ((j : ℕ) → m ≤ j → f j ≡ 0) → sum_below n f ≡ sum_below m f
unfolding sum_below
sum_below-front zero m f le zeros = let e : m ≡ 0 = omega arith in rw e
sum_below-front (suc n) m f le zeros =
    elim (cases_eq m (suc n)) [
      | inl e ↦ rw e
      | inr ne ↦
          ap (λ t. bit_xor (sum_below n f) t) (zeros n (below m n le ne)) ∙ xor_zero_r (sum_below n f)
          ∙ sum_below-front n m f (below m n le ne) zeros
    ]
  where
    below : (m n : ℕ) → m ≤ suc n → (m ≡ suc n → ⊥) → m ≤ n
    below m n le ne = grind arith

-- the product of a row that is 0 from m on looks at the first m entries alone
pub dot_front : (n m : ℕ) (x y z : List ℕ) → m ≤ n → ((j : ℕ) → m ≤ j → slice_index x j ≡ 0) → ((j : ℕ) → j < m → slice_index z j ≡ slice_index y j) →
    dot m x z ≡ dot n x y
dot_front n m x y z le zeros same =
    sum_below-same m (λ j. field_product (slice_index x j) (slice_index z j)) (λ j. field_product (slice_index x j) (slice_index y j))
    (λ j lt. ap (λ t. field_product (slice_index x j) t) (same j lt))
    ∙ sym (sum_below-front n m (λ j. field_product (slice_index x j) (slice_index y j)) le
    (λ j lt. ap (λ t. field_product t (slice_index y j)) (zeros j lt) ∙ zero-field_product (slice_index y j)))

-- sums over rows and columns change places
pub sum_below-exchange : (n m : ℕ) (f : ℕ → ℕ → ℕ) → sum_below m (λ j. sum_below n (λ r. f r j)) ≡ sum_below n (λ r. sum_below m (λ j. f r j))
unfolding sum_below
sum_below-exchange zero m f = sum_below-zero m (λ j. 0) (λ j lt. refl)
sum_below-exchange (suc n) m f =
    sum_below-sum m (λ j. sum_below n (λ r. f r j)) (λ j. f n j)
    ∙ ap (λ t. bit_xor t (sum_below m (λ j. f n j))) (sum_below-exchange n m f)

-- a sum of multiples of rows and a column: the sum of the multiples of the rows' products with the column
pub dot_of_combined : (n m : ℕ) (c x w : List ℕ) (e : ℕ → ℕ → ℕ) → ((j : ℕ) → j < m → sum_below n (λ r. field_product (slice_index c r) (e r j)) ≡ slice_index w j) →
    dot m w x ≡ sum_below n (λ r. field_product (slice_index c r) (sum_below m (λ j. field_product (e r j) (slice_index x j))))
dot_of_combined n m c x w e makes =
    sum_below-same m (λ j. field_product (slice_index w j) (slice_index x j)) (λ j. sum_below n (λ r. field_product (slice_index c r) (field_product (e r j) (slice_index x j))))
    (λ j lt.
    ap (λ t. field_product t (slice_index x j)) (sym (makes j lt))
    ∙ field_product_comm (sum_below n (λ r. field_product (slice_index c r) (e r j))) (slice_index x j)
    ∙ sym (sum_below-times n (slice_index x j) (λ r. field_product (slice_index c r) (e r j)))
    ∙ sum_below-same n (λ r. field_product (slice_index x j) (field_product (slice_index c r) (e r j))) (λ r. field_product (slice_index c r) (field_product (e r j) (slice_index x j)))
    (λ r _. field_product_comm (slice_index x j) (field_product (slice_index c r) (e r j)) ∙ field_product_assoc (slice_index c r) (e r j) (slice_index x j)))
    ∙ sum_below-exchange n m (λ r j. field_product (slice_index c r) (field_product (e r j) (slice_index x j)))
    ∙ sum_below-same n (λ r. sum_below m (λ j. field_product (slice_index c r) (field_product (e r j) (slice_index x j)))) (λ r. field_product (slice_index c r) (sum_below m (λ j. field_product (e r j) (slice_index x j))))
    (λ r _. sum_below-times m (slice_index c r) (λ j. field_product (e r j) (slice_index x j)))

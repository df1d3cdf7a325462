-- How many coding rows a data chunk is in.
use Rattle.std.proofs.Common.{◌≡◌, ◌≢◌, ◌⊎◌, ◌<◌, ◌≤◌, ◌+◌, ◌%◌, ◌^◌, ℕ, zero, suc, Bool, true, false, eqb, ltb, bit_xor, refl, ap, sym, ◌∙◌, arith, inl, inr}
use Rattle.std.specs.Prelude.{◌==◌, if◌then◌else◌}
use Rattle.std.proofs.Math.Nat.{mod-eq_of_lt}
use Rattle.std.proofs.lemmas.Nat.{xor_lt}
use Rattle.std.proofs.lemmas.Bool.Decides.{nat_tests}
use Rattle.std.specs.Int.Bits.{xor_self, xor_zero_r, xor_zero_l, xor_assoc}
use Rattle.gf256.proofs.CallerLemmas.{zero-field_product, no_zero_divisor}
use Rattle.gf256.proofs.FieldLemmas.{each_below, each_below_at}
use Rattle.ec_model.specs.Field.{field_product}
use Rattle.ec_model.specs.Rows.{entry_at}
use Rattle.ec_model.specs.Codes.{CodeRows}
use Rattle.ec_model.specs.ReedSolVan.{IsCodingEntry, IsBetween, IsLast}
use Rattle.ec_model.specs.Shec.{IsInWindow, window_start, window_end, IsShecEntry, IsShec}
use Rattle.shec_matrix.specs.Laws.{rows_with}

-- ---- windows as a test

abbrev is_in : ℕ → ℕ → ℕ → Bool
is_in start end j = if ltb start end then (if ltb j start then false else ltb j end) else if ltb end start then (if ltb j start then ltb j end else true) else false

is_in-window : (start end j : ℕ) → is_in start end j ≡ true → IsInWindow start end j
is_in-window start end j h = grind (arith, nat_tests)

window-is_in : (start end j : ℕ) → IsInWindow start end j → is_in start end j ≡ true
window-is_in start end j (inl h) = let low = h.0 in let high = h.1 in grind (arith, nat_tests)
window-is_in start end j (inr (round, inl low)) = grind (arith, nat_tests)
window-is_in start end j (inr (round, inr high)) = grind (arith, nat_tests)

-- how many of the first coding rows don't leave column j out
abbrev kept_rows : ℕ → ℕ → ℕ → ℕ → ℕ → ℕ
kept_rows k m c j zero = 0
kept_rows k m c j (suc r) = (if is_in (window_start k m c r) (window_end k m r) j then 0 else 1) + kept_rows k m c j r

windows_test : each_below 13 (λ k. each_below (suc k) (λ m. each_below m (λ c. each_below k (λ j. eqb (kept_rows k m (suc c) j m) (suc c))))) ≡ true
windows_test = refl

eqb_is : (a b : ℕ) → eqb a b ≡ true → a ≡ b
eqb_is a b h = grind (arith, nat_tests)

each_is_kept : (k m c j : ℕ) → c < m → m ≤ k → k ≤ 12 → j < k → kept_rows k m (suc c) j m ≡ suc c
each_is_kept k m c j lc lm lk lj =
    eqb_is (kept_rows k m (suc c) j m) (suc c)
    (each_below_at k (λ j. eqb (kept_rows k m (suc c) j m) (suc c))
    (each_below_at m (λ c. each_below k (λ j. eqb (kept_rows k m (suc c) j m) (suc c)))
    (each_below_at (suc k) (λ m. each_below m (λ c. each_below k (λ j. eqb (kept_rows k m (suc c) j m) (suc c))))
    (each_below_at 13 (λ k. each_below (suc k) (λ m. each_below m (λ c. each_below k (λ j. eqb (kept_rows k m (suc c) j m) (suc c))))) windows_test k (omega arith))
    m (omega arith))
    c lc)
    j lj)

-- ---- the entries of reed_sol_van are not 0

same_by_zero : (a b : ℕ) → bit_xor a b ≡ 0 → a ≡ b
same_by_zero a b z = sym (xor_zero_r a) ∙ ap (λ t. bit_xor a t) (sym (xor_self b)) ∙ sym (xor_assoc a b b) ∙ ap (λ t. bit_xor t b) z ∙ xor_zero_l b

apart : (k j : ℕ) → j < k → bit_xor k j ≢ 0
apart k j lt z = let e = same_by_zero k j z in omega arith

between_nonzero : (k r j e : ℕ) → j < k → k + r < 2 ^ 8 → 0 < r → IsBetween k r j e → e ≢ 0
between_nonzero k r j e lt room pos h z =
    let none : field_product (bit_xor k j) (k + r) ≡ 0 = sym h.quotient ∙ ap (λ t. field_product t (field_product k (bit_xor (k + r) j))) z ∙ zero-field_product (field_product k (bit_xor (k + r) j)) in
    let zero : (k + r) % 2 ^ 8 ≡ 0 = no_zero_divisor (bit_xor k j) (k + r) (apart k j lt) (xor_lt 8 k j (omega arith) (omega arith)) none in
    let same : (k + r) % 2 ^ 8 ≡ k + r = mod-eq_of_lt (omega arith) in
    omega arith

last_nonzero : (k j e : ℕ) → j < k → IsLast k j e → e ≢ 0
last_nonzero k j e lt h z = apart k j lt (sym h.quotient ∙ ap (λ t. field_product t k) z ∙ zero-field_product k)

first_or_last : (r m : ℕ) → r < m → (r ≡ 0) ⊎ (((0 < r) × (r + 1 < m)) ⊎ ((0 < r) × (r + 1 ≡ m)))
first_or_last r m lt = grind arith

coding_nonzero : (k m r j e : ℕ) → r < m → j < k → k + r < 2 ^ 8 → IsCodingEntry k m r j e → e ≢ 0
coding_nonzero k m r j e lr lj room h z = elim (first_or_last r m lr) [
  | inl first ↦ let one = h.first first in omega arith
  | inr (inl between) ↦ between_nonzero k r j e lj room between.0 (h.between between.0 between.1) z
  | inr (inr last) ↦ last_nonzero k j e lj (h.last last.0 last.1) z
]

-- ---- a row has an entry that isn't 0 exactly where it doesn't leave the column out

abbrev some_entry : ℕ → ℕ
some_entry e = if e == 0 then 0 else 1

abbrev none_out : Bool → ℕ
none_out b = if b then 0 else 1

counted : (b : Bool) (e : ℕ) → (b ≡ true → e ≡ 0) → (b ≡ false → e ≢ 0) → some_entry e ≡ none_out b
counted true e is_out is_kept = let z = is_out refl in grind (arith, nat_tests)
counted false e is_out is_kept = let nz = is_kept refl in grind (arith, nat_tests)

row_counted : (k m c r j e : ℕ) → r < m → j < k → k + r < 2 ^ 8 → IsShecEntry k m c r j e
    → some_entry e ≡ none_out (is_in (window_start k m c r) (window_end k m r) j)
row_counted k m c r j e lr lj room h =
    let b = is_in (window_start k m c r) (window_end k m r) j in
    counted b e
    (λ is_out. h.left_out (is_in-window (window_start k m c r) (window_end k m r) j is_out))
    (λ is_kept. coding_nonzero k m r j e lr lj room (h.others (λ out. let is_out = window-is_in (window_start k m c r) (window_end k m r) j out in cc)))

rows_counted : (k m c j : ℕ) (code : CodeRows) → m ≤ k → k ≤ 12 → j < k → IsShec k m c code → (n : ℕ) → n ≤ m → rows_with code j n ≡ kept_rows k m c j n
rows_counted k m c j code lm lk lj is zero le = refl
rows_counted k m c j code lm lk lj is (suc r) le =
    let rest = rows_counted k m c j code lm lk lj is r (omega arith) in
    ap (λ t. some_entry (entry_at code.rows (t + r) j) + rows_with code j r) is.data_chunks
    ∙ ap (λ t. t + rows_with code j r) (row_counted k m c r j (entry_at code.rows (k + r) j) (omega arith) lj (omega arith) (is.coding r j (omega arith) lj))
    ∙ ap (λ t. none_out (is_in (window_start k m c r) (window_end k m r) j) + t) rest

pub each_is_in_c : (k m c : ℕ) (code : CodeRows) → 1 ≤ c → c ≤ m → m ≤ k → k ≤ 12 → IsShec k m c code
    → (j : ℕ) → j < k → rows_with code j m ≡ c
each_is_in_c k m zero code some lc lm lk is j lj = absurd (omega arith)
each_is_in_c k m (suc c) code some lc lm lk is j lj =
    rows_counted k m (suc c) j code lm lk lj is m (omega arith) ∙ each_is_kept k m c j (omega arith) lm lk lj

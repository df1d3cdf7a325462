-- The rows make the code.
use Rattle.std.proofs.Common.{◌≡◌, ◌⊎◌, ℕ, List, ◌+◌, ◌<◌, length, set, get_or, get_or-set_same, get_or-set_other, refl, sym, subst, arith, inl, inr}
use Rattle.ec_model.specs.Rows.{entry_at, unit_entry}
use Rattle.ec_model.specs.Shec.{IsShecEntry, IsShec}
use Rattle.rs_van.specs.Systematic.{systematic}
use Rattle.rs_van.proofs.SystematicLemmas.{place_at}

pub shec_of : (k m c : ℕ) (rows : List (List ℕ)) → ((i j : ℕ) → i < k → j < k → entry_at rows i j ≡ unit_entry i j)
    → ((r j : ℕ) → r < m → j < k → IsShecEntry k m c r j (entry_at rows (k + r) j)) → IsShec k m c (systematic k (k + m) rows)
shec_of k m c rows units coding = record {
  data_chunks = refl;
  positions = refl;
  divisor = refl;
  places = λ j lt. place_at k j lt;
  units = units;
  coding = coding;
}

before_or_at : (i j : ℕ) → i < j + 1 → (i < j) ⊎ (i ≡ j)
before_or_at i j lt = grind (arith, lt)

-- what holds of the entries before j and of the one that is set at j holds of the entries before j + 1
pub one_more : (k m c r : ℕ) (row : List ℕ) (j e : ℕ) → j < length row → ((i : ℕ) → i < j → IsShecEntry k m c r i (get_or row i 0)) → IsShecEntry k m c r j e
    → (i : ℕ) → i < j + 1 → IsShecEntry k m c r i (get_or (set row j e) i 0)
one_more k m c r row j e inside before at i lt = elim (before_or_at i j lt) [
  | inl less ↦
      let P : ℕ → Type 0 = λ t. IsShecEntry k m c r i t in
      subst P (sym (get_or-set_other row j i e 0 (λ same. omega (arith, less, same)))) (before i less)
  | inr same ↦ let P : ℕ → Type 0 = λ t. IsShecEntry k m c r t (get_or (set row j e) t 0) in
      let Q : ℕ → Type 0 = λ t. IsShecEntry k m c r j t in
      subst P (sym same) (subst Q (sym (get_or-set_same row j e 0 inside)) at)
]

pub small_of : (one other more : Type 0) → one ⊎ (more × other) → one ⊎ other
small_of one other more (inl is) = inl is
small_of one other more (inr is) = inr is.1

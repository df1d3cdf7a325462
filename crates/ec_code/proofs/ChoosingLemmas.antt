-- The rows of a set of positions, one position after another.
use Rattle.std.proofs.Common.{◌≡◌, ◌≢◌, ℕ, ◌+◌, ◌<◌, ap, sym, subst, ◌∙◌, arith, inl, inr}
use Rattle.std.proofs.lemmas.Bool.{cases_eq}
use Rattle.ec_model.specs.Rows.{entry_at}
use Rattle.ec_model.specs.Codes.{CodeRows, HasPosition}
use Rattle.ec_matrix.specs.Matrix.{Matrix, HasSize}
use Rattle.ec_code.specs.Choosing.{ChoosesBelow}

below : (k i : ℕ) → k < i + 1 → (k ≡ i → ⊥) → k < i
below k i lt ne = grind arith

pub chosen_at_first : (code : CodeRows) (from : ℕ) (m : Matrix) → HasSize m code.n code.k → ((r c : ℕ) → entry_at m.rows r c ≡ 0) → ChoosesBelow code from 0 m
chosen_at_first code from m size zeros = record {
  size = size;
  inside = λ q j lt _ _. absurd (omega arith);
  outside = λ q j _. zeros q j;
  above = λ q j _. zeros q j;
}

pub chosen_with : (code : CodeRows) (from n : ℕ) (old new : Matrix) → HasPosition from n → ChoosesBelow code from n old → HasSize new code.n code.k
    → ((j : ℕ) → j < code.k → entry_at new.rows n j ≡ entry_at code.rows n j) → ((i j : ℕ) → i ≢ n → entry_at new.rows i j ≡ entry_at old.rows i j)
    → ChoosesBelow code from (n + 1) new
chosen_with code from n old new bit h size value others = record {
  size = size;
  inside = λ q j lt lj b. elim (cases_eq q n) [
    | inl e ↦ ap (λ t. entry_at new.rows t j) e ∙ value j lj ∙ sym (ap (λ t. entry_at code.rows t j) e)
    | inr ne ↦ others q j ne ∙ h.inside q j (below q n lt ne) lj b
  ];
  outside = λ q j out. elim (cases_eq q n) [
    | inl e ↦ absurd (out (subst (λ t. HasPosition from t) (sym e) bit))
    | inr ne ↦ others q j ne ∙ h.outside q j out
  ];
  above = λ q j le. others q j (λ e. omega arith) ∙ h.above q j (omega arith);
}

pub chosen_without : (code : CodeRows) (from n : ℕ) (m : Matrix) → (HasPosition from n → ⊥) → ChoosesBelow code from n m → ChoosesBelow code from (n + 1) m
chosen_without code from n m out h = record {
  size = h.size;
  inside = λ q j lt lj b. elim (cases_eq q n) [
    | inl e ↦ absurd (out (subst (λ t. HasPosition from t) e b))
    | inr ne ↦ h.inside q j (below q n lt ne) lj b
  ];
  outside = h.outside;
  above = λ q j le. h.above q j (omega arith);
}

-- Which intervals are kept, by their places.
use Rattle.std.proofs.Common.{◌≡◌, ◌≤◌, ℕ, zero, suc, Bool, true, false, cond, List, [], ◌∷◌, slice_get, Some, refl, sym, ap, subst, ◌∙◌, arith}
use Rattle.std.specs.Prelude.{filter, nat_le}
use Rattle.std.proofs.lemmas.Bool.{false≢true, cond-true, cond-false}
use Rattle.std.proofs.lemmas.Bool.Decides.{nat_tests}
use Rattle.ec_words.specs.Intervals.{Interval}
use Rattle.map_model.specs.Laws.{KeptByPlaces}
use Rattle.map_model.specs.States.{MapState, kept}
use Rattle.map_model.proofs.LastLemmas.{none_some, some_same}

module _ {A : Type 0} (test : A → Bool) where
  -- an element passes, and is one of a list
  IsIn : List A → A → Type 0
  IsIn xs y = (test y ≡ true) × ((j : ℕ) × (slice_get xs j ≡ Some y))

  later : (x : A) (xs : List A) (y : A) → IsIn xs y → IsIn (x ∷ xs) y
  unfolding IsIn
  later x xs y is = (is.0, (suc is.1.0, is.1.1))

  first_or : (x : A) (xs filtered : List A) (y : A) → test x ≡ true → ((i : ℕ) → slice_get filtered i ≡ Some y → IsIn xs y)
      → (i : ℕ) → slice_get (x ∷ filtered) i ≡ Some y → IsIn (x ∷ xs) y
  unfolding IsIn
  first_or x xs filtered y is rest zero e = (subst (λ z. test z ≡ true) (some_same x y e) is, (0, e))
  first_or x xs filtered y is rest (suc i) e = later x xs y (rest i e)

  some_in : (xs : List A) (i : ℕ) (y : A) → slice_get (filter test xs) i ≡ Some y → IsIn xs y
  some_in [] i y e = absurd (none_some y e)
  some_in (x ∷ xs) i y e =
      let rest : (k : ℕ) → slice_get (filter test xs) k ≡ Some y → IsIn xs y = λ k e. some_in xs k y e in
      elim (test x) as (λ b. test x ≡ b → slice_get (cond b (x ∷ filter test xs) (filter test xs)) i ≡ Some y → IsIn (x ∷ xs) y) [
        | true ↦ λ is e. first_or x xs (filter test xs) y is rest i e
        | false ↦ λ is e. later x xs y (rest i e)
      ] refl e

  -- an element of a filtered list passes, and is one of the list
  pub filtered : (xs : List A) (i : ℕ) (y : A) → slice_get (filter test xs) i ≡ Some y → (test y ≡ true) × ((j : ℕ) × (slice_get xs j ≡ Some y))
  unfolding IsIn
  filtered xs i y e = some_in xs i y e

  -- an element that passes is one of the filtered list
  pub passed : (xs : List A) (j : ℕ) (y : A) → slice_get xs j ≡ Some y → test y ≡ true → (i : ℕ) × (slice_get (filter test xs) i ≡ Some y)
  passed [] j y e pass = absurd (none_some y e)
  passed (x ∷ xs) zero y e pass = (0, ap (λ l. slice_get l 0) (cond-true _ _ _ (subst (λ z. test z ≡ true) (sym (some_same x y e)) pass)) ∙ e)
  passed (x ∷ xs) (suc j) y e pass =
      let more = passed xs j y e pass in
      elim (test x) as (λ b. test x ≡ b → (i : ℕ) × (slice_get (cond b (x ∷ filter test xs) (filter test xs)) i ≡ Some y)) [
        | true ↦ λ is. (suc more.0, more.1)
        | false ↦ λ is. more
      ] refl

  -- if all pass nothing is left out
  pub all_pass : (xs : List A) → ((i : ℕ) (x : A) → slice_get xs i ≡ Some x → test x ≡ true) → filter test xs ≡ xs
  all_pass [] each = refl
  all_pass (x ∷ xs) each = cond-true _ _ _ (each 0 x refl) ∙ ap (λ (l : List A). x ∷ l) (all_pass xs (λ i y e. each (suc i) y e))

passes : (clean epoch : ℕ) → clean ≤ epoch → nat_le clean epoch ≡ true
passes clean epoch le = grind (arith, nat_tests, le)

passing : (clean epoch : ℕ) → nat_le clean epoch ≡ true → clean ≤ epoch
passing clean epoch le = grind (arith, nat_tests, le)

pub kept_by : (state : MapState) (interval : Interval) → KeptByPlaces state interval
kept_by state interval = record {
  from = λ i e. let is = filtered (λ (x : Interval). nat_le state.clean x.epoch) state.intervals i interval e in (passing state.clean interval.epoch is.0, is.1);
  to = λ j e late. passed (λ (x : Interval). nat_le state.clean x.epoch) state.intervals j interval e (passes state.clean interval.epoch late);
}

-- What went alive among the intervals that are kept.
use Rattle.std.proofs.Common.{◌≡◌, ◌↔◌, ◌≤◌, nat_le, ℕ, zero, suc, Bool, true, false, List, [], ◌∷◌, slice_get, Option, Some, None, refl, sym, ap, ◌∙◌, subst, arith}
use Rattle.std.specs.Prelude.{filter}
use Rattle.std.proofs.lemmas.Bool.{cond-true, cond-false, false≢true}
use Rattle.std.proofs.lemmas.Bool.Decides.{nat_tests}
use Rattle.ec_model.specs.Versions.{Version}
use Rattle.ec_words.specs.Intervals.{Interval}
use Rattle.auth_log.specs.Choice.{WentAlive}

some_same : {A : Type 0} (a b : A) → ◌≡◌ {A = Option A} (Some a) (Some b) → a ≡ b
some_same {A} a b e = cc

none_some : {A : Type 0} (a : A) → ◌≡◌ {A = Option A} None (Some a) → ⊥
none_some {A} a e = cc

-- an element of a list, by its place
record IsThere {A : Type 0} (xs : List A) (x : A) : Type 0 where
  place : ℕ
  there : slice_get xs place ≡ Some x

behind : {A : Type 0} (y x : A) (xs : List A) → IsThere xs x → IsThere (y ∷ xs) x
behind {A} y x xs t = record { place = suc t.place; there = t.there }

-- one that passes a test is among those that do
kept_there : {A : Type 0} (test : A → Bool) (xs : List A) (i : ℕ) (x : A) → slice_get xs i ≡ Some x → test x ≡ true → IsThere (filter test xs) x
kept_there {A} test [] i x e pass = absurd (none_some x e)
kept_there {A} test (y ∷ xs) zero x e pass =
    subst (λ (l : List A). IsThere l x) (sym (cond-true _ _ _ (ap test (some_same y x e) ∙ pass))) (record { place = 0; there = e })
kept_there {A} test (y ∷ xs) (suc i) x e pass = by_first (kept_there test xs i x e pass) (test y) refl
  where
    by_first : IsThere (filter test xs) x → (b : Bool) → test y ≡ b → IsThere (filter test (y ∷ xs)) x
    by_first rest true is = subst (λ (l : List A). IsThere l x) (sym (cond-true _ _ _ is)) (behind y x (filter test xs) rest)
    by_first rest false is = subst (λ (l : List A). IsThere l x) (sym (cond-false _ _ _ is)) rest

-- one of those is in the list, and passes
record Passes {A : Type 0} (test : A → Bool) (xs : List A) (x : A) : Type 0 where
  is_there : IsThere xs x
  pass : test x ≡ true

kept_back : {A : Type 0} (test : A → Bool) (xs : List A) (i : ℕ) (x : A) → slice_get (filter test xs) i ≡ Some x → Passes test xs x
kept_back {A} test [] i x e = absurd (none_some x e)
kept_back {A} test (y ∷ xs) i x e = by_first (λ k f. kept_back test xs k x f) (test y) refl
  where
    later : Passes test xs x → Passes test (y ∷ xs) x
    later p = record { is_there = behind y x xs p.is_there; pass = p.pass }

    first : (j : ℕ) → test y ≡ true → slice_get (y ∷ filter test xs) j ≡ Some x → ((k : ℕ) → slice_get (filter test xs) k ≡ Some x → Passes test xs x) → Passes test (y ∷ xs) x
    first zero is f rest = record { is_there = record { place = 0; there = f }; pass = subst (λ (z : A). test z ≡ true) (some_same y x f) is }
    first (suc j) is f rest = later (rest j f)

    by_first : ((k : ℕ) → slice_get (filter test xs) k ≡ Some x → Passes test xs x) → (b : Bool) → test y ≡ b → Passes test (y ∷ xs) x
    by_first rest true is = first i is (subst (λ (l : List A). slice_get l i ≡ Some x) (cond-true _ _ _ is) e) rest
    by_first rest false is = later (rest i (subst (λ (l : List A). slice_get l i ≡ Some x) (cond-false _ _ _ is) e))

abbrev from_on : ℕ → Interval → Bool
from_on clean interval = nat_le clean interval.epoch

pub alive_among : (intervals : List Interval) (clean epoch joined : ℕ) (base : Version)
    → WentAlive (filter (λ i. nat_le clean i.epoch) intervals) epoch joined base ↔ (WentAlive intervals epoch joined base × (clean ≤ epoch))
alive_among intervals clean epoch joined base = (
  λ w.
      let p = kept_back (from_on clean) intervals w.place w.interval w.there in
      let pass = p.pass in
      let late : clean ≤ w.interval.epoch = grind (arith, nat_tests, pass) in (
        record { place = p.is_there.place; interval = w.interval; there = p.is_there.there; dated = w.dated; alive = w.alive },
        omega (arith, late, w.dated),
      ),
  λ both.
      let w = both.0 in
      let late : clean ≤ w.interval.epoch = omega (arith, both.1, w.dated) in
      let pass : from_on clean w.interval ≡ true = grind (arith, nat_tests, late) in
      let t = kept_there (from_on clean) intervals w.place w.interval w.there pass in
      record { place = t.place; interval = w.interval; there = t.there; dated = w.dated; alive = w.alive },
)

-- Intervals of a map after a step.
use Rattle.std.proofs.Common.{◌≡◌, ◌⊎◌, inl, inr, ℕ, zero, suc, List, [], ◌∷◌, ◌++◌, slice_get, Some, None, sym, ap, ◌∙◌}
use Rattle.ec_model.specs.Versions.{Version}
use Rattle.ec_words.specs.Intervals.{Interval, went_alive, with_last_alive}
use Rattle.map_model.specs.States.{last_of}
use Rattle.auth_log.specs.Choice.{WentAlive}
use Rattle.map_model.proofs.LastLemmas.{some_same, none_some}

-- ---- an interval begins

pushed_there : {A : Type 0} (xs : List A) (y x : A) (i : ℕ) → slice_get xs i ≡ Some x → slice_get (xs ++ y ∷ []) i ≡ Some x
pushed_there [] y x i e = absurd (none_some x e)
pushed_there (z ∷ xs) y x zero e = e
pushed_there (z ∷ xs) y x (suc i) e = pushed_there xs y x i e

pushed_back : {A : Type 0} (xs : List A) (y x : A) (i : ℕ) → slice_get (xs ++ y ∷ []) i ≡ Some x → (slice_get xs i ≡ Some x) ⊎ (y ≡ x)
pushed_back [] y x zero e = inr (some_same y x e)
pushed_back [] y x (suc i) e = absurd (none_some x e)
pushed_back (z ∷ xs) y x zero e = inl e
pushed_back (z ∷ xs) y x (suc i) e = pushed_back xs y x i e

pub alive_pushed : (intervals : List Interval) (new : Interval) (epoch joined : ℕ) (base : Version) → WentAlive intervals epoch joined base
    → WentAlive (intervals ++ new ∷ []) epoch joined base
alive_pushed intervals new epoch joined base a =
    record { place = a.place; interval = a.interval; there = pushed_there intervals new a.interval a.place a.there; dated = a.dated; alive = a.alive }

pub pushed_alive : (intervals : List Interval) (new : Interval) → new.alive ≡ None → (epoch joined : ℕ) (base : Version)
    → WentAlive (intervals ++ new ∷ []) epoch joined base → WentAlive intervals epoch joined base
pushed_alive intervals new fresh epoch joined base a = elim (pushed_back intervals new a.interval a.place a.there) [
  | inl there ↦ record { place = a.place; interval = a.interval; there = there; dated = a.dated; alive = a.alive }
  | inr same ↦ absurd (none_some (joined, base) (sym fresh ∙ ap (λ i. i.alive) same ∙ a.alive))
]

-- ---- it goes alive

alive_there : (joined : ℕ) (base : Version) (intervals : List Interval) (last x : Interval) (i : ℕ) (a : ℕ × Version) → last_of intervals ≡ Some last
    → last.alive ≡ None → slice_get intervals i ≡ Some x → x.alive ≡ Some a → slice_get (with_last_alive joined base intervals) i ≡ Some x
unfolding last_of with_last_alive
alive_there joined base [] last x i a is fresh there alive = absurd (none_some x there)
alive_there joined base (y ∷ []) last x zero a is fresh there alive =
    absurd (none_some a (sym fresh ∙ ap (λ j. j.alive) (some_same last x (sym is ∙ there)) ∙ alive))
alive_there joined base (y ∷ []) last x (suc i) a is fresh there alive = absurd (none_some x there)
alive_there joined base (y ∷ (z ∷ rest)) last x zero a is fresh there alive = there
alive_there joined base (y ∷ (z ∷ rest)) last x (suc i) a is fresh there alive = alive_there joined base (z ∷ rest) last x i a is fresh there alive

alive_back : (joined : ℕ) (base : Version) (intervals : List Interval) (last x : Interval) (i : ℕ) → last_of intervals ≡ Some last
    → slice_get (with_last_alive joined base intervals) i ≡ Some x → (slice_get intervals i ≡ Some x) ⊎ (went_alive joined base last ≡ x)
unfolding last_of with_last_alive
alive_back joined base [] last x i is there = absurd (none_some x there)
alive_back joined base (y ∷ []) last x zero is there =
    inr (ap (went_alive joined base) (sym (some_same y last is)) ∙ some_same (went_alive joined base y) x there)
alive_back joined base (y ∷ []) last x (suc i) is there = absurd (none_some x there)
alive_back joined base (y ∷ (z ∷ rest)) last x zero is there = inl there
alive_back joined base (y ∷ (z ∷ rest)) last x (suc i) is there = alive_back joined base (z ∷ rest) last x i is there

pub alive_stays : (intervals : List Interval) (own : ℕ) (new : Version) (last : Interval) → last_of intervals ≡ Some last → last.alive ≡ None
    → (epoch joined : ℕ) (base : Version) → WentAlive intervals epoch joined base → WentAlive (with_last_alive own new intervals) epoch joined base
alive_stays intervals own new last is fresh epoch joined base a =
    record { place = a.place; interval = a.interval; there = alive_there own new intervals last a.interval a.place (joined, base) is fresh a.there a.alive; dated = a.dated; alive = a.alive }

-- the interval that went alive
pub record IsNew (own_epoch own : ℕ) (new : Version) (epoch joined : ℕ) (base : Version) : Type 0 where
  pub dated : own_epoch ≡ epoch
  pub members : own ≡ joined
  pub based : new ≡ base

pub alive_or_new : (intervals : List Interval) (own : ℕ) (new : Version) (last : Interval) → last_of intervals ≡ Some last
    → (epoch joined : ℕ) (base : Version) → WentAlive (with_last_alive own new intervals) epoch joined base
    → WentAlive intervals epoch joined base ⊎ IsNew last.epoch own new epoch joined base
alive_or_new intervals own new last is epoch joined base a = elim (alive_back own new intervals last a.interval a.place is a.there) [
  | inl there ↦ inl (record { place = a.place; interval = a.interval; there = there; dated = a.dated; alive = a.alive })
  | inr same ↦
      let pair : (own, new) ≡ (joined, base) = some_same (own, new) (joined, base) (ap (λ j. j.alive) same ∙ a.alive) in
      inr (record { dated = ap (λ j. j.epoch) same ∙ a.dated; members = ap (λ q. q.0) pair; based = ap (λ q. q.1) pair })
]

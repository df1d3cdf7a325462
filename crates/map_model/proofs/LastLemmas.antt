-- The last of some intervals.
use Rattle.std.proofs.Common.{◌≡◌, ℕ, zero, suc, ◌+◌, ◌-◌, List, [], ◌∷◌, ◌++◌, length, slice_get, Option, Some, None, refl, sym, ap, ◌∙◌, arith}
use Rattle.ec_model.specs.Versions.{Version}
use Rattle.ec_words.specs.Intervals.{Interval, went_alive, with_last_alive}
use Rattle.map_model.specs.States.{last_of}

pub some_same : {A : Type 0} (a b : A) → ◌≡◌ {A = Option A} (Some a) (Some b) → a ≡ b
some_same {A} a b e = cc

pub none_some : {A : Type 0} (a : A) → ◌≡◌ {A = Option A} None (Some a) → ⊥
none_some {A} a e = cc

-- the last of some intervals is the one at the last place
last_at : (intervals : List Interval) (i : ℕ) → length intervals ≡ i + 1 → last_of intervals ≡ slice_get intervals i
unfolding last_of
last_at [] i long = absurd (omega (arith, long))
last_at (last ∷ []) zero long = refl
last_at (last ∷ []) (suc i) long = absurd (omega (arith, long))
last_at (interval ∷ (next ∷ rest)) zero long = absurd (omega (arith, long))
last_at (interval ∷ (next ∷ rest)) (suc i) long = last_at (next ∷ rest) i (omega (arith, long))

pub last_is : (intervals : List Interval) → last_of intervals ≡ slice_get intervals (length intervals - 1)
unfolding last_of
last_is [] = refl
last_is (interval ∷ rest) = last_at (interval ∷ rest) (length (interval ∷ rest) - 1) (omega arith)

-- the last of a list with one more is that one
pub last_pushed : (intervals : List Interval) (last : Interval) → last_of (intervals ++ last ∷ []) ≡ Some last
unfolding last_of
last_pushed [] last = refl
last_pushed (x ∷ []) last = refl
last_pushed (x ∷ (y ∷ rest)) last = last_pushed (y ∷ rest) last

-- the last interval by its place, and that of a list in which it went alive
pub record IsLast (intervals : List Interval) (last : Interval) : Type 0 where
  pub before : ℕ
  pub long : length intervals ≡ before + 1
  pub there : slice_get intervals before ≡ Some last

pub last_place : (intervals : List Interval) (last : Interval) → last_of intervals ≡ Some last → IsLast intervals last
unfolding last_of
last_place [] last is = absurd (none_some last is)
last_place (x ∷ []) last is = record { before = 0; long = omega arith; there = is }
last_place (x ∷ (y ∷ rest)) last is =
    let next = last_place (y ∷ rest) last is in
    record { before = suc next.before; long = omega (arith, next.long); there = next.there }

pub last_alive : (joined : ℕ) (base : Version) (intervals : List Interval) (last : Interval) → last_of intervals ≡ Some last
    → last_of (with_last_alive joined base intervals) ≡ Some (went_alive joined base last)
unfolding last_of with_last_alive
last_alive joined base [] last is = absurd (none_some last is)
last_alive joined base (x ∷ []) last is = ap (λ (i : Interval). Some (went_alive joined base i)) (some_same x last is)
last_alive joined base (x ∷ (y ∷ [])) last is = last_alive joined base (y ∷ []) last is
last_alive joined base (x ∷ (y ∷ (z ∷ rest))) last is = last_alive joined base (y ∷ (z ∷ rest)) last is

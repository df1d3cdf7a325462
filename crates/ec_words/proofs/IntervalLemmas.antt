-- Lemmas on intervals.
use Rattle.std.proofs.Common.{◌≡◌, ℕ, zero, suc, ◌+◌, ◌-◌, ◌<◌, List, [], ◌∷◌, length, get_or, slice_set, refl, ap, ◌∙◌, arith}
use Rattle.ec_model.specs.Versions.{Version}
use Rattle.ec_words.specs.Intervals.{Interval, went_alive, with_last_alive}

-- the last of some intervals is set at its place
pub last_is_set : (joined : ℕ) (base : Version) (intervals : List Interval) (other : Interval) (i : ℕ) → length intervals ≡ i + 1
    → slice_set intervals i (went_alive joined base (get_or intervals i other)) ≡ with_last_alive joined base intervals
unfolding with_last_alive
last_is_set joined base [] other i long = absurd (omega (arith, long))
last_is_set joined base (last ∷ []) other zero long = refl
last_is_set joined base (last ∷ []) other (suc i) long = absurd (omega (arith, long))
last_is_set joined base (interval ∷ (next ∷ rest)) other zero long = absurd (omega (arith, long))
last_is_set joined base (interval ∷ (next ∷ rest)) other (suc i) long =
    ap (λ xs. interval ∷ xs) (last_is_set joined base (next ∷ rest) other i (omega (arith, long)))

-- of no intervals none is set
pub none_is_set : (joined : ℕ) (base : Version) (intervals : List Interval) → (0 < length intervals → ⊥) → intervals ≡ with_last_alive joined base intervals
unfolding with_last_alive
none_is_set joined base [] none = refl
none_is_set joined base (interval ∷ rest) none = absurd (none (omega arith))

-- the last of some intervals is changed at its place
pub last_is_changed : (joined : ℕ) (base : Version) (intervals : List Interval) (last : Interval) (count : ℕ) → count ≡ length intervals
    → 0 < count → last ≡ get_or intervals (count - 1) last
    → slice_set intervals (count - 1) (went_alive joined base last) ≡ with_last_alive joined base intervals
last_is_changed joined base intervals last count long some is =
    ap (λ i. slice_set intervals (count - 1) (went_alive joined base i)) is
    ∙ last_is_set joined base intervals last (count - 1) (omega (arith, some, long))

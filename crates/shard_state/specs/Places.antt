-- A map with places that may be empty, and what lies in them. Source: this project.
use Rattle.std.specs.Prelude.{◌≡◌, ℕ, List, [], ◌∷◌, Option, Some, None, is_some, IsSome, true, false}
use Rattle.std.specs.Ordering.{nat_cmp, eq_by_cmp}
use Rattle.std.specs.Cmp.Lexicographic.{slice_cmp}
use Rattle.std.specs.FinMap as fin
use Rattle.shard_model.specs.Objects.{Named, put}

-- what lies in a place that may not be there
abbrev pub joined : {X : Type 0} → Option (Option X) → Option X
joined None = None
joined (Some x) = x

abbrev pub filled : {X : Type 0} → List (List ℕ × Option X) → Named X
filled [] = fin.empty
filled (e ∷ es) = put (filled es) e.0 e.1

-- what lies in the places
abbrev pub inside : {X : Type 0} → Named (Option X) → Named X
inside m = filled (fin.entries m)

-- a name has a place now; each place stays, and what lies in them too
pub record HasMade {X : Type 0} (name : List ℕ) (old new : Named (Option X)) : Type 0 where
  pub there : IsSome (fin.get new name)
  pub same : inside new ≡ inside old
  pub stays : (q : List ℕ) → is_some (fin.get old q) ≡ true → is_some (fin.get new q) ≡ true

-- each place stays but that of a name
abbrev pub IsSwept : {X : Type 0} → List ℕ → Named (Option X) → Named (Option X) → Type 0
IsSwept name old new = (q : List ℕ) → eq_by_cmp (slice_cmp nat_cmp) q name ≡ false → is_some (fin.get old q) ≡ true → is_some (fin.get new q) ≡ true

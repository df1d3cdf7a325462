-- The number of objects and what they take, as it is kept beside them. Source: this project.
use Rattle.std.specs.Prelude.{◌≡◌, ◌-◌, ◌^◌, ℕ, List, [], ◌∷◌, min, Option, Some, None}
use Rattle.std.specs.Ordering.{nat_cmp}
use Rattle.std.specs.Cmp.Lexicographic.{slice_cmp}
use Rattle.std.specs.List.{sum_by}
use Rattle.std.specs.List.Sorted.{IsStrictlySortedBy}
use Rattle.std.specs.Map.{keys_of, values_of}
use Rattle.std.specs.declared.ops.Bound.{Bound}
use Rattle.std.specs.declared.ops.Bound.TheVariants.{Excluded, Unbounded}
use Rattle.shard_model.specs.Objects.{ShardObject}
use Rattle.shard_model.specs.Listings.{object_usage}

-- the largest number of a word
abbrev pub most : ℕ
most = 2 ^ 64 - 1

abbrev pub one : Option ShardObject → ℕ
one None = 0
one (Some o) = 1

-- what an object takes, as far as a word tells
abbrev pub load : Option ShardObject → ℕ
load None = 0
load (Some o) = min (object_usage o) most

-- places in the order of their names, the number of those that are filled, and the sum of what lies in them
pub record AreTotals (places : List (List ℕ × Option ShardObject)) (n total : ℕ) : Type 0 where
  pub ordered : IsStrictlySortedBy (slice_cmp nat_cmp) (keys_of places)
  pub count : n ≡ sum_by one (values_of places)
  pub used : total ≡ sum_by load (values_of places)

-- the place at which the names after one begin
abbrev pub start_after : Option (List ℕ) → Bound (List ℕ)
start_after None = Unbounded
start_after (Some name) = Excluded name

-- the places that are not empty, with what lies in them
abbrev pub full : List (List ℕ × Option ShardObject) → List (List ℕ × ShardObject)
full [] = []
full ((name, None) ∷ places) = full places
full ((name, Some o) ∷ places) = (name, o) ∷ full places

-- Names in their order, and what objects take. Source: this project.
use Rattle.std.specs.Prelude.{ℕ, ◌+◌, List, length, slice_get, Option, Some, None}
use Rattle.std.specs.Ordering.{nat_cmp, is_lt}
use Rattle.std.specs.Cmp.Lexicographic.{slice_cmp}
use Rattle.std.specs.List.{filter, sum_by}
use Rattle.std.specs.FinMap as map
use Rattle.shard_model.specs.Objects.{ShardObject, ShardObjects, Named}

-- the names that come after one, in ascending order; or all names
abbrev pub names_after : {X : Type 0} → Named X → Option (List ℕ) → List (List ℕ)
names_after m None = map.keys m
names_after m (Some name) = filter (λ other. is_lt (slice_cmp nat_cmp name other)) (map.keys m)

-- the least of them, if there is one
abbrev pub next_name : {X : Type 0} → Named X → Option (List ℕ) → Option (List ℕ)
next_name m name = slice_get (names_after m name) 0

-- an attribute takes the bytes of its name and of its value
abbrev pub attr_usage : List ℕ × List ℕ → ℕ
attr_usage attr = length attr.0 + length attr.1

-- an object takes its size, and its attributes
abbrev pub object_usage : ShardObject → ℕ
object_usage o = o.size + sum_by attr_usage (map.entries o.attrs)

-- what all of them take
abbrev pub usage : ShardObjects → ℕ
usage m = sum_by object_usage (map.values m)

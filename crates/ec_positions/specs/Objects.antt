-- The objects of a pool, and the room that they take. Source: Ceph developer guide, "Erasure Coded pool" (an object has bytes and
-- attributes, and no omap); the limits are this project's.
use Rattle.std.specs.Prelude.{ℕ, ◌+◌, ◌^◌, List, [], length, Option, Some, None}
use Rattle.std.specs.FinMap as map
use Rattle.std.specs.List.{sum_by}
use Rattle.shard_model.specs.Listings.{attr_usage}
use Rattle.shard_model.specs.Objects.{Named}

-- an object: its bytes, and the values of its attributes by name
pub record Object : Type 0 where
  pub bytes : List ℕ
  pub attrs : Named (List ℕ)

-- the objects by name, in the order of the names' bytes
abbrev pub Objects : Type 0
Objects = Named Object

-- the bytes and the attributes at a name: none if no object is there
abbrev pub bytes_in : Option Object → List ℕ
bytes_in None = []
bytes_in (Some object) = object.bytes

abbrev pub attrs_in : Option Object → Named (List ℕ)
attrs_in None = map.empty
attrs_in (Some object) = object.attrs

-- the most objects that a pool may have
abbrev pub max_objects : ℕ
max_objects = 65536

-- the most bytes that they may take in all
abbrev pub max_usage : ℕ
max_usage = 2 ^ 26

-- an object takes its bytes, and those of the names and values of its attributes
abbrev pub object_usage : Object → ℕ
object_usage object = length object.bytes + sum_by attr_usage (map.entries object.attrs)

-- all objects together
abbrev pub usage : Objects → ℕ
usage objects = sum_by object_usage (map.values objects)

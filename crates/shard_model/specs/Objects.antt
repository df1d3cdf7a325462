-- The objects of a shard. Source: Ceph developer guide, "Erasure Coded pool" (a shard holds one position's chunks of an
-- object, with the object's size and attributes).
use Rattle.std.specs.Prelude.{◌≡◌, ◌≤◌, ℕ, List, length, Option, Some, None, refl}
use Rattle.std.specs.Ordering.{nat_cmp}
use Rattle.std.specs.Cmp.Lexicographic.{slice_cmp}
use Rattle.std.specs.Coded.{Coded, code_by, coded×, coded_ℕ, coded_list}
use Rattle.std.specs.FinMap as map
use Rattle.ec_model.specs.Stripes as stripes
use Rattle.shard_model.specs.Limits.{max_size, max_value, max_attrs}

-- values by name, in the order of the names' bytes
abbrev pub Named : Type 0 → Type 0
Named X = map.FinMap (slice_cmp nat_cmp) X

-- what a shard holds of an object: the bytes of its position, the size of the whole object, the values of its attributes
pub record ShardObject : Type 0 where
  pub bytes : List ℕ
  pub size : ℕ
  pub attrs : Named (List ℕ)

-- a shard's object is stored as these three
abbrev pub shard_object_code : Coded ShardObject
shard_object_code =
    code_by (List ℕ × (ℕ × Named (List ℕ)))
    (coded× (coded_list coded_ℕ) (coded× coded_ℕ (map.code {R = slice_cmp nat_cmp} (coded_list coded_ℕ) (coded_list coded_ℕ))))
    (λ o. (o.bytes, (o.size, o.attrs))) (λ p. record { bytes = p.0; size = p.1.0; attrs = p.1.1 }) (λ _. refl)

abbrev pub ShardObjects : Type 0
ShardObjects = Named ShardObject

-- at this name the map has x from now on, or nothing
abbrev pub put : {X : Type 0} → Named X → List ℕ → Option X → Named X
put m name None = map.remove m name
put m name (Some x) = map.insert m name x

-- data chunks in a stripe, and bytes in a chunk of it
pub record Geometry : Type 0 where
  pub k : ℕ
  pub unit : ℕ

-- the bytes of one position of an object with `size` bytes
abbrev pub shard_len : Geometry → ℕ → ℕ
shard_len g size = stripes.shard_len g.k g.unit size

-- no value of an attribute is too long
abbrev pub AreShort : Named (List ℕ) → Type 0
AreShort attrs = (attr value : List ℕ) → map.get attrs attr ≡ Some value → length value ≤ max_value

-- an object is not too large, has as many bytes as its size asks for, and no more and no longer attributes than it may
pub record IsHeld (g : Geometry) (o : ShardObject) : Type 0 where
  pub small : o.size ≤ max_size
  pub sized : length o.bytes ≡ shard_len g o.size
  pub few : map.len o.attrs ≤ max_attrs
  pub short : AreShort o.attrs

-- what is at a name, if anything
abbrev pub MayBeHeld : Geometry → Option ShardObject → Type 0
MayBeHeld g None = Unit {0}
MayBeHeld g (Some o) = IsHeld g o

-- each object
abbrev pub AreHeld : Geometry → ShardObjects → Type 0
AreHeld g m = (name : List ℕ) → MayBeHeld g (map.get m name)

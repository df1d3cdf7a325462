-- What an entry does to the object of its name, and what takes it back. Source: Ceph developer guide, "Erasure Coded pool"
-- (an entry is undone by the old size, the old attribute, a kept generation of the object or saved extents).
-- A further kind is a constructor, and a case of each function that looks at it: `git grep` for a constructor finds them.
use Rattle.std.specs.Prelude.{ℕ, ◌+◌, ◌-◌, ◌%◌, Bool, false, ◌&&◌, ◌||◌, nat_lt, nat_le, ◌==◌, List, [], ◌++◌, length, take, drop, replicate, Option, Some, None, is_some}
use Rattle.std.specs.FinMap as map
use Rattle.shard_model.specs.Limits.{max_size, max_value, max_attrs}
use Rattle.shard_model.specs.Objects.{ShardObject, Geometry, Named, put, shard_len}

-- `size` is the object's size from then on, `at` the place of the bytes in the shard's
pub data Change : Type 0 where
  Write : (fresh size at : ℕ) (bytes : List ℕ) → Change
  Replace : (size : ℕ) (bytes : List ℕ) → Change
  Remove : Change
  SetAttr : (attr value : List ℕ) → Change
  RemoveAttr : (attr : List ℕ) → Change

-- what the log says of a change; a checkpointed entry's is not told any more
pub data Kind : Type 0 where
  OfWrite OfReplace OfRemove OfSetAttr OfRemoveAttr OfPast : Kind

abbrev pub kind_of : Change → Kind
kind_of (Write fresh size at bytes) = OfWrite
kind_of (Replace size bytes) = OfReplace
kind_of Remove = OfRemove
kind_of (SetAttr attr value) = OfSetAttr
kind_of (RemoveAttr attr) = OfRemoveAttr

-- what takes a change back: nothing was there; the old size and the old bytes of a range; the object as it was; an
-- attribute's old value; or it is settled, and nothing takes it back
pub data Undo : Type 0 where
  Fresh : Undo
  Extent : (size at : ℕ) (before : List ℕ) → Undo
  Kept : (before : ShardObject) → Undo
  Attr : (attr : List ℕ) (before : Option (List ℕ)) → Undo
  Settled : Undo

-- n bytes: cut off, or filled up with zeros
abbrev pub resized : ℕ → List ℕ → List ℕ
resized n bytes = take n bytes ++ replicate (n - length bytes) 0

-- some bytes in the place of those from `at` on
abbrev pub written : ℕ → List ℕ → List ℕ → List ℕ
written at some bytes = take at bytes ++ some ++ drop (at + length some) bytes

abbrev pub bytes_of : Option ShardObject → List ℕ
bytes_of None = []
bytes_of (Some o) = o.bytes

abbrev pub attrs_of : Option ShardObject → Named (List ℕ)
attrs_of None = map.empty
attrs_of (Some o) = o.attrs

-- size, place and length of a write: whole units inside the shard's bytes
abbrev pub fits_extent : Geometry → ℕ → ℕ → ℕ → Bool
fits_extent g size at len =
    nat_le size max_size && (at % g.unit == 0 && (len % g.unit == 0 && nat_le (at + len) (shard_len g size)))

-- the change may be made to the object, or without one
abbrev pub fits_change : Geometry → Change → Option ShardObject → Bool
fits_change g (Write fresh size at bytes) None = fresh == 1 && fits_extent g size at (length bytes)
fits_change g (Write fresh size at bytes) (Some o) =
    fresh == 0 && (nat_le o.size size && fits_extent g size at (length bytes))
fits_change g (Replace size bytes) o = nat_le size max_size && length bytes == shard_len g size
fits_change g Remove o = is_some o
fits_change g (SetAttr attr value) None = false
fits_change g (SetAttr attr value) (Some o) =
    nat_le (length value) max_value && (is_some (map.get o.attrs attr) || nat_lt (map.len o.attrs) max_attrs)
fits_change g (RemoveAttr attr) None = false
fits_change g (RemoveAttr attr) (Some o) = is_some (map.get o.attrs attr)

-- the object after the change
abbrev pub changed : Geometry → Change → Option ShardObject → Option ShardObject
changed g (Write fresh size at bytes) o =
    Some (record { bytes = written at bytes (resized (shard_len g size) (bytes_of o)); size = size; attrs = attrs_of o })
changed g (Replace size bytes) o = Some (record { bytes = bytes; size = size; attrs = attrs_of o })
changed g Remove o = None
changed g (SetAttr attr value) None = None
changed g (SetAttr attr value) (Some o) =
    Some (record { bytes = o.bytes; size = o.size; attrs = put o.attrs attr (Some value) })
changed g (RemoveAttr attr) None = None
changed g (RemoveAttr attr) (Some o) =
    Some (record { bytes = o.bytes; size = o.size; attrs = put o.attrs attr None })

-- what is kept of an object that is replaced or removed whole
abbrev pub whole_undo : Option ShardObject → Undo
whole_undo None = Fresh
whole_undo (Some o) = Kept o

-- what takes the change back, as the object before it tells
abbrev pub undo_of : Change → Option ShardObject → Undo
undo_of (Write fresh size at bytes) None = Fresh
undo_of (Write fresh size at bytes) (Some o) = Extent o.size at (take (length bytes) (drop at o.bytes))
undo_of (Replace size bytes) o = whole_undo o
undo_of Remove o = whole_undo o
undo_of (SetAttr attr value) o = Attr attr (map.get (attrs_of o) attr)
undo_of (RemoveAttr attr) o = Attr attr (map.get (attrs_of o) attr)

-- the object with a change taken back
abbrev pub restored : Geometry → Undo → Option ShardObject → Option ShardObject
restored g Fresh o = None
restored g (Extent size at before) None = None
restored g (Extent size at before) (Some o) =
    Some (record { bytes = written at before (resized (shard_len g size) o.bytes); size = size; attrs = o.attrs })
restored g (Kept before) o = Some before
restored g (Attr attr before) None = None
restored g (Attr attr before) (Some o) = Some (record { bytes = o.bytes; size = o.size; attrs = put o.attrs attr before })
restored g Settled o = o

-- Ranges of an object's bytes. Source: this project.
use Rattle.std.specs.Prelude.{◌≡◌, ◌<◌, ◌+◌, ◌++◌, ℕ, List, length, take, drop, nat_le, if◌then◌else◌, Bool, true, false, Option, Some, None}
use Rattle.std.specs.FinMap as map
use Rattle.rig_disk.specs.Disk.{Image}
use Rattle.shard_model.specs.Objects.{ShardObject}
use Rattle.shard_model.specs.Shards.{Shard}
use Rattle.shard_model.specs.Steps.{Step}
use Rattle.shard_store.specs.Stored.{told_in, IsStored}
use Rattle.shard_store.specs.Stories.{fresh_shard, shard_after}
use Rattle.shard_store.specs.declared.store.Store.{Store}

-- the bytes of an object, if there is one
abbrev pub bytes_in : Option ShardObject → Option (List ℕ)
bytes_in None = None
bytes_in (Some o) = Some o.bytes

-- the bytes of the object with a name in a shard, if there is one
abbrev pub shard_bytes : Shard → List ℕ → Option (List ℕ)
shard_bytes shard name = bytes_in (map.get shard.state.objects name)

-- the bytes of the object with a name in the shard of a store, if there is one
abbrev pub object_bytes : Option Store → List ℕ → Option (List ℕ)
object_bytes None name = None
object_bytes (Some store) name = shard_bytes store.story.shard name

-- there are not n bytes from a place on
abbrev pub LacksRange : Option (List ℕ) → ℕ → ℕ → Type 0
LacksRange None at n = Unit {0}
LacksRange (Some bytes) at n = length bytes < at + n

-- n bytes from a place on, if there are so many
abbrev pub range_of : Option (List ℕ) → ℕ → ℕ → Option (List ℕ)
range_of None at n = None
range_of (Some bytes) at n = if nat_le (at + n) (length bytes) then Some (take n (drop at bytes)) else None

-- a buffer was filled with such a range, or stayed as it was since there is no such range
abbrev pub IsRange : Option (List ℕ) → ℕ → List ℕ → List ℕ → Bool → Type 0
IsRange bytes at old new true = range_of bytes at (length old) ≡ Some new
IsRange bytes at old new false = (range_of bytes at (length old) ≡ None) × (new ≡ old)

-- these are the n bytes from a place on of an object, in the shard that the told steps lead to: those that the slot's text has,
-- and then the accepted ones that are in no record
abbrev pub IsToldRange : (ℕ → ℕ → Option (List ℕ)) → (Image → List ℕ → Type 0) → Option Store → List ℕ → ℕ → ℕ → List ℕ → Type 0
IsToldRange reads images None name at n bytes = ⊥
IsToldRange reads images (Some store) name at n bytes =
    (text : List ℕ) (flushed pending : List Step) → IsStored reads images store text flushed pending
    → range_of (shard_bytes (shard_after (fresh_shard (told_in store).geometry) (flushed ++ pending)) name) at n ≡ Some bytes

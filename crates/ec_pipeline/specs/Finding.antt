-- What the slots of a set tell of an object that is read. Source: this project.
use Rattle.std.specs.Prelude.{◌≡◌, ◌<◌, ℕ, List, Option, Some, None, Result, Ok, Err, IsSomeAnd}
use Rattle.std.specs.FinMap as fin
use Rattle.ec_model.specs.Codes.{HasPosition}
use Rattle.shard_model.specs.Shards.{Shard}
use Rattle.ec_model.specs.Stripes.{shard_len}
use Rattle.shard_store.specs.Ranges.{LacksRange, object_bytes}
use Rattle.shard_store.specs.Shelved.{Shelved}
use Rattle.shard_store.specs.Shelves.{store_at}
use Rattle.shard_store.specs.Stored.{told_in}
use Rattle.shard_store.specs.Told.{IsAccepted}
use Rattle.shard_store.specs.declared.store.Store.{Store}
use Rattle.ec_positions.specs.Objects.{Object}
use Rattle.ec_pipeline.specs.Drafts.{size_if}
use Rattle.ec_pipeline.specs.declared.fault.PrepareFault.TheVariants as preparing
use Rattle.ec_pipeline.specs.declared.fault.PrepareFault.{PrepareFault}
use Rattle.ec_pipeline.specs.declared.fault.ReadFault.TheVariants as reading
use Rattle.ec_pipeline.specs.declared.fault.ReadFault.{ReadFault}

-- the size that an answer gives, if it gives one
abbrev pub size_read : Result ℕ ReadFault → Option ℕ
size_read (Ok size) = Some size
size_read (Err fault) = None

-- a shard tells these stripes, and this size of an object
pub record IsFoundIn (shard : Shard) (name : List ℕ) (k unit : ℕ) (size : Option ℕ) : Type 0 where
  pub k_is : k ≡ shard.geometry.k
  pub unit_is : unit ≡ shard.geometry.unit
  pub size_is : size ≡ size_if (fin.get shard.state.objects name)

-- the lowest slot of a set tells it
pub record IsFound (set : ℕ) (shelf : Shelved) (name : List ℕ) (k unit : ℕ) (size : Option ℕ) : Type 0 where
  pub lead : ℕ
  pub among : HasPosition set lead
  pub least : (s : ℕ) → s < lead → HasPosition set s → ⊥
  pub told : IsSomeAnd (store_at shelf lead) (λ store. IsFoundIn (told_in store).shard name k unit size)

-- the bytes of an object, if it is there
abbrev pub bytes_if : Option Object → Option (List ℕ)
bytes_if None = None
bytes_if (Some object) = Some object.bytes

-- nothing is staged, and the stripes have k data chunks
pub record IsReadable (k : ℕ) (store : Store) : Type 0 where
  pub accepted : IsAccepted (told_in store)
  pub stripes_are : (told_in store).shard.geometry.k ≡ k

-- so on each slot of a set
abbrev pub AreReadable : ℕ → ℕ → Shelved → Type 0
AreReadable k set shelf = (s : ℕ) → HasPosition set s → IsSomeAnd (store_at shelf s) (IsReadable k)

-- a slot of a set lacks bytes of an object, by what the lowest slot tells of it
pub record LacksFound (set : ℕ) (shelf : Shelved) (name : List ℕ) (slot : ℕ) : Type 0 where
  pub among : HasPosition set slot
  pub k : ℕ
  pub unit : ℕ
  pub size : ℕ
  pub found : IsFound set shelf name k unit (Some size)
  pub lacks : LacksRange (object_bytes (store_at shelf slot) name) 0 (shard_len k unit size)

-- a fault of a range that is read, as the fault of a read
abbrev pub read_fault : PrepareFault → ReadFault
read_fault (preparing.Slot slot) = reading.Slot slot
read_fault others = reading.NoMemory

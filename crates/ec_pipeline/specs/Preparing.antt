-- What an update that is made promises of the stores, on the objects. Source: this project.
use Rattle.std.specs.Prelude.{◌≡◌, ◌⊎◌, ◌≤◌, ◌*◌, ◌^◌, ℕ, length, None, IsSomeAnd}
use Rattle.ec_model.specs.Codes.{CodeRows, HasPosition}
use Rattle.ec_model.specs.Versions.{Version}
use Rattle.shard_model.specs.StepBytes.{IsName}
use Rattle.shard_store.specs.Ranges.{object_bytes}
use Rattle.shard_store.specs.Shelved.{Shelved}
use Rattle.shard_store.specs.Shelves.{store_at}
use Rattle.shard_store.specs.Stored.{told_in}
use Rattle.shard_store.specs.Told.{IsAccepted}
use Rattle.shard_store.specs.declared.store.Store.{Store}
use Rattle.ec_positions.specs.Objects.{Objects}
use Rattle.ec_positions.specs.Refusals.{refusal_of}
use Rattle.ec_positions.specs.Updates.{Update, Append, WriteAt, Full, Delete, SetAttr, RemoveAttr, name_of, after}
use Rattle.ec_pipeline.specs.Checking.{next_version, IsToldByLead}
use Rattle.ec_pipeline.specs.Drafts.{drafted_step, size_or_none, IsShapedFor}
use Rattle.ec_pipeline.specs.Reading.{LacksStripes}
use Rattle.ec_pipeline.specs.Showing.{ShowsAt, IsChanged}
use Rattle.ec_pipeline.specs.Staging.{IsMisfitAt}
use Rattle.ec_pipeline.specs.declared.checking.Checked.{Checked}
use Rattle.ec_pipeline.specs.declared.draft.Draft.{Draft}

-- the bytes of the longest step of an update
abbrev pub max_update : ℕ
max_update = 2 ^ 21

-- nothing is staged, at most `queued` updates are not flushed, and the stripes are those of the code
pub record IsReady (k queued : ℕ) (store : Store) : Type 0 where
  pub k_is : (told_in store).shard.geometry.k ≡ k
  pub accepted : IsAccepted (told_in store)
  pub short : length (told_in store).pending ≤ queued * max_update

-- so on each slot of a set
abbrev pub AreReady : ℕ → ℕ → ℕ → Shelved → Type 0
AreReady k queued set shelf = (s : ℕ) → HasPosition set s → IsSomeAnd (store_at shelf s) (IsReady k queued)

-- an update is made: the objects allow it, each slot of a set got its part of it under one new version, and shows the objects
-- after it
pub record Prepared (code : CodeRows) (unit set : ℕ) (objects : Objects) (head : Version) (epoch : ℕ) (update : Update) (old new : Shelved) : Type 0 where
  pub allowed : refusal_of objects update ≡ None
  pub entries : IsChanged code unit set (next_version epoch head) head update objects old new
  pub shown : ShowsAt code unit set (after objects update) (next_version epoch head) new

-- the names in an update are names
abbrev pub HasNames : Update → Type 0
HasNames (Append name bytes) = IsName name
HasNames (WriteAt name off bytes) = IsName name
HasNames (Full name bytes) = IsName name
HasNames (Delete name) = IsName name
HasNames (SetAttr name attr value) = IsName name × IsName attr
HasNames (RemoveAttr name attr) = IsName name × IsName attr

-- the step of an update does not fit on a slot: one with the numbers that were told, and with as many bytes as it touches
pub record Misfits (code : CodeRows) (shelf : Shelved) (update : Update) (checked : Checked) (slot : ℕ) : Type 0 where
  pub draft : Draft
  pub version_is : draft.version ≡ checked.version
  pub prior_is : draft.prior ≡ checked.prior
  pub shaped : IsShapedFor checked.g.k checked.g.unit checked.size update draft
  pub misfit : IsMisfitAt (store_at shelf slot) (drafted_step code checked.g.unit slot draft update)

-- a slot of a set lacks stripes of the object that an update changes, or does not take its step
abbrev pub Hinders : CodeRows → ℕ → Shelved → Update → Checked → ℕ → Type 0
Hinders code set shelf update checked slot =
    HasPosition set slot
    × (LacksStripes checked.g.k checked.g.unit (size_or_none checked.size) (object_bytes (store_at shelf slot) (name_of update))
    ⊎ Misfits code shelf update checked slot)

-- so by what the lowest slot of the set tells
pub record IsHindered (code : CodeRows) (set : ℕ) (shelf : Shelved) (epoch : ℕ) (update : Update) (slot : ℕ) : Type 0 where
  pub checked : Checked
  pub told : IsToldByLead set shelf epoch update checked
  pub hinders : Hinders code set shelf update checked slot

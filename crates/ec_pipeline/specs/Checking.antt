-- What the slots of a set tell of an update before it is made. Source: this project.
use Rattle.std.specs.Prelude.{◌≡◌, ◌<◌, ◌≤◌, ◌⊎◌, ◌+◌, ◌^◌, ℕ, false, IfSome, IsSomeAnd}
use Rattle.std.specs.FinMap as fin
use Rattle.ec_model.specs.Codes.{CodeRows, HasPosition}
use Rattle.ec_model.specs.Versions.{Version}
use Rattle.shard_model.specs.Limits.{seq_limit}
use Rattle.shard_model.specs.Shards.{Shard}
use Rattle.shard_store.specs.Shelved.{Shelved}
use Rattle.shard_store.specs.Shelves.{store_at}
use Rattle.shard_store.specs.Stored.{room_in, told_in}
use Rattle.ec_positions.specs.Objects.{Objects}
use Rattle.ec_positions.specs.Updates.{Update, name_of}
use Rattle.ec_pipeline.specs.Drafts.{HasSize, size_if}
use Rattle.ec_pipeline.specs.declared.checking.Checked.{Checked}

-- the version of the next update of an interval
abbrev pub next_version : ℕ → Version → Version
next_version epoch head = record { epoch = epoch; seq = head.seq + 1 }

-- the bytes that a slot's text must be able to grow by
abbrev pub worn_room : ℕ
worn_room = 2 ^ 27

-- the versions, or the room of a slot, are used up
abbrev pub IsWorn : ℕ → Version → Shelved → Type 0
IsWorn set head shelf =
    (seq_limit ≤ head.seq + 1) ⊎ ((s : ℕ) × (HasPosition set s × IsSomeAnd (store_at shelf s) (λ store. room_in store < worn_room)))

-- what the lowest joined slot told of an update, if the slots show these objects
pub record IsKnown (code : CodeRows) (unit : ℕ) (objects : Objects) (head : Version) (epoch : ℕ) (update : Update) (checked : Checked) : Type 0 where
  pub k_is : checked.g.k ≡ code.k
  pub unit_is : checked.g.unit ≡ unit
  pub prior_is : checked.prior ≡ head
  pub version_is : checked.version ≡ next_version epoch head
  pub size_is : HasSize (fin.get objects (name_of update)) checked.size

-- what a shard tells of an update, whether or not the slots show any objects
pub record IsToldBy (shard : Shard) (epoch : ℕ) (update : Update) (checked : Checked) : Type 0 where
  pub k_is : checked.g.k ≡ shard.geometry.k
  pub unit_is : checked.g.unit ≡ shard.geometry.unit
  pub prior_is : checked.prior ≡ shard.state.head
  pub version_is : checked.version ≡ next_version epoch shard.state.head
  pub size_is : checked.size ≡ size_if (fin.get shard.state.objects (name_of update))

-- the lowest slot of a set tells it
pub record IsToldByLead (set : ℕ) (shelf : Shelved) (epoch : ℕ) (update : Update) (checked : Checked) : Type 0 where
  pub lead : ℕ
  pub among : HasPosition set lead
  pub least : (s : ℕ) → s < lead → HasPosition set s → ⊥
  pub told : IsSomeAnd (store_at shelf lead) (λ store. IsToldBy (told_in store).shard epoch update checked)

-- an update of an epoch may follow a head: the epoch is one, and none before that of the head; no shard of the set is being filled
pub record MayFollow (set : ℕ) (shelf : Shelved) (epoch : ℕ) (head : Version) : Type 0 where
  pub some_epoch : 1 ≤ epoch
  pub order : head.epoch ≤ epoch
  pub whole : (s : ℕ) → HasPosition set s → IfSome (store_at shelf s) (λ store. (told_in store).shard.state.partial ≡ false)

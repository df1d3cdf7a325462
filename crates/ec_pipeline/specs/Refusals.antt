-- What the code's refusals stand for, and when a shard tells them. Source: this project.
use Rattle.std.specs.Prelude.{◌≡◌, ◌≤◌, ◌-◌, ◌^◌, ℕ, List, length, min, true, Option, Some, None, Result, Ok, Err}
use Rattle.std.specs.FinMap as map
use Rattle.ec_model.specs.Codes.{CodeRows}
use Rattle.shard_model.specs.Limits.{max_size, max_value}
use Rattle.shard_model.specs.Objects.{ShardObject, ShardObjects}
use Rattle.ec_positions.specs.Objects.{Objects, bytes_in, max_usage, usage}
use Rattle.ec_positions.specs.Positions.{shard_of}
use Rattle.ec_positions.specs.Refusals as meant
use Rattle.ec_positions.specs.Refusals.{refusal_of}
use Rattle.ec_positions.specs.Updates.{Update, Append, WriteAt, Full, Delete, SetAttr, RemoveAttr, name_of, object_after, puts_bytes}
use Rattle.ec_pipeline.specs.Sizes.{new_size_of}
use Rattle.ec_pipeline.specs.declared.fault.PrepareFault.TheVariants.{Refused}
use Rattle.ec_pipeline.specs.declared.fault.PrepareFault.{PrepareFault}
use Rattle.ec_pipeline.specs.declared.fault.Refusal.TheVariants as plain
use Rattle.ec_pipeline.specs.declared.fault.Refusal.{Refusal}

abbrev pub refusal_meant : Refusal → meant.Refusal
refusal_meant plain.Absent = meant.Absent
refusal_meant plain.NoAttr = meant.NoAttr
refusal_meant plain.TooLarge = meant.TooLarge
refusal_meant plain.Objects = meant.TooManyObjects
refusal_meant plain.Full = meant.TooFull
refusal_meant plain.Attrs = meant.TooManyAttrs

abbrev pub refusal_if : Option Refusal → Option meant.Refusal
refusal_if None = None
refusal_if (Some refusal) = Some (refusal_meant refusal)

-- the refusal that an answer is, if it is one
abbrev pub refusal_in : PrepareFault → Option Refusal
refusal_in (Refused refusal) = Some refusal
refusal_in other = None

abbrev pub refused_in : {T : Type 0} → Result T PrepareFault → Option Refusal
refused_in (Ok done) = None
refused_in (Err fault) = refusal_in fault

-- an update puts bytes into the object of a name, which has `size` bytes then, as far as a word tells
pub record Puts (objects : Objects) (update : Update) (name : List ℕ) (size : ℕ) : Type 0 where
  pub kind : puts_bytes update ≡ true
  pub name_is : name_of update ≡ name
  pub size_is : min (length (bytes_in (object_after update (map.get objects name)))) (2 ^ 64 - 1) ≡ size

-- a shard that holds a position of some objects tells this refusal of each update that puts bytes so
abbrev pub IsRefusalOfPut : ShardObjects → List ℕ → ℕ → Option Refusal → Type 0
IsRefusalOfPut shard name size refusal =
    (code : CodeRows) (unit p : ℕ) (objects : Objects) (update : Update)
    → shard ≡ shard_of code unit p objects → Puts objects update name size → refusal_of objects update ≡ refusal_if refusal

-- a shard that holds a position of some objects tells this refusal of an update; the objects take no more than they may
abbrev pub IsRefusalFor : ShardObjects → Update → Option Refusal → Type 0
IsRefusalFor shard update refusal =
    (code : CodeRows) (unit p : ℕ) (objects : Objects)
    → shard ≡ shard_of code unit p objects → usage objects ≤ max_usage → refusal_of objects update ≡ refusal_if refusal

-- the same of a value that is set, by what the shard holds of the object and by what all objects take
abbrev pub IsRefusalOfValue : ℕ → ShardObject → List ℕ → List ℕ → Option Refusal → Type 0
IsRefusalOfValue taken held attr value refusal =
    (code : CodeRows) (unit p : ℕ) (objects : Objects) (name : List ℕ)
    → Some held ≡ map.get (shard_of code unit p objects) name → taken ≡ min (usage objects) (2 ^ 64 - 1) → usage objects ≤ max_usage
    → refusal_of objects (SetAttr name attr value) ≡ refusal_if refusal

-- the size that a shard has of what may be there, in bytes
abbrev pub size_in : Option ShardObject → ℕ
size_in None = 0
size_in (Some object) = object.size

-- the bytes that are put into an object of `old` bytes leave it no longer than it may be, or the value that is set is no longer
abbrev pub IsSmall : Update → ℕ → Type 0
IsSmall (Append name bytes) old = new_size_of (Append name bytes) old ≤ max_size
IsSmall (WriteAt name off bytes) old = new_size_of (WriteAt name off bytes) old ≤ max_size
IsSmall (Full name bytes) old = new_size_of (Full name bytes) old ≤ max_size
IsSmall (Delete name) old = Unit {0}
IsSmall (SetAttr name attr value) old = length value ≤ max_value
IsSmall (RemoveAttr name attr) old = Unit {0}

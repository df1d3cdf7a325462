-- An update before it is cut into positions. Source: this project.
use Rattle.std.specs.Prelude.{◌≡◌, ◌+◌, ◌*◌, ◌==◌, ℕ, length, max, if◌then◌else◌, Option, Some, None}
use Rattle.ec_model.specs.Codes.{CodeRows}
use Rattle.shard_model.specs.Changes as changes
use Rattle.shard_model.specs.Objects.{ShardObject}
use Rattle.shard_model.specs.Steps.{Step, Log}
use Rattle.ec_positions.specs.Objects.{Object}
use Rattle.ec_positions.specs.Updates.{Update, Append, WriteAt, Full, Delete, SetAttr, RemoveAttr, name_of}
use Rattle.ec_positions.specs.Positions.{position_list, first_touched, count_touched}
use Rattle.ec_pipeline.specs.declared.draft.Draft.{Draft}

-- what position p gets of a draft whose bytes are written into an object
abbrev pub drafted_write : CodeRows → ℕ → ℕ → Draft → changes.Change
drafted_write code unit p d = changes.Write d.fresh d.size d.at (position_list code unit d.window.items p)

-- what position p gets of an update; a write takes the draft's window
abbrev pub drafted_change : CodeRows → ℕ → ℕ → Draft → Update → changes.Change
drafted_change code unit p d (Append name bytes) = drafted_write code unit p d
drafted_change code unit p d (WriteAt name off bytes) = drafted_write code unit p d
drafted_change code unit p d (Full name bytes) = changes.Replace (length bytes) (position_list code unit bytes p)
drafted_change code unit p d (Delete name) = changes.Remove
drafted_change code unit p d (SetAttr name attr value) = changes.SetAttr attr value
drafted_change code unit p d (RemoveAttr name attr) = changes.RemoveAttr attr

-- the same as the entry of the draft's version
abbrev pub drafted_step : CodeRows → ℕ → ℕ → Draft → Update → Step
drafted_step code unit p d update =
    Log (record { version = d.version; prior = d.prior; name = name_of update; change = drafted_change code unit p d update })

-- the size of an object that may be there, in bytes: 0 if it is not
abbrev pub size_or_none : Option ℕ → ℕ
size_or_none None = 0
size_or_none (Some size) = size

-- 1 if there is no object
abbrev pub fresh_number : Option ℕ → ℕ
fresh_number None = 1
fresh_number (Some size) = 0

-- an object has this size, or there is neither
abbrev pub HasSize : Option Object → Option ℕ → Type 0
HasSize None size = size ≡ None
HasSize (Some object) size = size ≡ Some (length object.bytes)

-- the size of what a shard may hold of an object
abbrev pub size_if : Option ShardObject → Option ℕ
size_if None = None
size_if (Some object) = Some object.size

-- a draft of `len` bytes that are put into an object from `off` on: the numbers are those of an object of that size, and it has
-- the bytes of the stripes that are touched, whatever these are
pub record HasShape (k unit : ℕ) (old : Option ℕ) (off len : ℕ) (draft : Draft) : Type 0 where
  pub fresh_is : draft.fresh ≡ fresh_number old
  pub size_is : draft.size ≡ (if len == 0 then size_or_none old else max (size_or_none old) (off + len))
  pub at_is : draft.at ≡ first_touched (k * unit) off len * unit
  pub long : length draft.window.items ≡ count_touched (k * unit) off len * (k * unit)

-- so for an update of an object of that size; one that writes no range asks for nothing
abbrev pub IsShapedFor : ℕ → ℕ → Option ℕ → Update → Draft → Type 0
IsShapedFor k unit old (Append name bytes) draft = HasShape k unit old (size_or_none old) (length bytes) draft
IsShapedFor k unit old (WriteAt name off bytes) draft = HasShape k unit old off (length bytes) draft
IsShapedFor k unit old others draft = Unit {0}

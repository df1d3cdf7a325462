-- What a change does to an object. Source: this project.
use Rattle.std.specs.Prelude.{◌≡◌, ◌≤◌, ℕ, Bool, true, false, Option, Some, None, take, drop, []}
use Rattle.shard_model.specs.Limits.{max_attrs}
use Rattle.shard_model.specs.Objects.{ShardObject, Geometry as Meant}
use Rattle.shard_model.specs.Changes.{Change, Write, Replace, Remove, SetAttr, RemoveAttr, Undo, Fresh, Extent, changed, undo_of}
use Rattle.shard_model.specs.Steps.{Step, Log, Control, Recover, Put, Drop, Clear, Reset}
use Rattle.shard_model.specs.States.{State, Unbegun}
use Rattle.ec_model.specs.Versions.{zero_version}
use Rattle.std.specs.FinMap as map

-- to put an attribute back there has to be room for one
abbrev pub HasRoomFor : Change → ℕ → Type 0
HasRoomFor (Write fresh size at bytes) room = Unit {0}
HasRoomFor (Replace size bytes) room = Unit {0}
HasRoomFor Remove room = Unit {0}
HasRoomFor (SetAttr attr value) room = Unit {0}
HasRoomFor (RemoveAttr attr) room = max_attrs ≤ room

-- an object is changed, and this takes it back
pub record DoesChange (g : Meant) (change : Change) (before now : Option ShardObject) (back : Undo) (spare : ℕ) : Type 0 where
  pub after : now ≡ changed g change before
  pub undo : back ≡ undo_of change before
  pub room : HasRoomFor change spare

-- what takes a write of `len` bytes at `at` back
abbrev pub write_undo : ℕ → ℕ → Option ShardObject → Undo
write_undo at len None = Fresh
write_undo at len (Some o) = Extent o.size at (take len (drop at o.bytes))

-- the step takes no memory
abbrev pub takes_none : Step → Bool
takes_none (Log e) = false
takes_none (Control control) = true
takes_none (Recover (Put name size bytes attrs)) = false
takes_none (Recover (Drop name)) = true
takes_none (Recover Clear) = true
takes_none (Recover (Reset v epoch)) = true

-- the state before any step
abbrev pub fresh_state : State
fresh_state = record {
  phase = Unbegun;
  objects = map.empty;
  log = [];
  tail = zero_version;
  firm = zero_version;
  head = zero_version;
  les = 0;
  partial = false;
}

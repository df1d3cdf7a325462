-- What the lines of a script change of the objects. Source: this project, after the operations of Ceph's developer guide, "Erasure
-- Coded pool" (append, overwrite, replace as a whole, delete, and set or remove an attribute).
-- A further update, such as one that sets an object's size, is a constructor of `Update`, and a case of `name_of`, of `object_after`
-- and of `change_of` in Positions: all else that looks at the kind says what holds of some kinds and has one rule for the others.
use Rattle.std.specs.Prelude.{ℕ, ◌+◌, Bool, true, false, ◌==◌, if◌then◌else◌, List, [], ◌++◌, length, drop, Option, Some, None}
use Rattle.std.specs.FinMap as map
use Rattle.shard_model.specs.Changes.{resized}
use Rattle.shard_model.specs.Objects.{put}
use Rattle.ec_positions.specs.Objects.{Object, Objects, bytes_in, attrs_in}

-- the lines `append`, `write`, `full`, `delete`, `setattr` and `rmattr`; `off` is a byte offset in the object
pub data Update : Type 0 where
  Append : (name bytes : List ℕ) → Update
  WriteAt : (name : List ℕ) (off : ℕ) (bytes : List ℕ) → Update
  Full : (name bytes : List ℕ) → Update
  Delete : (name : List ℕ) → Update
  SetAttr : (name attr value : List ℕ) → Update
  RemoveAttr : (name attr : List ℕ) → Update

-- the name of the one object that an update changes
abbrev pub name_of : Update → List ℕ
name_of (Append name bytes) = name
name_of (WriteAt name off bytes) = name
name_of (Full name bytes) = name
name_of (Delete name) = name
name_of (SetAttr name attr value) = name
name_of (RemoveAttr name attr) = name

-- an update puts bytes into its object, and makes the object if it is not there
abbrev pub puts_bytes : Update → Bool
puts_bytes (Append name bytes) = true
puts_bytes (WriteAt name off bytes) = true
puts_bytes (Full name bytes) = true
puts_bytes others = false

-- the bytes that it puts
abbrev pub bytes_given : Update → List ℕ
bytes_given (Append name bytes) = bytes
bytes_given (WriteAt name off bytes) = bytes
bytes_given (Full name bytes) = bytes
bytes_given others = []

-- bytes put in the place of those from `off` on; zeros fill a gap before them. No bytes change nothing, a gap included
abbrev pub overlaid : ℕ → List ℕ → List ℕ → List ℕ
overlaid off bytes old =
    if length bytes == 0 then old else resized off old ++ bytes ++ drop (off + length bytes) old

-- an object with the value of an attribute set, or taken away
abbrev pub with_attr : List ℕ → Option (List ℕ) → Option Object → Option Object
with_attr attr value None = None
with_attr attr value (Some object) = Some (record { bytes = object.bytes; attrs = put object.attrs attr value })

-- what is at the name after an update that is not refused
abbrev pub object_after : Update → Option Object → Option Object
object_after (Append name bytes) object = Some (record { bytes = bytes_in object ++ bytes; attrs = attrs_in object })
object_after (WriteAt name off bytes) object =
    Some (record { bytes = overlaid off bytes (bytes_in object); attrs = attrs_in object })
object_after (Full name bytes) object = Some (record { bytes = bytes; attrs = attrs_in object })
object_after (Delete name) object = None
object_after (SetAttr name attr value) object = with_attr attr (Some value) object
object_after (RemoveAttr name attr) object = with_attr attr None object

-- the objects after an update that is not refused: those of other names stay
abbrev pub after : Objects → Update → Objects
after objects update = put objects (name_of update) (object_after update (map.get objects (name_of update)))

-- What a position of a code holds of the objects, and what it gets of an update. Source: Ceph developer guide, "Erasure Coded pool":
-- a stripe is k chunks of `unit` bytes, and the last one is padded with zeros; a shard holds the chunks of one position, with the
-- object's size and attributes; an overwrite writes whole stripes, as they are after it.
use Rattle.std.specs.Prelude.{ℕ, ◌+◌, ◌-◌, ◌*◌, ◌/◌, ◌%◌, ◌==◌, if◌then◌else◌, List, map, length, take, drop, slice_index, Option, is_some}
use Rattle.std.specs.List.{range_with_len}
use Rattle.std.specs.FinMap as fin
use Rattle.ec_model.specs.Codes.{CodeRows}
use Rattle.ec_model.specs.Field.{field_product}
use Rattle.ec_model.specs.Rows.{sum_below, entry_at}
use Rattle.ec_model.specs.Stripes.{shard_len}
use Rattle.shard_model.specs.Changes as changes
use Rattle.shard_model.specs.Objects.{ShardObject, ShardObjects}
use Rattle.ec_positions.specs.Objects.{Object, Objects, bytes_in}
use Rattle.ec_positions.specs.Updates.{Update, Append, WriteAt, Full, Delete, SetAttr, RemoveAttr, name_of, overlaid}

-- byte i of position p of an object: the sum over the data chunks of the entry in the row of p times the byte at that place of the
-- chunk in the stripe. A byte past the object's end counts as 0
abbrev pub position_byte : CodeRows → ℕ → List ℕ → ℕ → ℕ → ℕ
position_byte code unit bytes p i = sum_below code.k (λ j.
    field_product (entry_at code.rows p j) (slice_index bytes ((i / unit * code.k + j) * unit + i % unit)))

-- the bytes of position p of an object: a chunk of each stripe
abbrev pub position_list : CodeRows → ℕ → List ℕ → ℕ → List ℕ
position_list code unit bytes p =
    map (position_byte code unit bytes p) (range_with_len 0 (shard_len code.k unit (length bytes)))

-- what position p holds of an object: its bytes there, the size of the whole, the attributes
abbrev pub position_of : CodeRows → ℕ → ℕ → Object → ShardObject
position_of code unit p object =
    record { bytes = position_list code unit object.bytes p; size = length object.bytes; attrs = object.attrs }

-- what position p holds of all objects
abbrev pub shard_of : CodeRows → ℕ → ℕ → Objects → ShardObjects
shard_of code unit p objects =
    fin.from_entries (map (λ entry. (entry.0, position_of code unit p entry.1)) (fin.entries objects))

-- the first stripe of `width` bytes that holds one of `len` bytes from `off` on, and how many stripes hold one
abbrev pub first_touched : ℕ → ℕ → ℕ → ℕ
first_touched width off len = if len == 0 then 0 else off / width

abbrev pub count_touched : ℕ → ℕ → ℕ → ℕ
count_touched width off len = if len == 0 then 0 else (off + len - 1) / width - off / width + 1

-- what position p gets when bytes are put into an object from `off` on: the chunks of the stripes that they touch, as these are
-- in the object after it
abbrev pub write_of : CodeRows → ℕ → ℕ → Option Object → ℕ → List ℕ → changes.Change
write_of code unit p object off bytes =
    let new = overlaid off bytes (bytes_in object) in
    let at = first_touched (code.k * unit) off (length bytes) * unit in
    let len = count_touched (code.k * unit) off (length bytes) * unit in
    changes.Write (if is_some object then 0 else 1) (length new) at (take len (drop at (position_list code unit new p)))

-- what position p gets of an update, by the object that is at its name
abbrev pub change_of : CodeRows → ℕ → ℕ → Option Object → Update → changes.Change
change_of code unit p object (Append name bytes) = write_of code unit p object (length (bytes_in object)) bytes
change_of code unit p object (WriteAt name off bytes) = write_of code unit p object off bytes
change_of code unit p object (Full name bytes) = changes.Replace (length bytes) (position_list code unit bytes p)
change_of code unit p object (Delete name) = changes.Remove
change_of code unit p object (SetAttr name attr value) = changes.SetAttr attr value
change_of code unit p object (RemoveAttr name attr) = changes.RemoveAttr attr

-- what position p of these objects gets of an update
abbrev pub position_change : CodeRows → ℕ → ℕ → Update → Objects → changes.Change
position_change code unit p update objects = change_of code unit p (fin.get objects (name_of update)) update

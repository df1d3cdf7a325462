-- Why an update is refused. Source: this project.
use Rattle.std.specs.Prelude.{Bool, false, not, ◌&&◌, nat_lt, nat_le, if◌then◌else◌, List, [], ◌∷◌, length, Option, Some, None, is_some, is_none}
use Rattle.std.specs.FinMap as map
use Rattle.shard_model.specs.Limits.{max_size, max_value, max_attrs}
use Rattle.ec_positions.specs.Objects.{Object, Objects, bytes_in, attrs_in, max_objects, max_usage, usage}
use Rattle.ec_positions.specs.Updates.{Update, SetAttr, RemoveAttr, name_of, puts_bytes, object_after, after}

-- no such object; no such attribute; the object or the value would be too long; the pool has its most objects; they would take
-- too much in all; the object has its most attributes
pub data Refusal : Type 0 where
  Absent NoAttr TooLarge TooManyObjects TooFull TooManyAttrs : Refusal

-- the object is not there, and the update does not make it
abbrev pub lacks_object : Update → Option Object → Bool
lacks_object update object = not (puts_bytes update) && is_none object

-- the attribute that goes is not there
abbrev pub lacks_attr : Update → Option Object → Bool
lacks_attr (RemoveAttr name attr) object = is_none (map.get (attrs_in object) attr)
lacks_attr others object = false

-- the object's bytes, or the attribute's value, would be too long
abbrev pub is_too_large : Update → Option Object → Bool
is_too_large (SetAttr name attr value) object = nat_lt max_value (length value)
is_too_large others object = nat_lt max_size (length (bytes_in (object_after others object)))

-- the update makes an object
abbrev pub is_new : Update → Option Object → Bool
is_new update object = is_none object && is_some (object_after update object)

-- the attribute is a new one, and the object has as many as it may
abbrev pub has_too_many_attrs : Update → Option Object → Bool
has_too_many_attrs (SetAttr name attr value) object =
    is_none (map.get (attrs_in object) attr) && nat_le max_attrs (map.len (attrs_in object))
has_too_many_attrs others object = false

-- the first cause that holds
abbrev pub first_of : List (Bool × Refusal) → Option Refusal
first_of [] = None
first_of ((holds, why) ∷ causes) = if holds then Some why else first_of causes

-- the refusal of an update on these objects, if there is one: the first of the causes, in this order
abbrev pub refusal_of : Objects → Update → Option Refusal
refusal_of objects update =
    let object = map.get objects (name_of update) in
    first_of (
    (lacks_object update object, Absent)
    ∷ (lacks_attr update object, NoAttr)
    ∷ (is_too_large update object, TooLarge)
    ∷ (is_new update object && nat_le max_objects (map.len objects), TooManyObjects)
    ∷ (nat_lt max_usage (usage (after objects update)), TooFull)
    ∷ (has_too_many_attrs update object, TooManyAttrs)
    ∷ [])

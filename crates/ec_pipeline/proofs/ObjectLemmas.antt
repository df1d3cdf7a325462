-- The refusal of an object's removal and of its attributes, as one shard tells it.
use Rattle.std.proofs.Common.{◌≡◌, ℕ, ◌+◌, ◌-◌, ◌^◌, ◌<◌, ◌≤◌, min, Bool, true, false, not, ◌&&◌, nat_lt, nat_le, is_some, is_none, List, [], ◌∷◌, length, refl, sym, ap, ◌∙◌, arith, subst, Option, Some, None}
use Rattle.std.specs.FinMap as fin
use Rattle.std.proofs.lemmas.Bool.{false≢true}
use Rattle.std.proofs.lemmas.Grind.{common_steps}
use Rattle.ec_model.specs.Codes.{CodeRows}
use Rattle.shard_model.specs.Changes.{attrs_of}
use Rattle.shard_model.specs.Limits.{max_size, max_value, max_attrs}
use Rattle.shard_model.specs.Objects.{Named, ShardObject, ShardObjects}
use Rattle.ec_positions.specs.Objects.{Object, Objects, attrs_in, bytes_in, max_objects, max_usage, object_usage, usage}
use Rattle.ec_positions.specs.Positions.{shard_of}
use Rattle.ec_positions.specs.Refusals.{Absent, NoAttr, TooLarge, TooManyObjects, TooFull, TooManyAttrs, first_of, refusal_of, lacks_object, lacks_attr, is_too_large, is_new, has_too_many_attrs}
use Rattle.ec_positions.specs.Updates.{Update, Delete, SetAttr, RemoveAttr, name_of, puts_bytes, with_attr, after}
use Rattle.ec_positions.proofs.MapLemmas.{position_if, get-shard_of}
use Rattle.ec_positions.proofs.TallyLemmas.{load, sum_after}
use Rattle.ec_pipeline.specs.Refusals.{IsRefusalFor, IsRefusalOfValue}
use Rattle.ec_pipeline.specs.declared.fault.Refusal.TheVariants as plain
use Rattle.ec_pipeline.specs.declared.fault.Refusal.{Refusal as Why}
use Rattle.ec_pipeline.proofs.AttrLemmas.{attr_load, attrs_set, attrs_less}

bits : (a b c d e f u v w x y z : Bool) → a ≡ u → b ≡ v → c ≡ w → d ≡ x → e ≡ y → f ≡ z
    → first_of ((a, Absent) ∷ (b, NoAttr) ∷ (c, TooLarge) ∷ (d, TooManyObjects) ∷ (e, TooFull) ∷ (f, TooManyAttrs) ∷ [])
    ≡ first_of ((u, Absent) ∷ (v, NoAttr) ∷ (w, TooLarge) ∷ (x, TooManyObjects) ∷ (y, TooFull) ∷ (z, TooManyAttrs) ∷ [])
bits a b c d e f u v w x y z one two three four five six =
    λ i. first_of ((one i, Absent) ∷ (two i, NoAttr) ∷ (three i, TooLarge) ∷ (four i, TooManyObjects) ∷ (five i, TooFull) ∷ (six i, TooManyAttrs) ∷ [])

above : (a b : ℕ) → a < b → nat_lt a b ≡ true
above a b lt = grind (arith, common_steps)

not_above : (a b : ℕ) → b ≤ a → nat_lt a b ≡ false
not_above a b le = grind (arith, common_steps)

up_to : (a b : ℕ) → a ≤ b → nat_le a b ≡ true
up_to a b le = grind (arith, common_steps)

not_up_to : (a b : ℕ) → b < a → nat_le a b ≡ false
not_up_to a b lt = grind (arith, common_steps)

-- ---- what the shard has of the object

pub absent_there : (code : CodeRows) (unit p : ℕ) (o : Option Object) → None ≡ position_if code unit p o → o ≡ None
absent_there code unit p None none = refl
absent_there code unit p (Some o) none = absurd (false≢true (ap is_some none))

pub record IsThere (o : Option Object) (held : ShardObject) : Type 0 where
  pub object : Object
  pub is : o ≡ Some object
  pub size_is : held.size ≡ length object.bytes
  pub attrs_are : held.attrs ≡ object.attrs

abbrev size_or : ℕ → Option ShardObject → ℕ
size_or n None = n
size_or n (Some held) = held.size

pub object_there : (code : CodeRows) (unit p : ℕ) (o : Option Object) (held : ShardObject) → Some held ≡ position_if code unit p o → IsThere o held
object_there code unit p None held some = absurd (false≢true (sym (ap is_some some)))
object_there code unit p (Some o) held some = record { object = o; is = refl; size_is = ap (size_or 0) some; attrs_are = ap attrs_of some }

there_of : (code : CodeRows) (unit p : ℕ) (m : Objects) (shard : ShardObjects) (name : List ℕ) (held : ShardObject) → Some held ≡ fin.get shard name → shard ≡ shard_of code unit p m
    → IsThere (fin.get m name) held
there_of code unit p m shard name held some is = object_there code unit p (fin.get m name) held (some ∙ ap (λ s. fin.get s name) is ∙ get-shard_of code unit p m name)

absent_of : (code : CodeRows) (unit p : ℕ) (m : Objects) (shard : ShardObjects) (name : List ℕ) → None ≡ fin.get shard name → shard ≡ shard_of code unit p m
    → fin.get m name ≡ None
absent_of code unit p m shard name none is = absent_there code unit p (fin.get m name) (none ∙ ap (λ s. fin.get s name) is ∙ get-shard_of code unit p m name)

-- an update that makes no object is refused if there is none
no_object : (m : Objects) (c : Update) → puts_bytes c ≡ false → fin.get m (name_of c) ≡ None → refusal_of m c ≡ Some Absent
no_object m c kind none =
    let o = fin.get m (name_of c) in
    bits (lacks_object c o) (lacks_attr c o) (is_too_large c o) (is_new c o && nat_le max_objects (fin.len m)) (nat_lt max_usage (usage (after m c))) (has_too_many_attrs c o)
    true (lacks_attr c o) (is_too_large c o) (is_new c o && nat_le max_objects (fin.len m)) (nat_lt max_usage (usage (after m c))) (has_too_many_attrs c o)
    (λ i. not (kind i) && is_none (none i)) refl refl refl refl refl

-- ---- what all objects take after it

delete_usage : (m : Objects) (name : List ℕ) → usage (after m (Delete name)) ≤ usage m
delete_usage m name = let less = sum_after object_usage m name None in omega (arith, less)

lessened : (attr : List ℕ) (o : Option Object) → load object_usage (with_attr attr None o) ≤ load object_usage o
lessened attr None = omega arith
lessened attr (Some o) = omega (arith, attrs_less o.attrs attr)

remove_usage : (m : Objects) (name attr : List ℕ) → usage (after m (RemoveAttr name attr)) ≤ usage m
remove_usage m name attr =
    let all = sum_after object_usage m name (with_attr attr None (fin.get m name)) in
    let one = lessened attr (fin.get m name) in
    omega (arith, all, one)

grown : (attr value : List ℕ) (object : Object) (o : Option Object) → o ≡ Some object
    → load object_usage (with_attr attr (Some value) o) + attr_load attr (fin.get object.attrs attr) ≡ load object_usage o + (length attr + length value)
grown attr value object o is =
    subst (λ x. load object_usage (with_attr attr (Some value) x) + attr_load attr (fin.get object.attrs attr) ≡ load object_usage x + (length attr + length value)) (sym is)
    (omega (arith, attrs_set object.attrs attr value))

set_usage : (m : Objects) (name attr value : List ℕ) (object : Object) → fin.get m name ≡ Some object
    → usage (after m (SetAttr name attr value)) + attr_load attr (fin.get object.attrs attr) ≡ usage m + (length attr + length value)
set_usage m name attr value object is =
    let all = sum_after object_usage m name (with_attr attr (Some value) (fin.get m name)) in
    let one = grown attr value object (fin.get m name) is in
    omega (arith, all, one)

-- ---- the removal of an object

pub delete_absent : (shard : ShardObjects) (name : List ℕ) → None ≡ fin.get shard name → IsRefusalFor shard (Delete name) (Some plain.Absent)
delete_absent shard name none code unit p m is within = no_object m (Delete name) refl (absent_of code unit p m shard name none is)

pub delete_there : (shard : ShardObjects) (name : List ℕ) (held : ShardObject) → Some held ≡ fin.get shard name → IsRefusalFor shard (Delete name) None
delete_there shard name held some code unit p m is within =
    let c = Delete name in
    let o = fin.get m name in
    let there = there_of code unit p m shard name held some is in
    bits (lacks_object c o) (lacks_attr c o) (is_too_large c o) (is_new c o && nat_le max_objects (fin.len m)) (nat_lt max_usage (usage (after m c))) (has_too_many_attrs c o)
    false false false false false false
    (ap (λ x. lacks_object (Delete name) x) there.is) refl (not_above max_size 0 (omega arith)) (ap (λ x. is_new (Delete name) x && nat_le max_objects (fin.len m)) there.is)
    (not_above max_usage (usage (after m (Delete name))) (omega (arith, delete_usage m name, within))) refl

-- ---- the removal of an attribute

pub remove_absent : (shard : ShardObjects) (name attr : List ℕ) → None ≡ fin.get shard name → IsRefusalFor shard (RemoveAttr name attr) (Some plain.Absent)
remove_absent shard name attr none code unit p m is within = no_object m (RemoveAttr name attr) refl (absent_of code unit p m shard name none is)

attrs_same : (o : Option Object) (held : ShardObject) → IsThere o held → attrs_in o ≡ held.attrs
attrs_same o held there = ap attrs_in there.is ∙ sym there.attrs_are

pub remove_lacks : (shard : ShardObjects) (name attr : List ℕ) (held : ShardObject) → Some held ≡ fin.get shard name → None ≡ fin.get held.attrs attr
    → IsRefusalFor shard (RemoveAttr name attr) (Some plain.NoAttr)
remove_lacks shard name attr held some none code unit p m is within =
    let c = RemoveAttr name attr in
    let o = fin.get m name in
    let there = there_of code unit p m shard name held some is in
    bits (lacks_object c o) (lacks_attr c o) (is_too_large c o) (is_new c o && nat_le max_objects (fin.len m)) (nat_lt max_usage (usage (after m c))) (has_too_many_attrs c o)
    false true (is_too_large c o) (is_new c o && nat_le max_objects (fin.len m)) (nat_lt max_usage (usage (after m c))) (has_too_many_attrs c o)
    (ap (λ x. lacks_object (RemoveAttr name attr) x) there.is)
    (ap (λ (a : Named (List ℕ)). is_none (fin.get a attr)) (attrs_same o held there) ∙ ap is_none (sym none))
    refl refl refl refl

long_there : (attr : List ℕ) (o : Option Object) (held : ShardObject) → IsThere o held → length (bytes_in (with_attr attr None o)) ≡ held.size
long_there attr o held there = ap (λ x. length (bytes_in (with_attr attr None x))) there.is ∙ sym there.size_is

pub remove_large : (shard : ShardObjects) (name attr : List ℕ) (held : ShardObject) (value : List ℕ) → Some held ≡ fin.get shard name → Some value ≡ fin.get held.attrs attr → max_size < held.size
    → IsRefusalFor shard (RemoveAttr name attr) (Some plain.TooLarge)
remove_large shard name attr held value some has large code unit p m is within =
    let c = RemoveAttr name attr in
    let o = fin.get m name in
    let there = there_of code unit p m shard name held some is in
    bits (lacks_object c o) (lacks_attr c o) (is_too_large c o) (is_new c o && nat_le max_objects (fin.len m)) (nat_lt max_usage (usage (after m c))) (has_too_many_attrs c o)
    false false true (is_new c o && nat_le max_objects (fin.len m)) (nat_lt max_usage (usage (after m c))) (has_too_many_attrs c o)
    (ap (λ x. lacks_object (RemoveAttr name attr) x) there.is)
    (ap (λ (a : Named (List ℕ)). is_none (fin.get a attr)) (attrs_same o held there) ∙ ap is_none (sym has))
    (above max_size (length (bytes_in (with_attr attr None o))) (omega (arith, long_there attr o held there, large)))
    refl refl refl

pub remove_there : (shard : ShardObjects) (name attr : List ℕ) (held : ShardObject) (value : List ℕ) → Some held ≡ fin.get shard name → Some value ≡ fin.get held.attrs attr → held.size ≤ max_size
    → IsRefusalFor shard (RemoveAttr name attr) None
remove_there shard name attr held value some has small code unit p m is within =
    let c = RemoveAttr name attr in
    let o = fin.get m name in
    let there = there_of code unit p m shard name held some is in
    bits (lacks_object c o) (lacks_attr c o) (is_too_large c o) (is_new c o && nat_le max_objects (fin.len m)) (nat_lt max_usage (usage (after m c))) (has_too_many_attrs c o)
    false false false false false false
    (ap (λ x. lacks_object (RemoveAttr name attr) x) there.is)
    (ap (λ (a : Named (List ℕ)). is_none (fin.get a attr)) (attrs_same o held there) ∙ ap is_none (sym has))
    (not_above max_size (length (bytes_in (with_attr attr None o))) (omega (arith, long_there attr o held there, small)))
    (ap (λ x. is_new (RemoveAttr name attr) x && nat_le max_objects (fin.len m)) there.is)
    (not_above max_usage (usage (after m (RemoveAttr name attr))) (omega (arith, remove_usage m name attr, within))) refl

-- ---- an attribute's value

pub set_absent : (shard : ShardObjects) (name attr value : List ℕ) → None ≡ fin.get shard name → IsRefusalFor shard (SetAttr name attr value) (Some plain.Absent)
set_absent shard name attr value none code unit p m is within = no_object m (SetAttr name attr value) refl (absent_of code unit p m shard name none is)

pub set_by_value : (shard : ShardObjects) (name attr value : List ℕ) (taken : ℕ) (held : ShardObject) (why : Option Why) → Some held ≡ fin.get shard name
    → ((code : CodeRows) (unit p : ℕ) (m : Objects) → shard ≡ shard_of code unit p m → taken ≡ min (usage m) (2 ^ 64 - 1))
    → IsRefusalOfValue taken held attr value why → IsRefusalFor shard (SetAttr name attr value) why
set_by_value shard name attr value taken held why some all told code unit p m is within =
    told code unit p m name (some ∙ ap (λ s. fin.get s name) is) (all code unit p m is) within

module _ (taken : ℕ) (held : ShardObject) (attr value : List ℕ) where
  -- the refusal by the three causes that are left
  set_bits : (w y z : Bool) (m : Objects) (name : List ℕ) (there : IsThere (fin.get m name) held)
      → nat_lt max_value (length value) ≡ w → nat_lt max_usage (usage (after m (SetAttr name attr value))) ≡ y
      → (is_none (fin.get held.attrs attr) && nat_le max_attrs (fin.len held.attrs)) ≡ z
      → refusal_of m (SetAttr name attr value) ≡ first_of ((false, Absent) ∷ (false, NoAttr) ∷ (w, TooLarge) ∷ (false, TooManyObjects) ∷ (y, TooFull) ∷ (z, TooManyAttrs) ∷ [])
  set_bits w y z m name there large full many =
      let c = SetAttr name attr value in
      let o = fin.get m name in
      bits (lacks_object c o) (lacks_attr c o) (is_too_large c o) (is_new c o && nat_le max_objects (fin.len m)) (nat_lt max_usage (usage (after m c))) (has_too_many_attrs c o)
      false false w false y z
      (ap (λ x. lacks_object (SetAttr name attr value) x) there.is) refl large (ap (λ x. is_new (SetAttr name attr value) x && nat_le max_objects (fin.len m)) there.is) full
      (ap (λ (a : Named (List ℕ)). is_none (fin.get a attr) && nat_le max_attrs (fin.len a)) (attrs_same o held there) ∙ many)

  value_there : (code : CodeRows) (unit p : ℕ) (m : Objects) (name : List ℕ) → Some held ≡ fin.get (shard_of code unit p m) name → IsThere (fin.get m name) held
  value_there code unit p m name some = there_of code unit p m (shard_of code unit p m) name held some refl

  -- what all objects take then
  taken_then : (m : Objects) (name : List ℕ) (there : IsThere (fin.get m name) held)
      → usage (after m (SetAttr name attr value)) + attr_load attr (fin.get held.attrs attr) ≡ usage m + (length attr + length value)
  taken_then m name there =
      ap (λ (a : Named (List ℕ)). usage (after m (SetAttr name attr value)) + attr_load attr (fin.get a attr)) there.attrs_are
      ∙ set_usage m name attr value there.object there.is

  taken_replaced : (m : Objects) (name old : List ℕ) → IsThere (fin.get m name) held → Some old ≡ fin.get held.attrs attr
      → usage (after m (SetAttr name attr value)) + length old ≡ usage m + length value
  taken_replaced m name old there has =
      let all = ap (λ x. usage (after m (SetAttr name attr value)) + attr_load attr x) has ∙ taken_then m name there in
      omega (arith, all)

  taken_added : (m : Objects) (name : List ℕ) → IsThere (fin.get m name) held → None ≡ fin.get held.attrs attr
      → usage (after m (SetAttr name attr value)) ≡ usage m + (length attr + length value)
  taken_added m name there none =
      let all = ap (λ x. usage (after m (SetAttr name attr value)) + attr_load attr x) none ∙ taken_then m name there in
      omega (arith, all)

  pub value_large : max_value < length value → IsRefusalOfValue taken held attr value (Some plain.TooLarge)
  value_large large code unit p m name some is within =
      set_bits true _ _ m name (value_there code unit p m name some) (above max_value (length value) large) refl refl

  has_many : (x : Option (List ℕ)) (y : Option (List ℕ)) (b : Bool) → x ≡ y → (is_none x && b) ≡ (is_none y && b)
  has_many x y b e = ap (λ o. is_none o && b) e

  module _ (short : length value ≤ max_value) (sum : ℕ) (sum_is : sum ≡ min (taken + length value) (2 ^ 64 - 1)) where
    module _ (old : List ℕ) (has : Some old ≡ fin.get held.attrs attr) (bound : ℕ) (bound_is : bound ≡ min (2 ^ 26 + length old) (2 ^ 64 - 1)) where
      pub replaced_full : bound < sum → IsRefusalOfValue taken held attr value (Some plain.Full)
      replaced_full more code unit p m name some is within =
          let there = value_there code unit p m name some in
          set_bits false true _ m name there (not_above max_value (length value) short)
          (above max_usage (usage (after m (SetAttr name attr value))) (omega (arith, taken_replaced m name old there has, sum_is, bound_is, is, within, more, short))) refl

      pub replaced : sum ≤ bound → IsRefusalOfValue taken held attr value None
      replaced less code unit p m name some is within =
          let there = value_there code unit p m name some in
          set_bits false false false m name there (not_above max_value (length value) short)
          (not_above max_usage (usage (after m (SetAttr name attr value))) (omega (arith, taken_replaced m name old there has, sum_is, bound_is, is, within, less, short)))
          (has_many (fin.get held.attrs attr) (Some old) (nat_le max_attrs (fin.len held.attrs)) (sym has))

    module _ (none : None ≡ fin.get held.attrs attr) (all : ℕ) (all_is : all ≡ min (sum + length attr) (2 ^ 64 - 1)) where
      pub added_full : 2 ^ 26 < all → IsRefusalOfValue taken held attr value (Some plain.Full)
      added_full more code unit p m name some is within =
          let there = value_there code unit p m name some in
          set_bits false true _ m name there (not_above max_value (length value) short)
          (above max_usage (usage (after m (SetAttr name attr value))) (omega (arith, taken_added m name there none, sum_is, all_is, is, within, more, short))) refl

      module _ (fits : all ≤ 2 ^ 26) where
        not_full : (m : Objects) (name : List ℕ) → IsThere (fin.get m name) held → taken ≡ min (usage m) (2 ^ 64 - 1) → usage m ≤ max_usage
            → nat_lt max_usage (usage (after m (SetAttr name attr value))) ≡ false
        not_full m name there is within =
            not_above max_usage (usage (after m (SetAttr name attr value))) (omega (arith, taken_added m name there none, sum_is, all_is, is, within, fits, short))

        pub added_many : max_attrs ≤ fin.len held.attrs → IsRefusalOfValue taken held attr value (Some plain.Attrs)
        added_many many code unit p m name some is within =
            let there = value_there code unit p m name some in
            set_bits false false true m name there (not_above max_value (length value) short) (not_full m name there is within)
            (has_many (fin.get held.attrs attr) None (nat_le max_attrs (fin.len held.attrs)) (sym none) ∙ up_to max_attrs (fin.len held.attrs) many)

        pub added : fin.len held.attrs < max_attrs → IsRefusalOfValue taken held attr value None
        added few code unit p m name some is within =
            let there = value_there code unit p m name some in
            set_bits false false false m name there (not_above max_value (length value) short) (not_full m name there is within)
            (has_many (fin.get held.attrs attr) None (nat_le max_attrs (fin.len held.attrs)) (sym none) ∙ not_up_to max_attrs (fin.len held.attrs) few)

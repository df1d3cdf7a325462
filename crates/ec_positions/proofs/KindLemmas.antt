-- What a position gets of each kind of change, on the object of its name.
use Rattle.std.proofs.Common.{◌≡◌, ℕ, ◌+◌, ◌*◌, ◌%◌, ◌==◌, ◌≤◌, Bool, true, false, ◌&&◌, ◌||◌, nat_lt, nat_le, is_some, is_none, List, [], ◌∷◌, ◌++◌, length, take, drop, refl, sym, ap, ◌∙◌, arith, subst, Option, Some, None}
use Rattle.std.specs.FinMap as fin
use Rattle.std.proofs.lemmas.Grind.{common_steps}
use Rattle.std.proofs.lemmas.Bool.{true≢false, false≢true}
use Rattle.std.proofs.lemmas.List.{places}
use Rattle.std.proofs.Math.Nat.{mul-mod_left}
use Rattle.ec_model.specs.Codes.{CodeRows}
use Rattle.ec_model.specs.Stripes.{shard_len}
use Rattle.shard_model.specs.Changes as changes
use Rattle.shard_model.specs.Changes.{fits_change, changed, fits_extent, resized, written}
use Rattle.shard_model.specs.Limits.{max_size, max_value, max_attrs}
use Rattle.ec_positions.specs.Objects.{Object, bytes_in, attrs_in}
use Rattle.ec_positions.specs.Updates.{Update, Append, WriteAt, Full, Delete, SetAttr, RemoveAttr, overlaid, object_after}
use Rattle.ec_positions.specs.Refusals.{lacks_object, lacks_attr, is_too_large, has_too_many_attrs}
use Rattle.ec_positions.specs.Positions.{position_list, position_of, first_touched, count_touched, write_of, change_of}
use Rattle.ec_positions.specs.Laws.{geometry}
use Rattle.ec_positions.proofs.ListLemmas.{length-position_list}
use Rattle.ec_positions.proofs.MapLemmas.{position_if}
use Rattle.ec_positions.proofs.WriteLemmas.{overlaid_end, longer, units_inside, write_leads}

-- ---- a write

no_list : (list : List ℕ) → length list ≡ 0 → list ≡ []
no_list [] e = refl
no_list (x ∷ list) e = absurd (omega (arith, e))

-- nothing has no list
pub empty_list : (code : CodeRows) (unit p : ℕ) → position_list code unit [] p ≡ []
empty_list code unit p = no_list (position_list code unit [] p) (length-position_list code unit [] p ∙ none)
  where
    none : shard_len code.k unit 0 ≡ 0
    none = grind arith

-- what a position has of an object that may be there
list_in : (code : CodeRows) (unit p : ℕ) (o : Option Object) → changes.bytes_of (position_if code unit p o) ≡ position_list code unit (bytes_in o) p
list_in code unit p None = sym (empty_list code unit p)
list_in code unit p (Some o) = refl

attrs_are : (code : CodeRows) (unit p : ℕ) (o : Option Object) → changes.attrs_of (position_if code unit p o) ≡ attrs_in o
attrs_are code unit p None = refl
attrs_are code unit p (Some o) = refl

pub write_comes_to : (code : CodeRows) (unit p off : ℕ) (bytes : List ℕ) (o : Option Object) → 1 ≤ code.k → 1 ≤ unit
    → changed (geometry code unit) (write_of code unit p o off bytes) (position_if code unit p o)
    ≡ Some (position_of code unit p (record { bytes = overlaid off bytes (bytes_in o); attrs = attrs_in o }))
write_comes_to code unit p off bytes o some_k some =
    let new = overlaid off bytes (bytes_in o) in
    let at = first_touched (code.k * unit) off (length bytes) * unit in
    let len = count_touched (code.k * unit) off (length bytes) * unit in
    let list : written at (take len (drop at (position_list code unit new p))) (resized (shard_len code.k unit (length new)) (changes.bytes_of (position_if code unit p o))) ≡ position_list code unit new p =
    ap (λ l. written at (take len (drop at (position_list code unit new p))) (resized (shard_len code.k unit (length new)) l)) (list_in code unit p o)
    ∙ write_leads code unit p off bytes (bytes_in o) some_k some in
    λ i. Some (record { bytes = list i; size = length new; attrs = attrs_are code unit p o i })

extent_fits : (size at len n : ℕ) (b c : Bool) → size ≤ max_size → b ≡ true → c ≡ true → at + len ≤ n → (nat_le size max_size && (b && (c && nat_le (at + len) n))) ≡ true
extent_fits size at len n true true small e f inside = grind (arith, common_steps)
extent_fits size at len n true false small e f inside = absurd (false≢true f)
extent_fits size at len n false c small e f inside = absurd (false≢true e)

whole_units : (n unit : ℕ) → ((n * unit) % unit == 0) ≡ true
whole_units n unit = let none : (n * unit) % unit ≡ 0 = mul-mod_left n unit in grind (arith, common_steps)

taken : (at len : ℕ) (list : List ℕ) → at + len ≤ length list → length (take len (drop at list)) ≡ len
taken at len list inside = grind (arith, places)

write_extent : (code : CodeRows) (unit p off : ℕ) (bytes old : List ℕ) → 1 ≤ code.k → 1 ≤ unit → length (overlaid off bytes old) ≤ max_size
    → fits_extent (geometry code unit) (length (overlaid off bytes old)) (first_touched (code.k * unit) off (length bytes) * unit)
    (length (take (count_touched (code.k * unit) off (length bytes) * unit) (drop (first_touched (code.k * unit) off (length bytes) * unit) (position_list code unit (overlaid off bytes old) p)))) ≡ true
write_extent code unit p off bytes old some_k some small =
    let at = first_touched (code.k * unit) off (length bytes) * unit in
    let len = count_touched (code.k * unit) off (length bytes) * unit in
    let n = shard_len code.k unit (length (overlaid off bytes old)) in
    let inside : at + len ≤ n = units_inside code unit off bytes old some_k some in
    let long = taken at len (position_list code unit (overlaid off bytes old) p) (subst (λ m. at + len ≤ m) (sym (length-position_list code unit (overlaid off bytes old) p)) inside) in
    ap (fits_extent (geometry code unit) (length (overlaid off bytes old)) at) long
    ∙ extent_fits (length (overlaid off bytes old)) at len n _ _ small (whole_units (first_touched (code.k * unit) off (length bytes)) unit) (whole_units (count_touched (code.k * unit) off (length bytes)) unit) inside

both_hold : (a b : Bool) → a ≡ true → b ≡ true → (a && b) ≡ true
both_hold true true e f = refl
both_hold true false e f = absurd (false≢true f)
both_hold false b e f = absurd (false≢true e)

at_most : (a b : ℕ) → a ≤ b → nat_le a b ≡ true
at_most a b le = grind (arith, common_steps)

not_above : (a b : ℕ) → nat_lt a b ≡ false → b ≤ a
not_above a b e = grind (arith, common_steps)

pub write_fits : (code : CodeRows) (unit p off : ℕ) (bytes : List ℕ) (o : Option Object) → 1 ≤ code.k → 1 ≤ unit → length (overlaid off bytes (bytes_in o)) ≤ max_size
    → fits_change (geometry code unit) (write_of code unit p o off bytes) (position_if code unit p o) ≡ true
write_fits code unit p off bytes None some_k some small = write_extent code unit p off bytes [] some_k some small
write_fits code unit p off bytes (Some o) some_k some small =
    both_hold _ _ (at_most (length o.bytes) (length (overlaid off bytes o.bytes)) (longer off bytes o.bytes)) (write_extent code unit p off bytes o.bytes some_k some small)

-- ---- each kind

-- an object may become the one after the change
pub record MayChange (c : Update) (o : Option Object) : Type 0 where
  pub object : lacks_object c o ≡ false
  pub attr : lacks_attr c o ≡ false
  pub small : is_too_large c o ≡ false
  pub attrs : has_too_many_attrs c o ≡ false

pub comes_to : (code : CodeRows) (unit p : ℕ) (c : Update) (o : Option Object) → 1 ≤ code.k → 1 ≤ unit → MayChange c o
    → changed (geometry code unit) (change_of code unit p o c) (position_if code unit p o) ≡ position_if code unit p (object_after c o)
comes_to code unit p (Append name bytes) o some_k some may =
    write_comes_to code unit p (length (bytes_in o)) bytes o some_k some
    ∙ (λ i. Some (position_of code unit p (record { bytes = overlaid_end bytes (bytes_in o) i; attrs = attrs_in o })))
comes_to code unit p (WriteAt name off bytes) o some_k some may = write_comes_to code unit p off bytes o some_k some
comes_to code unit p (Full name bytes) None some_k some may = refl
comes_to code unit p (Full name bytes) (Some o) some_k some may = refl
comes_to code unit p (Delete name) o some_k some may = refl
comes_to code unit p (SetAttr name attr value) None some_k some may = absurd (true≢false may.object)
comes_to code unit p (SetAttr name attr value) (Some o) some_k some may = refl
comes_to code unit p (RemoveAttr name attr) None some_k some may = absurd (true≢false may.object)
comes_to code unit p (RemoveAttr name attr) (Some o) some_k some may = refl

there : {X : Type 0} (o : Option X) → is_none o ≡ false → is_some o ≡ true
there None e = absurd (true≢false e)
there (Some o) e = refl

room_for : {X : Type 0} (o : Option X) (n : ℕ) → (is_none o && nat_le max_attrs n) ≡ false → (is_some o || nat_lt n max_attrs) ≡ true
room_for (Some o) n e = refl
room_for None n e = grind (arith, common_steps)

pub fits_there : (code : CodeRows) (unit p : ℕ) (c : Update) (o : Option Object) → 1 ≤ code.k → 1 ≤ unit → MayChange c o
    → fits_change (geometry code unit) (change_of code unit p o c) (position_if code unit p o) ≡ true
fits_there code unit p (Append name bytes) o some_k some may =
    write_fits code unit p (length (bytes_in o)) bytes o some_k some
    (subst (λ l. length l ≤ max_size) (sym (overlaid_end bytes (bytes_in o))) (not_above max_size (length (bytes_in o ++ bytes)) may.small))
fits_there code unit p (WriteAt name off bytes) o some_k some may =
    write_fits code unit p off bytes o some_k some (not_above max_size (length (overlaid off bytes (bytes_in o))) may.small)
fits_there code unit p (Full name bytes) o some_k some may =
    let long = length-position_list code unit bytes p in
    both_hold _ _ (at_most (length bytes) max_size (not_above max_size (length bytes) may.small)) (grind (arith, common_steps))
fits_there code unit p (Delete name) None some_k some may = absurd (true≢false may.object)
fits_there code unit p (Delete name) (Some o) some_k some may = refl
fits_there code unit p (SetAttr name attr value) None some_k some may = absurd (true≢false may.object)
fits_there code unit p (SetAttr name attr value) (Some o) some_k some may =
    both_hold _ _ (at_most (length value) max_value (not_above max_value (length value) may.small))
    (room_for (fin.get o.attrs attr) (fin.len o.attrs) may.attrs)
fits_there code unit p (RemoveAttr name attr) None some_k some may = absurd (true≢false may.object)
fits_there code unit p (RemoveAttr name attr) (Some o) some_k some may = there (fin.get o.attrs attr) may.attr

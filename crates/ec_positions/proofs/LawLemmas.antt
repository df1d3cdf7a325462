-- The law of positions, for each change that is not refused.
use Rattle.std.proofs.Common.{◌≡◌, Bool, true, false, nat_lt, nat_le, ◌&&◌, is_none, List, [], ◌∷◌, refl, ap, ◌∙◌, None}
use Rattle.std.specs.FinMap as fin
use Rattle.std.proofs.lemmas.Bool.{false≢true}
use Rattle.shard_model.specs.Changes.{fits_change, changed}
use Rattle.shard_model.specs.Objects.{put}
use Rattle.ec_positions.specs.Objects.{Objects, max_objects, max_usage, usage}
use Rattle.ec_positions.specs.Updates.{Update, name_of, after, object_after}
use Rattle.ec_positions.specs.Refusals.{Refusal, Absent, NoAttr, TooLarge, TooManyObjects, TooFull, TooManyAttrs, first_of, refusal_of, lacks_object, lacks_attr, is_too_large, has_too_many_attrs, is_new}
use Rattle.ec_positions.specs.Positions.{shard_of, position_change}
use Rattle.ec_positions.specs.Laws.{geometry, ChangesKeepPositions}
use Rattle.ec_positions.proofs.MapLemmas.{get-shard_of, shard_of-put}
use Rattle.ec_positions.proofs.KindLemmas.{MayChange, comes_to, fits_there}

-- no cause holds if none is the first
none_first : (b : Bool) (why : Refusal) (causes : List (Bool × Refusal)) → first_of ((b, why) ∷ causes) ≡ None → (b ≡ false) × (first_of causes ≡ None)
none_first true why causes e = absurd (false≢true (ap is_none e))
none_first false why causes e = (refl, e)

none_of_six : (a b c d e f : Bool)
    → first_of ((a, Absent) ∷ (b, NoAttr) ∷ (c, TooLarge) ∷ (d, TooManyObjects) ∷ (e, TooFull) ∷ (f, TooManyAttrs) ∷ []) ≡ None
    → ((a ≡ false) × (b ≡ false)) × ((c ≡ false) × (f ≡ false))
none_of_six a b c d e f none =
    let one = none_first a Absent ((b, NoAttr) ∷ (c, TooLarge) ∷ (d, TooManyObjects) ∷ (e, TooFull) ∷ (f, TooManyAttrs) ∷ []) none in
    let two = none_first b NoAttr ((c, TooLarge) ∷ (d, TooManyObjects) ∷ (e, TooFull) ∷ (f, TooManyAttrs) ∷ []) one.1 in
    let three = none_first c TooLarge ((d, TooManyObjects) ∷ (e, TooFull) ∷ (f, TooManyAttrs) ∷ []) two.1 in
    let four = none_first d TooManyObjects ((e, TooFull) ∷ (f, TooManyAttrs) ∷ []) three.1 in
    let five = none_first e TooFull ((f, TooManyAttrs) ∷ []) four.1 in
    let six = none_first f TooManyAttrs [] five.1 in
    ((one.0, two.0), (three.0, six.0))

pub may_change : (m : Objects) (c : Update) → refusal_of m c ≡ None → MayChange c (fin.get m (name_of c))
may_change m c none =
    let o = fin.get m (name_of c) in
    let all = none_of_six (lacks_object c o) (lacks_attr c o) (is_too_large c o) (is_new c o && nat_le max_objects (fin.len m)) (nat_lt max_usage (usage (after m c))) (has_too_many_attrs c o) none in
    record { object = all.0.0; attr = all.0.1; small = all.1.0; attrs = all.1.1 }

pub changes_keep_positions : ChangesKeepPositions
changes_keep_positions code unit p c m some_k some none =
    let o = fin.get m (name_of c) in
    let may = may_change m c none in
    let change = position_change code unit p c m in
    let here = get-shard_of code unit p m (name_of c) in
    record {
      fit = ap (fits_change (geometry code unit) change) here ∙ fits_there code unit p c o some_k some may;
      leads =
          ap (λ x. put (shard_of code unit p m) (name_of c) (changed (geometry code unit) change x)) here
          ∙ ap (put (shard_of code unit p m) (name_of c)) (comes_to code unit p c o some_k some may)
          ∙ shard_of-put code unit p m (name_of c) (object_after c o);
    }

-- After an update the slots show the objects after it.
use Rattle.std.proofs.Common.{◌≡◌, ℕ, ◌<◌, ◌≤◌, ◌^◌, Bool, true, false, ◌&&◌, nat_lt, nat_le, is_none, List, [], ◌∷◌, ◌++◌, refl, sym, ap, ◌∙◌, subst, arith, Option, Some, None}
use Rattle.std.specs.List.{All}
use Rattle.std.specs.FinMap as fin
use Rattle.std.specs.Prelude.{IfSome}
use Rattle.std.proofs.lemmas.Bool.{false≢true}
use Rattle.std.proofs.lemmas.Grind.{common_steps}
use Rattle.ec_model.specs.Codes.{CodeRows, HasPosition}
use Rattle.ec_model.specs.Versions.{Version}
use Rattle.shard_model.specs.Changes.{changed}
use Rattle.shard_model.specs.Objects.{put}
use Rattle.shard_model.specs.Shards.{Shard, stepped}
use Rattle.shard_model.specs.Steps.{Step}
use Rattle.shard_store.specs.Shelved.{Shelved}
use Rattle.shard_store.specs.Shelves.{store_at}
use Rattle.shard_store.specs.Stored.{told_in}
use Rattle.shard_store.specs.Stories.{shard_after}
use Rattle.shard_store.specs.Told.{Told, IsAccepted, with_step, all_accepted}
use Rattle.shard_store.specs.declared.store.Store.{Store}
use Rattle.ec_positions.specs.Objects.{Objects, bytes_in, max_objects, max_usage, usage}
use Rattle.ec_positions.specs.Positions.{position_change}
use Rattle.ec_positions.specs.Refusals.{Refusal, Absent, NoAttr, TooLarge, TooManyObjects, TooFull, TooManyAttrs, first_of, refusal_of, lacks_object, lacks_attr, is_too_large, is_new, has_too_many_attrs}
use Rattle.ec_positions.specs.Updates.{Update, name_of, after}
use Rattle.ec_positions.proofs.LawLemmas.{changes_keep_positions}
use Rattle.ec_pipeline.specs.Shelving.{BecomesAt}
use Rattle.ec_pipeline.specs.Showing.{IsPosition, Shows, entry_step, IsChanged}

-- one step behind none that are staged
one_step : (t : Told) (step : Step) → IsAccepted t → (all_accepted (with_step t step)).shard ≡ stepped t.shard step
one_step t step none = ap (λ staged. shard_after t.shard (staged ++ step ∷ [])) none

moved : (code : CodeRows) (unit p : ℕ) (version prior : Version) (c : Update) (m : Objects) → 1 ≤ code.k → 1 ≤ unit → refusal_of m c ≡ None
    → (t : Told) → IsAccepted t → IsPosition code unit p m t → IsPosition code unit p (after m c) (all_accepted (with_step t (entry_step code unit p version prior c m)))
moved code unit p version prior c m some_k some none t accepted is =
    let step = entry_step code unit p version prior c m in
    let next = one_step t step accepted in
    record {
      geometry_is = ap (λ (s : Shard). s.geometry) next ∙ is.geometry_is;
      objects_are =
          ap (λ (s : Shard). s.state.objects) next
          ∙ (λ i. put (is.objects_are i) (name_of c) (changed (is.geometry_is i) (position_change code unit p c m) (fin.get (is.objects_are i) (name_of c))))
          ∙ (changes_keep_positions code unit p c m some_k some none).leads;
    }

moved_at : (code : CodeRows) (unit p : ℕ) (version prior : Version) (c : Update) (m : Objects) → 1 ≤ code.k → 1 ≤ unit → refusal_of m c ≡ None
    → (old new : Option Store) → IfSome old (λ store. IsAccepted (told_in store)) → IfSome old (λ store. IsPosition code unit p m (told_in store))
    → BecomesAt (λ t. all_accepted (with_step t (entry_step code unit p version prior c m))) old new → IfSome new (λ store. IsPosition code unit p (after m c) (told_in store))
moved_at code unit p version prior c m some_k some none None new accepted is told = subst (λ (o : Option Store). IfSome o (λ store. IsPosition code unit p (after m c) (told_in store))) (sym told) tt
moved_at code unit p version prior c m some_k some none (Some old) None accepted is told = absurd told
moved_at code unit p version prior c m some_k some none (Some old) (Some new) accepted is told =
    subst (IsPosition code unit p (after m c)) (sym told.story) (moved code unit p version prior c m some_k some none (told_in old) accepted is)

-- ---- objects after an allowed update take no more than they may

later : (b : Bool) (why : Refusal) (causes : List (Bool × Refusal)) → first_of ((b, why) ∷ causes) ≡ None → first_of causes ≡ None
later true why causes e = absurd (false≢true (ap is_none e))
later false why causes e = e

holds_not : (b : Bool) (why : Refusal) (causes : List (Bool × Refusal)) → first_of ((b, why) ∷ causes) ≡ None → b ≡ false
holds_not true why causes e = absurd (false≢true (ap is_none e))
holds_not false why causes e = refl

fifth_of_six : (a b c d e f : Bool)
    → first_of ((a, Absent) ∷ (b, NoAttr) ∷ (c, TooLarge) ∷ (d, TooManyObjects) ∷ (e, TooFull) ∷ (f, TooManyAttrs) ∷ []) ≡ None → e ≡ false
fifth_of_six a b c d e f none =
    let one = later a Absent ((b, NoAttr) ∷ (c, TooLarge) ∷ (d, TooManyObjects) ∷ (e, TooFull) ∷ (f, TooManyAttrs) ∷ []) none in
    let two = later b NoAttr ((c, TooLarge) ∷ (d, TooManyObjects) ∷ (e, TooFull) ∷ (f, TooManyAttrs) ∷ []) one in
    let three = later c TooLarge ((d, TooManyObjects) ∷ (e, TooFull) ∷ (f, TooManyAttrs) ∷ []) two in
    let four = later d TooManyObjects ((e, TooFull) ∷ (f, TooManyAttrs) ∷ []) three in
    holds_not e TooFull ((f, TooManyAttrs) ∷ []) four

not_above : (a b : ℕ) → nat_lt a b ≡ false → b ≤ a
not_above a b is = grind (arith, common_steps, is)

pub within_after : (m : Objects) (c : Update) → refusal_of m c ≡ None → usage (after m c) ≤ max_usage
within_after m c none =
    let o = fin.get m (name_of c) in
    not_above max_usage (usage (after m c))
    (fifth_of_six (lacks_object c o) (lacks_attr c o) (is_too_large c o) (is_new c o && nat_le max_objects (fin.len m)) (nat_lt max_usage (usage (after m c))) (has_too_many_attrs c o) none)

pub shows_after : (code : CodeRows) (unit set : ℕ) (version prior : Version) (c : Update) (m : Objects) (old new : Shelved) → 1 ≤ code.k → 1 ≤ unit
    → refusal_of m c ≡ None → ((name : List ℕ) → All (λ b. b < 2 ^ 8) (bytes_in (fin.get (after m c) name)))
    → ((s : ℕ) → HasPosition set s → IfSome (store_at old s) (λ store. IsAccepted (told_in store)))
    → Shows code unit set m old → IsChanged code unit set version prior c m old new → Shows code unit set (after m c) new
shows_after code unit set version prior c m old new some_k some none bytes accepted shows changed = record {
  positions = λ s has. moved_at code unit s version prior c m some_k some none (store_at old s) (store_at new s) (accepted s has) (shows.positions s has)
      (changed.inside s has);
  bytes = bytes;
  within = within_after m c none;
}

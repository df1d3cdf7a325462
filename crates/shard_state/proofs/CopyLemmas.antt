-- A copy of the places and of the log rests on what the original rests on.
use Rattle.std.proofs.Common.{◌≡◌, ◌≤◌, ℕ, List, [], ◌∷◌, ◌++◌, map, refl, sym, ap, subst, ◌∙◌, inl, inr, Option, Some, None, arith, append_assoc}
use Rattle.std.specs.List.{AllByRecursion}
use Rattle.std.specs.Ordering.{ordering_reverse, match_ordering}
use Rattle.std.specs.Cmp.Lexicographic.{nat_list_cmp_total}
use Rattle.std.specs.declared.cmp.Ordering.TheVariants.{Less, Greater}
use Rattle.std.specs.BTreeMap.{insert_entry}
use Rattle.std.specs.List.Sorted.{IsStrictlySortedBy}
use Rattle.std.specs.Map.{keys_of}
use Rattle.std.specs.FinMap as fin
use Rattle.std.proofs.lemmas.Map.Keys.{sorted_head, sorted_tail}
use Rattle.shard_model.specs.Objects.{ShardObject, ShardObjects, Geometry, Named}
use Rattle.shard_model.specs.Changes.{Undo, Fresh, Extent, Kept, Attr, Settled}
use Rattle.shard_model.specs.States.{Logged, undone}
use Rattle.shard_state.specs.Copies.{IsCopy, AreCopies}
use Rattle.shard_state.specs.Sound.{Recorded, logged_in, IsSound, AreSound, IsKept, HasPlace}
use Rattle.shard_state.proofs.MapLemmas.{by_name}
use Rattle.shard_state.proofs.TotalsLemmas.{Place}

-- a name above all those before it goes last
among : (k : List ℕ) (es : List Place) (place : Place) (rest : List Place) → AllByRecursion (λ y. by_name k y ≡ Less) (keys_of (es ++ place ∷ rest)) → by_name k place.0 ≡ Less
among k [] place rest all = all.0
among k (e ∷ es) place rest all = among k es place rest all.1

last_inserted : (es : List Place) (place : Place) (rest : List Place) → IsStrictlySortedBy by_name (keys_of (es ++ place ∷ rest))
    → insert_entry by_name es place.0 place.1 ≡ es ++ place ∷ []
last_inserted [] place rest sorted = refl
last_inserted (e ∷ es) place rest sorted =
    let above : by_name place.0 e.0 ≡ Greater =
    nat_list_cmp_total.antisymm place.0 e.0 ∙ ap ordering_reverse (among e.0 es place rest (sorted_head by_name e.0 (keys_of (es ++ place ∷ rest)) sorted)) in
    ap (λ r. match_ordering r (place ∷ e ∷ es) ((e.0, place.1) ∷ es) (e ∷ insert_entry by_name es place.0 place.1)) above
    ∙ ap (λ l. e ∷ l) (last_inserted es place rest (sorted_tail by_name e.0 (keys_of (es ++ place ∷ rest)) sorted))

-- the places so far with one more, and those left, are all
pub place_copied : (so_far rest all new : List Place) (place : Place) → so_far ++ place ∷ rest ≡ all → IsStrictlySortedBy by_name (keys_of all)
    → new ≡ insert_entry by_name so_far place.0 place.1 → new ++ rest ≡ all
place_copied so_far rest all new place whole sorted is =
    let last = last_inserted so_far place rest (subst (λ (l : List Place). IsStrictlySortedBy by_name (keys_of l)) (sym whole) sorted) in
    ap (λ (l : List Place). l ++ rest) (is ∙ last) ∙ append_assoc so_far (place ∷ []) rest ∙ whole

pub same_log : (olds news : List Recorded) → AreCopies olds news → map logged_in news ≡ map logged_in olds
same_log [] news copies = ap (map logged_in) copies
same_log (old ∷ olds) [] copies = absurd copies
same_log (old ∷ olds) (new ∷ news) copies = λ i. copies.0.logged i ∷ same_log olds news copies.1 i

more_room : (g : Geometry) (room more : ℕ) (u : Undo) (o : Option ShardObject) → room ≤ more → IsSound g room u o → IsSound g more u o
more_room g room more Fresh o le sound = tt
more_room g room more (Extent size at before) None le sound = tt
more_room g room more (Extent size at before) (Some o) le sound = sound
more_room g room more (Kept before) o le sound = sound
more_room g room more (Attr attr before) None le sound = tt
more_room g room more (Attr attr None) (Some o) le sound = tt
more_room g room more (Attr attr (Some value)) (Some o) le sound = (
  sound.0,
  elim sound.1 [
    | inl there ↦ inl there
    | inr few ↦ inr (few.0, omega (arith, few.1, le))
  ],
)
more_room g room more Settled o le sound = tt

copies_sound : (g : Geometry) (m : ShardObjects) (olds news : List Recorded) → AreCopies olds news → AreSound g m olds → AreSound g m news
copies_sound g m [] news copies sound = subst (AreSound g m) (sym copies) tt
copies_sound g m (old ∷ olds) [] copies sound = absurd copies
copies_sound g m (old ∷ olds) (new ∷ news) copies sound = (
  more_room g old.room new.room new.logged.undo (fin.get (undone g m (map logged_in news)) new.logged.name) copies.0.room
      (subst (λ (ns : List Logged). IsSound g old.room new.logged.undo (fin.get (undone g m ns) new.logged.name)) (sym (same_log olds news copies.1))
      (subst (λ (n : Logged). IsSound g old.room n.undo (fin.get (undone g m (map logged_in olds)) n.name)) (sym copies.0.logged) sound.0)),
  copies_sound g m olds news copies.1 sound.1,
)

copies_placed : (places : Named (Option ShardObject)) (olds news : List Recorded) → AreCopies olds news → AllByRecursion (λ r. HasPlace places r.logged.name) olds
    → AllByRecursion (λ r. HasPlace places r.logged.name) news
copies_placed places [] news copies all = subst (AllByRecursion (λ r. HasPlace places r.logged.name)) (sym copies) tt
copies_placed places (old ∷ olds) [] copies all = absurd copies
copies_placed places (old ∷ olds) (new ∷ news) copies all =
    (subst (λ (n : Logged). HasPlace places n.name) (sym copies.0.logged) all.0, copies_placed places olds news copies.1 all.1)

pub copied_kept : (g : Geometry) (places : Named (Option ShardObject)) (m : ShardObjects) (olds news : List Recorded) → AreCopies olds news → IsKept g places m olds → IsKept g places m news
copied_kept g places m olds news copies kept = record {
  held = kept.held;
  sound = copies_sound g m olds news copies kept.sound;
  placed = copies_placed places olds news copies kept.placed;
}

pub one_copied : (olds news : List Recorded) (old new : Recorded) → AreCopies olds news → IsCopy old new → AreCopies (olds ++ old ∷ []) (news ++ new ∷ [])
one_copied [] news old new copies copy = subst (λ (l : List Recorded). AreCopies (old ∷ []) (l ++ new ∷ [])) (sym copies) (copy, refl)
one_copied (x ∷ olds) [] old new copies copy = absurd copies
one_copied (x ∷ olds) (y ∷ news) old new copies copy = (copies.0, one_copied olds news old new copies.1 copy)

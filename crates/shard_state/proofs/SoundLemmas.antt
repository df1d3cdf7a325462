-- The newest entry is sound on the present objects; without it the others are sound on what taking it back leaves.
use Rattle.std.proofs.Common.{◌≡◌, ◌⊎◌, inl, inr, ℕ, ◌+◌, ◌*◌, ◌-◌, ◌<◌, ◌≤◌, Bool, true, false, cond, List, [], ◌∷◌, ◌++◌, take, drop, min, map, length, refl, sym, ap, subst, ◌∙◌, Option, Some, None, is_some, arith}
use Rattle.std.proofs.lemmas.Grind.{common_steps}
use Rattle.std.proofs.lemmas.List.{length-take, length-drop, places, map-append}
use Rattle.std.proofs.lemmas.Bool.{cases_lt, cond-true, false≢true}
use Rattle.std.specs.Cmp.Lexicographic.{nat_list_cmp_total}
use Rattle.std.specs.FinMap as fin
use Rattle.shard_model.specs.Limits.{max_attrs}
use Rattle.shard_model.specs.Objects.{ShardObject, ShardObjects, Geometry, Named, shard_len, IsHeld, MayBeHeld}
use Rattle.shard_model.specs.Changes.{Change, Write, Replace, Remove, SetAttr, RemoveAttr, Undo, Fresh, Extent, Kept, Attr, Settled, restored, changed, undo_of, whole_undo, written, resized, fits_change, bytes_of}
use Rattle.shard_model.specs.States.{Logged, undone_one, undone}
use Rattle.shard_model.proofs.PutLemmas.{is_name, is_name-refl}
use Rattle.shard_model.proofs.ShortLemmas.{set_short, removed_short}
use Rattle.shard_model.proofs.UndoLemmas.{shard_len-le, written_length}
use Rattle.shard_state.specs.Doing.{HasRoomFor}
use Rattle.shard_state.specs.Sound.{Recorded, logged_in, IsSound, AreSound}

pub undone-push : (g : Geometry) (m : ShardObjects) (ns : List Logged) (n : Logged) → undone g m (ns ++ n ∷ []) ≡ undone g (undone_one g m n) ns
undone-push g m [] n = refl
undone-push g m (x ∷ ns) n = ap (λ o. undone_one g o x) (undone-push g m ns n)

undone_last : (g : Geometry) (m : ShardObjects) (rs : List Recorded) (r : Recorded)
    → undone g m (map logged_in (rs ++ r ∷ [])) ≡ undone g (undone_one g m r.logged) (map logged_in rs)
undone_last g m rs r = ap (undone g m) (map-append logged_in rs (r ∷ [])) ∙ undone-push g m (map logged_in rs) r.logged

pub newest_sound : (g : Geometry) (m : ShardObjects) (rs : List Recorded) (r : Recorded) → AreSound g m (rs ++ r ∷ []) → IsSound g r.room r.logged.undo (fin.get m r.logged.name)
newest_sound g m [] r all = all.0
newest_sound g m (x ∷ rs) r all = newest_sound g m rs r all.1

pub others_sound : (g : Geometry) (m : ShardObjects) (rs : List Recorded) (r : Recorded) → AreSound g m (rs ++ r ∷ []) → AreSound g (undone_one g m r.logged) rs
others_sound g m [] r all = tt
others_sound g m (x ∷ rs) r all = (subst (λ o. IsSound g x.room x.logged.undo (fin.get o x.logged.name)) (undone_last g m rs r) all.0, others_sound g m rs r all.1)

pub pushed_sound : (g : Geometry) (m : ShardObjects) (rs : List Recorded) (r : Recorded) → AreSound g (undone_one g m r.logged) rs → IsSound g r.room r.logged.undo (fin.get m r.logged.name)
    → AreSound g m (rs ++ r ∷ [])
pushed_sound g m [] r all sound = (sound, tt)
pushed_sound g m (x ∷ rs) r all sound =
    (subst (λ o. IsSound g x.room x.logged.undo (fin.get o x.logged.name)) (sym (undone_last g m rs r)) all.0, pushed_sound g m rs r all.1 sound)

-- an object that a write fits is not longer than it is after it
pub write_longer : (g : Geometry) → 0 < g.k * g.unit → (fresh size at : ℕ) (bytes : List ℕ) (o : Option ShardObject) → MayBeHeld g o → fits_change g (Write fresh size at bytes) o ≡ true
    → length (bytes_of o) ≤ shard_len g size
write_longer g positive fresh size at bytes None held fit = omega arith
write_longer g positive fresh size at bytes (Some o) held fit =
    let bigger : o.size ≤ size = grind (arith, common_steps) in
    omega (arith, held.sized, shard_len-le g o.size size positive bigger)

-- what a write keeps is sound on what it makes
write_sound : (g : Geometry) → 0 < g.k * g.unit → (room fresh size at : ℕ) (bytes : List ℕ) (o : ShardObject) → IsHeld g o → fits_change g (Write fresh size at bytes) (Some o) ≡ true
    → IsSound g room (undo_of (Write fresh size at bytes) (Some o)) (changed g (Write fresh size at bytes) (Some o))
write_sound g positive room fresh size at bytes o held fit =
    let bigger : o.size ≤ size = grind (arith, common_steps) in
    let inside : at + length bytes ≤ shard_len g size = grind (arith, common_steps) in
    let before = take (length bytes) (drop at o.bytes) in
    let long : length before ≡ min (length bytes) (length o.bytes - at) = length-take (length bytes) (drop at o.bytes) ∙ ap (min (length bytes)) (length-drop at o.bytes) in (
      held.small,
      (
        omega (arith, written_length bytes o.bytes at (shard_len g size) inside, shard_len-le g o.size size positive bigger),
        elim (cases_lt at (length o.bytes)) [
          | inl lt ↦ inl (omega (arith, long, lt, held.sized))
          | inr ge ↦ inr (omega (arith, long, ge))
        ],
      ),
    )

whole_sound : (g : Geometry) (room : ℕ) (o x : Option ShardObject) → MayBeHeld g o → IsSound g room (whole_undo o) x
whole_sound g room None x held = tt
whole_sound g room (Some o) x held = held

-- a value that was set is there
set_sound : (g : Geometry) (room : ℕ) (attr value : List ℕ) (before : Option (List ℕ)) (o : ShardObject) → IsHeld g o → fin.get o.attrs attr ≡ before
    → IsSound g room (Attr attr before) (Some (record { bytes = o.bytes; size = o.size; attrs = fin.insert o.attrs attr value }))
set_sound g room attr value None o held is = tt
set_sound g room attr value (Some v) o held is = (
  held.short attr v is,
  inl (ap is_some (fin.get-insert nat_list_cmp_total o.attrs attr value attr ∙ cond-true (is_name attr attr) (Some value) (fin.get o.attrs attr) (is_name-refl attr))),
)

fewer : (n room : ℕ) (b : Bool) → b ≡ true → n ≤ 64 → 0 < n → 64 ≤ room → (cond b (n - 1) n < 64) × (cond b (n - 1) n < room)
fewer n room true is few some has = (omega (arith, few, some), omega (arith, few, some, has))
fewer n room false is few some has = absurd (false≢true is)

some_there : (m : Named (List ℕ)) (k : List ℕ) → is_some (fin.get m k) ≡ true → 0 < fin.len m
some_there m k is =
    elim (cases_lt 0 (fin.len m)) [
      | inl lt ↦ lt
      | inr ge ↦ absurd (false≢true (sym (ap (λ n. is_some (fin.get n k)) (fin.empty_of_len m (omega (arith, ge))) ∙ ap is_some (fin.get-empty _ k)) ∙ is))
    ]

-- if an attribute was taken away, there is room for it
removed_sound : (g : Geometry) (room : ℕ) (attr : List ℕ) (o : ShardObject) → IsHeld g o → is_some (fin.get o.attrs attr) ≡ true → max_attrs ≤ room
    → (before : Option (List ℕ)) → fin.get o.attrs attr ≡ before → IsSound g room (Attr attr before) (Some (record { bytes = o.bytes; size = o.size; attrs = fin.remove o.attrs attr }))
removed_sound g room attr o held is has None old = tt
removed_sound g room attr o held is has (Some v) old =
    let less = fewer (fin.len o.attrs) room (is_some (fin.get o.attrs attr)) is held.few (some_there o.attrs attr is) has in
    (held.short attr v old, inr (subst (λ n. (n < max_attrs) × (n < room)) (sym (fin.len-remove nat_list_cmp_total o.attrs attr)) less))

-- what is kept of a change that fits is sound on what the change makes
pub change_sound : (g : Geometry) → 0 < g.k * g.unit → (room : ℕ) (c : Change) (o : Option ShardObject) → MayBeHeld g o → fits_change g c o ≡ true → HasRoomFor c room
    → IsSound g room (undo_of c o) (changed g c o)
change_sound g positive room (Write fresh size at bytes) None held fit has = tt
change_sound g positive room (Write fresh size at bytes) (Some o) held fit has = write_sound g positive room fresh size at bytes o held fit
change_sound g positive room (Replace size bytes) o held fit has = whole_sound g room o (changed g (Replace size bytes) o) held
change_sound g positive room Remove o held fit has = whole_sound g room o None held
change_sound g positive room (SetAttr attr value) None held fit has = tt
change_sound g positive room (SetAttr attr value) (Some o) held fit has = set_sound g room attr value (fin.get o.attrs attr) o held refl
change_sound g positive room (RemoveAttr attr) None held fit has = tt
change_sound g positive room (RemoveAttr attr) (Some o) held fit has = removed_sound g room attr o held fit has (fin.get o.attrs attr) refl

extent_written : (some old : List ℕ) (at n : ℕ) → (at + length some ≤ n) ⊎ (length some ≡ 0) → length (written at some (resized n old)) ≡ n
extent_written some old at n (inl le) = written_length some old at n le
extent_written some old at n (inr none) = grind (arith, places)

few_back : (b : Bool) (n : ℕ) (m : Named (List ℕ)) → n ≤ 64 → (b ≡ true) ⊎ (n < 64) → cond b n (n + 1) ≤ 64
few_back true n m few either = few
few_back false n m few (inl e) = absurd (false≢true e)
few_back false n m few (inr lt) = omega (arith, lt)

few_gone : (b : Bool) (n : ℕ) → n ≤ 64 → cond b (n - 1) n ≤ 64
few_gone true n few = omega (arith, few)
few_gone false n few = few

-- what a sound undo brings back is an object as it may be
pub restored_held : (g : Geometry) (room : ℕ) (u : Undo) (o : Option ShardObject) → MayBeHeld g o → IsSound g room u o → MayBeHeld g (restored g u o)
restored_held g room Fresh o held sound = tt
restored_held g room (Extent size at before) None held sound = tt
restored_held g room (Extent size at before) (Some o) held sound =
    record { small = sound.0; sized = extent_written before o.bytes at (shard_len g size) sound.1.1; few = held.few; short = held.short }
restored_held g room (Kept before) o held sound = sound
restored_held g room (Attr attr before) None held sound = tt
restored_held g room (Attr attr None) (Some o) held sound =
    record {
      small = held.small;
      sized = held.sized;
      few = subst (λ n. n ≤ 64) (sym (fin.len-remove nat_list_cmp_total o.attrs attr)) (few_gone (is_some (fin.get o.attrs attr)) (fin.len o.attrs) held.few);
      short = removed_short o.attrs attr held.short;
    }
restored_held g room (Attr attr (Some value)) (Some o) held sound =
    let either : (is_some (fin.get o.attrs attr) ≡ true) ⊎ (fin.len o.attrs < 64) = elim sound.1 [ inl there ↦ inl there | inr less ↦ inr less.0 ] in
    record {
      small = held.small;
      sized = held.sized;
      few = subst (λ n. n ≤ 64) (sym (fin.len-insert nat_list_cmp_total o.attrs attr value)) (few_back (is_some (fin.get o.attrs attr)) (fin.len o.attrs) o.attrs held.few either);
      short = set_short o.attrs attr value held.short sound.0;
    }
restored_held g room Settled o held sound = held

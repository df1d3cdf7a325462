-- A state keeps what it rests on if an entry comes or goes.
use Rattle.std.proofs.Common.{◌≡◌, ℕ, ◌*◌, ◌<◌, Bool, true, false, cond, List, [], ◌∷◌, ◌++◌, refl, sym, ap, subst, ◌∙◌, Option, Some, is_some}
use Rattle.std.specs.List.{AllByRecursion}
use Rattle.std.proofs.lemmas.Bool.{cond-true}
use Rattle.std.specs.Cmp.Lexicographic.{nat_list_cmp_total}
use Rattle.std.specs.FinMap as fin
use Rattle.shard_model.specs.Objects.{ShardObject, ShardObjects, Geometry, Named, put, MayBeHeld, AreHeld}
use Rattle.shard_model.specs.Changes.{restored, changed, undo_of, fits_change}
use Rattle.shard_model.specs.Steps.{Entry}
use Rattle.shard_model.specs.States.{Logged, undone_one, logged, effect}
use Rattle.shard_model.proofs.PutLemmas.{get-put, is_name, is_name-refl}
use Rattle.shard_model.proofs.ReplayLemmas
use Rattle.shard_state.specs.Doing.{HasRoomFor}
use Rattle.shard_state.specs.Places.{joined, inside, HasMade}
use Rattle.shard_state.specs.Sound.{Recorded, IsSound, AreSound, HasPlace, IsKept}
use Rattle.shard_state.proofs.PlaceLemmas.{get-inside, inside-insert}
use Rattle.shard_state.proofs.SoundLemmas.{newest_sound, others_sound, pushed_sound, change_sound, restored_held}

abbrev pub Places : Type 0
Places = Named (Option ShardObject)

some_cond : {X : Type 0} (b : Bool) (x : X) (o : Option X) → is_some o ≡ true → is_some (cond b (Some x) o) ≡ true
some_cond true x o h = refl
some_cond false x o h = h

-- a place stays if another is changed
still_placed : (places : Places) (k : List ℕ) (x : Option ShardObject) (rs : List Recorded) → AllByRecursion (λ r. HasPlace places r.logged.name) rs
    → AllByRecursion (λ r. HasPlace (fin.insert places k x) r.logged.name) rs
still_placed places k x [] all = tt
still_placed places k x (r ∷ rs) all =
    (ap is_some (fin.get-insert nat_list_cmp_total places k x r.logged.name) ∙ some_cond (is_name r.logged.name k) x (fin.get places r.logged.name) all.0, still_placed places k x rs all.1)

all_stay : (old new : Places) → ((q : List ℕ) → is_some (fin.get old q) ≡ true → is_some (fin.get new q) ≡ true) → (rs : List Recorded)
    → AllByRecursion (λ r. HasPlace old r.logged.name) rs → AllByRecursion (λ r. HasPlace new r.logged.name) rs
all_stay old new stays [] all = tt
all_stay old new stays (r ∷ rs) all = (stays r.logged.name all.0, all_stay old new stays rs all.1)

pub all_pushed : {X : Type 0} (P : X → Type 0) (xs : List X) (x : X) → AllByRecursion P xs → P x → AllByRecursion P (xs ++ x ∷ [])
all_pushed P [] x all p = (p, tt)
all_pushed P (y ∷ xs) x all p = (all.0, all_pushed P xs x all.1 p)

pub last_of : {X : Type 0} (P : X → Type 0) (xs : List X) (x : X) → AllByRecursion P (xs ++ x ∷ []) → P x
last_of P [] x all = all.0
last_of P (y ∷ xs) x all = last_of P xs x all.1

front_of : {X : Type 0} (P : X → Type 0) (xs : List X) (x : X) → AllByRecursion P (xs ++ x ∷ []) → AllByRecursion P xs
front_of P [] x all = tt
front_of P (y ∷ xs) x all = (all.0, front_of P xs x all.1)

-- if places were made, and nothing else was done, the state keeps what it rests on
pub made_kept : (g : Geometry) (old made : Places) (name : List ℕ) (rs : List Recorded) → HasMade name old made → IsKept g old (inside old) rs → IsKept g made (inside made) rs
made_kept g old made name rs has kept =
    subst (λ m. IsKept g made m rs) (sym has.same) (record { held = kept.held; sound = kept.sound; placed = all_stay old made has.stays rs kept.placed })

-- an entry comes to the place of its name
module _ (g : Geometry) (positive : 0 < g.k * g.unit) (old made : Places) (e : Entry) (has : HasMade e.name old made) where
  pub here : joined (fin.get made e.name) ≡ fin.get (inside old) e.name
  here = sym (get-inside made e.name) ∙ ap (λ m. fin.get m e.name) has.same

  abbrev pub entered : Places
  entered = fin.insert made e.name (changed g e.change (joined (fin.get made e.name)))

  pub objects_entered : inside entered ≡ effect g (inside old) e
  objects_entered = inside-insert made e.name (changed g e.change (joined (fin.get made e.name))) ∙ (λ i. put (has.same i) e.name (changed g e.change (here i)))

  sound_there : (rs : List Recorded) (r : Recorded) → IsKept g old (inside old) rs → fits_change g e.change (fin.get (inside old) e.name) ≡ true
      → r.logged ≡ logged (inside old) e → HasRoomFor e.change r.room → AreSound g (effect g (inside old) e) (rs ++ r ∷ [])
  sound_there rs r kept fit is room =
      let m = inside old in
      let o = fin.get m e.name in
      let now : fin.get (effect g m e) e.name ≡ changed g e.change o = get-put m e.name (changed g e.change o) e.name ∙ cond-true (is_name e.name e.name) (changed g e.change o) o (is_name-refl e.name) in
      let back : undone_one g (effect g m e) r.logged ≡ m = ap (undone_one g (effect g m e)) is ∙ ReplayLemmas.one_back g positive m e (kept.held e.name) fit in
      let newest : IsSound g r.room (undo_of e.change o) (fin.get (effect g m e) e.name) =
      subst (IsSound g r.room (undo_of e.change o)) (sym now) (change_sound g positive r.room e.change o (kept.held e.name) fit room) in
      pushed_sound g (effect g m e) rs r (subst (λ o. AreSound g o rs) (sym back) kept.sound)
      (subst (λ (n : Logged). IsSound g r.room n.undo (fin.get (effect g m e) n.name)) (sym is) newest)

  pub entered_kept : (rs : List Recorded) (r : Recorded) → IsKept g old (inside old) rs → fits_change g e.change (fin.get (inside old) e.name) ≡ true
      → r.logged ≡ logged (inside old) e → HasRoomFor e.change r.room → IsKept g entered (inside entered) (rs ++ r ∷ [])
  entered_kept rs r kept fit is room =
      let x = changed g e.change (joined (fin.get made e.name)) in
      let place : HasPlace made r.logged.name = subst (λ (n : Logged). HasPlace made n.name) (sym is) has.there in
      subst (λ m. IsKept g entered m (rs ++ r ∷ [])) (sym objects_entered)
      (record {
        held = ReplayLemmas.effect_held g positive (inside old) e kept.held fit;
        sound = sound_there rs r kept fit is room;
        placed = still_placed made e.name x (rs ++ r ∷ []) (all_pushed (λ r. HasPlace made r.logged.name) rs r (all_stay old made has.stays rs kept.placed) place);
      })

held_at : (g : Geometry) (b : Bool) (x o : Option ShardObject) → MayBeHeld g x → MayBeHeld g o → MayBeHeld g (cond b x o)
held_at g true x o new old = new
held_at g false x o new old = old

pub put_held : (g : Geometry) (m : ShardObjects) (k : List ℕ) (x : Option ShardObject) → AreHeld g m → MayBeHeld g x → AreHeld g (put m k x)
put_held g m k x held new q = subst (MayBeHeld g) (sym (get-put m k x q)) (held_at g (is_name q k) x (fin.get m q) new (held q))

-- the newest entry is taken back in the place of its name
module _ (g : Geometry) (places : Places) (rs : List Recorded) (r : Recorded) (kept : IsKept g places (inside places) (rs ++ r ∷ [])) where
  abbrev pub gone : Places
  gone = fin.insert places r.logged.name (restored g r.logged.undo (joined (fin.get places r.logged.name)))

  pub place_there : HasPlace places r.logged.name
  place_there = last_of (λ r. HasPlace places r.logged.name) rs r kept.placed

  pub sound_here : IsSound g r.room r.logged.undo (joined (fin.get places r.logged.name))
  sound_here = subst (IsSound g r.room r.logged.undo) (get-inside places r.logged.name) (newest_sound g (inside places) rs r kept.sound)

  pub objects_gone : inside gone ≡ undone_one g (inside places) r.logged
  objects_gone =
      inside-insert places r.logged.name (restored g r.logged.undo (joined (fin.get places r.logged.name)))
      ∙ ap (λ o. put (inside places) r.logged.name (restored g r.logged.undo o)) (sym (get-inside places r.logged.name))

  pub gone_kept : IsKept g gone (inside gone) rs
  gone_kept =
      let m = inside places in
      let n = r.logged in
      subst (λ o. IsKept g gone o rs) (sym objects_gone)
      (record {
        held = put_held g m n.name (restored g n.undo (fin.get m n.name)) kept.held (restored_held g r.room n.undo (fin.get m n.name) (kept.held n.name) (newest_sound g m rs r kept.sound));
        sound = others_sound g m rs r kept.sound;
        placed = still_placed places n.name (restored g n.undo (joined (fin.get places n.name))) rs (front_of (λ r. HasPlace places r.logged.name) rs r kept.placed);
      })

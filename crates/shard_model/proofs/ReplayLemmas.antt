-- A step on the state of a replay gives the state of the replay with one step more.
use Rattle.std.proofs.Common.{◌≡◌, ℕ, ◌*◌, ◌<◌, Bool, true, false, cond, List, [], ◌∷◌, ◌++◌, map, refl, sym, ap, subst, ◌∙◌, Option}
use Rattle.std.specs.List.{AllByRecursion, list_any}
use Rattle.std.proofs.lemmas.Bool.{false≢true, cond-true, cond-false, or_cases}
use mathlib.Core.Logic.{inl, inr}
use Rattle.std.specs.FinMap as fin
use Rattle.ec_model.specs.Versions.{Version, is_up_to, is_same}
use Rattle.shard_model.specs.Fronts.{up_to, after}
use Rattle.shard_model.specs.Objects.{ShardObject, ShardObjects, Geometry, put, MayBeHeld, AreHeld}
use Rattle.shard_model.specs.Changes.{Undo, Settled, changed, undo_of, restored, fits_change}
use Rattle.shard_model.specs.Steps.{Entry}
use Rattle.shard_model.specs.States.{Logged, version_of, effect, logged, settled, undone_one, undone}
use Rattle.shard_model.specs.Replays.{entry_version, replayed, last_version, logged_all, AreRising, AreFitting}
use Rattle.shard_model.proofs.VersionLemmas.{up_to-trans, above-trans, above-weak, same-up_to, is_same-version}
use Rattle.shard_model.proofs.FrontLemmas.{AreUpTo}
use Rattle.shard_model.proofs.PutLemmas.{get-put, put_back, is_name, is_name-refl}
use Rattle.shard_model.proofs.UndoLemmas.{object_back, held_after}

module _ (g : Geometry) (positive : 0 < g.k * g.unit) where
  held_at : (m : ShardObjects) (k q : List ℕ) (x : Option ShardObject) (b : Bool) → MayBeHeld g x → MayBeHeld g (fin.get m q) → MayBeHeld g (cond b x (fin.get m q))
  held_at m k q x true new old = new
  held_at m k q x false new old = old

  pub put_held : (m : ShardObjects) (k : List ℕ) (x : Option ShardObject) → AreHeld g m → MayBeHeld g x → AreHeld g (put m k x)
  put_held m k x sized new q = subst (MayBeHeld g) (sym (get-put m k x q)) (held_at m k q x (is_name q k) new (sized q))

  pub effect_held : (m : ShardObjects) (e : Entry) → AreHeld g m → fits_change g e.change (fin.get m e.name) ≡ true → AreHeld g (effect g m e)
  effect_held m e sized fit = put_held m e.name _ sized (held_after g e.change (fin.get m e.name) (sized e.name) fit)

  pub replayed_held : (m : ShardObjects) (es : List Entry) → AreHeld g m → AreFitting g m es → AreHeld g (replayed g m es)
  replayed_held m [] sized fit = sized
  replayed_held m (e ∷ es) sized fit = replayed_held (effect g m e) es (effect_held m e sized fit.0) fit.1

  -- one entry is undone by what was kept of the objects before it
  pub one_back : (m : ShardObjects) (e : Entry) → MayBeHeld g (fin.get m e.name) → fits_change g e.change (fin.get m e.name) ≡ true → undone_one g (effect g m e) (logged m e) ≡ m
  one_back m e sized fit =
      let now = changed g e.change (fin.get m e.name) in
      let there : fin.get (effect g m e) e.name ≡ now = get-put m e.name now e.name ∙ cond-true _ _ _ (is_name-refl e.name) in
      ap (λ o. put (effect g m e) e.name (restored g (undo_of e.change (fin.get m e.name)) o)) there
      ∙ ap (put (effect g m e) e.name) (object_back g positive e.change (fin.get m e.name) sized fit)
      ∙ put_back m e.name now

  pub settled_above : (firm : Version) (n : Logged) → is_up_to n.version firm ≡ false → settled firm n ≡ n
  settled_above firm n above = λ i. record { version = n.version; prior = n.prior; name = n.name; kind = n.kind; undo = cond-false (is_up_to n.version firm) Settled n.undo above i }

  above_next : (firm : Version) (e : Entry) (es : List Entry) → is_up_to e.version firm ≡ false → AreRising e.version es → AreRising firm es
  above_next firm e [] above rising = tt
  above_next firm e (d ∷ es) above rising = (above-trans d.version e.version firm rising.0 (above-weak e.version firm above), rising.1)

  -- entries above what is firm are all undone
  all_back : (firm : Version) (m : ShardObjects) (es : List Entry) → AreRising firm es → AreHeld g m → AreFitting g m es → undone g (replayed g m es) (logged_all g firm m es) ≡ m
  all_back firm m [] rising sized fit = refl
  all_back firm m (e ∷ es) rising sized fit =
      ap (λ x. undone_one g x (settled firm (logged m e))) (all_back firm (effect g m e) es (above_next firm e es rising.0 rising.1) (effect_held m e sized fit.0) fit.1)
      ∙ ap (undone_one g (effect g m e)) (settled_above firm (logged m e) rising.0)
      ∙ one_back m e (sized e.name) fit.0

  -- undone down to v, they are the objects at v
  pub back_to : (firm v low : Version) (m : ShardObjects) (es : List Entry) → is_up_to firm v ≡ true → AreRising low es → AreHeld g m → AreFitting g m es
      → undone g (replayed g m es) (after version_of v (logged_all g firm m es)) ≡ replayed g m (up_to entry_version v es)
  back_to firm v low m [] le rising sized fit = refl
  back_to firm v low m (e ∷ es) le rising sized fit =
      elim (is_up_to e.version v) as (λ b. is_up_to e.version v ≡ b
      → undone g (replayed g (effect g m e) es) (cond b (after version_of v (logged_all g firm (effect g m e) es)) (settled firm (logged m e) ∷ logged_all g firm (effect g m e) es))
      ≡ replayed g m (cond b (e ∷ up_to entry_version v es) [])) [
        | true ↦ λ t. back_to firm v e.version (effect g m e) es le rising.1 (effect_held m e sized fit.0) fit.1
        | false ↦ λ t. all_back firm m (e ∷ es) (above-trans e.version v firm t le, rising.1) sized fit
      ] refl

  pub up_to-logged : (firm v : Version) (m : ShardObjects) (es : List Entry) → up_to version_of v (logged_all g firm m es) ≡ logged_all g firm m (up_to entry_version v es)
  up_to-logged firm v m [] = refl
  up_to-logged firm v m (e ∷ es) =
      elim (is_up_to e.version v) as (λ b. cond b (settled firm (logged m e) ∷ up_to version_of v (logged_all g firm (effect g m e) es)) []
      ≡ logged_all g firm m (cond b (e ∷ up_to entry_version v es) [])) [
        | true ↦ ap (λ ns. settled firm (logged m e) ∷ ns) (up_to-logged firm v (effect g m e) es)
        | false ↦ refl
      ]

  pub replayed-append : (m : ShardObjects) (es ds : List Entry) → replayed g m (es ++ ds) ≡ replayed g (replayed g m es) ds
  replayed-append m [] ds = refl
  replayed-append m (e ∷ es) ds = replayed-append (effect g m e) es ds

  pub logged_all-append : (firm : Version) (m : ShardObjects) (es ds : List Entry) → logged_all g firm m (es ++ ds) ≡ logged_all g firm m es ++ logged_all g firm (replayed g m es) ds
  logged_all-append firm m [] ds = refl
  logged_all-append firm m (e ∷ es) ds = ap (λ ns. settled firm (logged m e) ∷ ns) (logged_all-append firm (effect g m e) es ds)

  twice_settled : (firm v w : Version) (u : Undo) → is_up_to firm v ≡ true → (b : Bool) → is_up_to w firm ≡ b
      → cond (is_up_to w v) Settled u ≡ cond (is_up_to w v) Settled (cond b Settled u)
  twice_settled firm v w u le true e = cond-true (is_up_to w v) Settled u (up_to-trans w firm v e le) ∙ sym (cond-true (is_up_to w v) Settled Settled (up_to-trans w firm v e le))
  twice_settled firm v w u le false e = refl

  settled-settled : (firm v : Version) (n : Logged) → is_up_to firm v ≡ true → settled v n ≡ settled v (settled firm n)
  settled-settled firm v n le = λ i. record { version = n.version; prior = n.prior; name = n.name; kind = n.kind; undo = twice_settled firm v n.version n.undo le (is_up_to n.version firm) refl i }

  pub logged_all-firm : (firm v : Version) (m : ShardObjects) (es : List Entry) → is_up_to firm v ≡ true → logged_all g v m es ≡ map (settled v) (logged_all g firm m es)
  logged_all-firm firm v m [] le = refl
  logged_all-firm firm v m (e ∷ es) le = λ i. settled-settled firm v (logged m e) le i ∷ logged_all-firm firm v (effect g m e) es le i

  pub last-append : (v : Version) (es : List Entry) (e : Entry) → last_version v (es ++ e ∷ []) ≡ e.version
  last-append v [] e = refl
  last-append v (d ∷ es) e = last-append d.version es e

  -- v is one of the entries' versions
  abbrev is_at : Version → Logged → Bool
  is_at v n = is_same n.version v

  pub none_up_to : (v : Version) (es : List Entry) → AreRising v es → up_to entry_version v es ≡ []
  none_up_to v [] rising = refl
  none_up_to v (e ∷ es) rising = cond-false _ _ _ rising.0

  above_low : (firm v low : Version) (m : ShardObjects) (es : List Entry) → AreRising low es → list_any (is_at v) (logged_all g firm m es) ≡ true → is_up_to v low ≡ false
  above_low firm v low m [] rising h = absurd (false≢true h)
  above_low firm v low m (e ∷ es) rising h =
      elim (or_cases (is_same e.version v) (list_any (is_at v) (logged_all g firm (effect g m e) es)) h) [
        | inl same ↦ subst (λ w. is_up_to w low ≡ false) (is_same-version e.version v same) rising.0
        | inr more ↦ above-trans v e.version low (above_low firm v e.version (effect g m e) es rising.1 more) (above-weak e.version low rising.0)
      ]

  pub last_at : (firm v low : Version) (m : ShardObjects) (es : List Entry) → AreRising low es → list_any (is_at v) (logged_all g firm m es) ≡ true
      → last_version low (up_to entry_version v es) ≡ v
  last_at firm v low m [] rising h = absurd (false≢true h)
  last_at firm v low m (e ∷ es) rising h =
      elim (or_cases (is_same e.version v) (list_any (is_at v) (logged_all g firm (effect g m e) es)) h) [
        | inl same ↦
            let is = is_same-version e.version v same in
            ap (last_version low) (cond-true (is_up_to e.version v) (e ∷ up_to entry_version v es) [] (same-up_to e.version v same))
            ∙ ap (last_version e.version) (none_up_to v es (subst (λ w. AreRising w es) is rising.1)) ∙ is
        | inr more ↦
            let above = above_low firm v e.version (effect g m e) es rising.1 more in
            ap (last_version low) (cond-true (is_up_to e.version v) (e ∷ up_to entry_version v es) [] (above-weak v e.version above))
            ∙ last_at firm v e.version (effect g m e) es rising.1 more
      ]

  pub past_low : (v w : Version) (ns : List Logged) → is_up_to v w ≡ true → AllByRecursion (λ n. is_up_to n.version v ≡ true) ns → AreUpTo version_of w ns
  past_low v w [] le all = tt
  past_low v w (n ∷ ns) le all = (up_to-trans n.version v w all.0 le, past_low v w ns le all.1)

  pub past_any : (v w : Version) (ns : List Logged) → AllByRecursion (λ n. is_up_to n.version w ≡ true) ns → list_any (is_at v) ns ≡ true → is_up_to v w ≡ true
  past_any v w [] all h = absurd (false≢true h)
  past_any v w (n ∷ ns) all h =
      elim (or_cases (is_same n.version v) (list_any (is_at v) ns) h) [
        | inl same ↦ subst (λ u. is_up_to u w ≡ true) (is_same-version n.version v same) all.0
        | inr more ↦ past_any v w ns all.1 more
      ]

  kept_settled : (b : Bool) (u : Undo) → u ≡ Settled → u ≡ cond b Settled u
  kept_settled true u e = e
  kept_settled false u e = refl

  pub past_settled : (v : Version) (ns : List Logged) → AllByRecursion (λ n. n.undo ≡ Settled) ns → ns ≡ map (settled v) ns
  past_settled v [] all = refl
  past_settled v (n ∷ ns) all =
      λ i. record { version = n.version; prior = n.prior; name = n.name; kind = n.kind; undo = kept_settled (is_up_to n.version v) n.undo all.0 i } ∷ past_settled v ns all.1 i

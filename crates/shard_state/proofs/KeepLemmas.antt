-- A state keeps what it rests on if the log's bounds move or its objects are filled in.
use Rattle.std.proofs.Common.{◌≡◌, ◌≤◌, ◌&&◌, ◌==◌, nat_le, length, arith, ℕ, zero, suc, Bool, true, false, cond, List, [], ◌∷◌, map, drop, refl, sym, ap, subst, ◌∙◌, Option, Some, None, is_some}
use Rattle.std.specs.List.{AllByRecursion, list_all}
use Rattle.std.proofs.lemmas.Bool.{cond-false, true≢false, and_parts, leb-true, eqb-true}
use Rattle.std.specs.FinMap as fin
use Rattle.ec_model.specs.Versions.{Version, is_up_to}
use Rattle.shard_model.specs.Objects.{ShardObject, ShardObjects, Geometry, put, shard_len, IsHeld, MayBeHeld, AreHeld}
use Rattle.shard_model.specs.Changes.{Settled}
use Rattle.shard_model.specs.States.{State, Logged, settled, undone, fits, are_attrs, brought}
use Rattle.shard_model.specs.Limits.{max_size, max_attrs}
use Rattle.shard_model.specs.Steps.{Recover, Put}
use Rattle.shard_model.proofs.ShortLemmas.{is_short, pairs_short}
use Rattle.shard_model.proofs.UndoLemmas.{few_pairs}
use Rattle.shard_state.proofs.SpotLemmas.{by_name}
use Rattle.shard_model.proofs.PutLemmas.{same_named, put_own}
use Rattle.shard_model.proofs.VersionLemmas.{above-trans, above-weak}
use Rattle.shard_state.specs.Places.{joined, inside}
use Rattle.shard_state.specs.Sound.{Recorded, logged_in, settled_in, IsSound, AreSound, AreRising, IsKept, HasPlace}
use Rattle.shard_state.proofs.PlaceLemmas.{get-inside}
use Rattle.shard_state.proofs.StateLemmas.{Places}

same_record : (v : Version) (r : Recorded) → is_up_to r.logged.version v ≡ false → settled_in v r ≡ r
same_record v r above = λ i. record {
  logged = record { version = r.logged.version; prior = r.logged.prior; name = r.logged.name; kind = r.logged.kind; undo = cond-false (is_up_to r.logged.version v) Settled r.logged.undo above i };
  room = r.room;
}

-- later records than one above v are as they were
same_records : (v : Version) (n : Logged) (rs : List Recorded) → is_up_to n.version v ≡ false → AllByRecursion (λ m. is_up_to m.version n.version ≡ false) (map logged_in rs)
    → map (settled_in v) rs ≡ rs
same_records v n [] above all = refl
same_records v n (r ∷ rs) above all =
    λ i. same_record v r (above-trans r.logged.version n.version v all.0 (above-weak n.version v above)) i ∷ same_records v n rs above all.1 i

settled_sound : (g : Geometry) (v : Version) (m : ShardObjects) (rs : List Recorded) → AreRising (map logged_in rs) → AreSound g m rs → AreSound g m (map (settled_in v) rs)
settled_sound g v m [] rising sound = tt
settled_sound g v m (r ∷ rs) rising sound = (
  elim (is_up_to r.logged.version v) as (λ b. is_up_to r.logged.version v ≡ b
      → IsSound g r.room (cond b Settled r.logged.undo) (fin.get (undone g m (map logged_in (map (settled_in v) rs))) r.logged.name)) [
        | true ↦ λ e. tt
        | false ↦ λ e. subst (λ (xs : List Recorded). IsSound g r.room r.logged.undo (fin.get (undone g m (map logged_in xs)) r.logged.name)) (sym (same_records v r.logged rs e rising.0)) sound.0
      ] refl,
  settled_sound g v m rs rising.1 sound.1,
)

settled_placed : (places : Places) (v : Version) (rs : List Recorded) → AllByRecursion (λ r. HasPlace places r.logged.name) rs → AllByRecursion (λ r. HasPlace places r.logged.name) (map (settled_in v) rs)
settled_placed places v [] all = tt
settled_placed places v (r ∷ rs) all = (all.0, settled_placed places v rs all.1)

pub settled_kept : (g : Geometry) (places : Places) (m : ShardObjects) (v : Version) (rs : List Recorded) → AreRising (map logged_in rs) → IsKept g places m rs → IsKept g places m (map (settled_in v) rs)
settled_kept g places m v rs rising kept =
    record { held = kept.held; sound = settled_sound g v m rs rising kept.sound; placed = settled_placed places v rs kept.placed }

pub settled_log : (v : Version) (rs : List Recorded) → map logged_in (map (settled_in v) rs) ≡ map (settled v) (map logged_in rs)
settled_log v [] = refl
settled_log v (r ∷ rs) = ap (λ ns. settled v r.logged ∷ ns) (settled_log v rs)

dropped_sound : (g : Geometry) (m : ShardObjects) (n : ℕ) (rs : List Recorded) → AreSound g m rs → AreSound g m (drop n rs)
dropped_sound g m zero rs sound = sound
dropped_sound g m (suc n) [] sound = tt
dropped_sound g m (suc n) (r ∷ rs) sound = dropped_sound g m n rs sound.1

dropped_placed : (places : Places) (n : ℕ) (rs : List Recorded) → AllByRecursion (λ r. HasPlace places r.logged.name) rs → AllByRecursion (λ r. HasPlace places r.logged.name) (drop n rs)
dropped_placed places zero rs all = all
dropped_placed places (suc n) [] all = tt
dropped_placed places (suc n) (r ∷ rs) all = dropped_placed places n rs all.1

pub dropped_kept : (g : Geometry) (places : Places) (m : ShardObjects) (n : ℕ) (rs : List Recorded) → IsKept g places m rs → IsKept g places m (drop n rs)
dropped_kept g places m n rs kept = record { held = kept.held; sound = dropped_sound g m n rs kept.sound; placed = dropped_placed places n rs kept.placed }

has_one : List Logged → Bool
has_one [] = false
has_one (n ∷ ns) = true

never_empty : (n : Logged) (ns : List Logged) → n ∷ ns ≡ [] → ⊥
unfolding has_one
never_empty n ns e = true≢false (ap has_one e)

-- without a log a state rests on its objects alone
pub no_log_kept : (g : Geometry) (places : Places) (m : ShardObjects) → AreHeld g m → IsKept g places m []
no_log_kept g places m held = record { held = held; sound = tt; placed = tt }

pub nothing_held : (g : Geometry) → AreHeld g fin.empty
nothing_held g q = subst (MayBeHeld g) (sym (fin.get-empty _ q)) tt

pub nothing_inside : inside (fin.empty {X = Option ShardObject}) ≡ fin.empty
nothing_inside = same_named _ _ (λ q. get-inside (fin.empty {X = Option ShardObject}) q ∙ ap joined (fin.get-empty _ q) ∙ sym (fin.get-empty _ q))

none_joined : (o : Option (Option ShardObject)) → is_some o ≡ false → joined o ≡ None
none_joined None e = refl
none_joined (Some x) e = absurd (true≢false e)

-- a name without a place is not there
pub not_there : (places : Places) (k : List ℕ) → is_some (fin.get places k) ≡ false → inside places ≡ put (inside places) k None
not_there places k none = sym (ap (put (inside places) k) (sym (get-inside places k ∙ none_joined (fin.get places k) none)) ∙ put_own (inside places) k)

pub none_recorded : (rs : List Recorded) → map logged_in rs ≡ [] → rs ≡ []
none_recorded [] e = refl
none_recorded (r ∷ rs) e = absurd (never_empty r.logged (map logged_in rs) e)

-- an object that is brought by a step that fits is one as it may be
pub brought_held : (g : Geometry) (t : State) (name : List ℕ) (size : ℕ) (bytes : List ℕ) (attrs : List (List ℕ × List ℕ)) → fits g t (Recover (Put name size bytes attrs)) ≡ true
    → (t.partial ≡ true) × ((fin.is_sorted by_name attrs ≡ true) × IsHeld g (brought size bytes attrs))
brought_held g t name size bytes attrs fit =
    let parts = and_parts t.partial (nat_le size max_size && (length bytes == shard_len g size && are_attrs attrs)) fit in
    let sizes = and_parts (nat_le size max_size) (length bytes == shard_len g size && are_attrs attrs) parts.1 in
    let rest = and_parts (length bytes == shard_len g size) (are_attrs attrs) sizes.1 in
    let lists = and_parts (nat_le (length attrs) max_attrs) _ rest.1 in
    let few : length attrs ≤ max_attrs = leb-true (length attrs) max_attrs lists.0 in (
      parts.0,
      (
        (and_parts (fin.is_sorted by_name attrs) _ lists.1).0,
        record { small = leb-true size max_size sizes.0; sized = eqb-true (length bytes) (shard_len g size) rest.0; few = omega (arith, few, few_pairs attrs); short = pairs_short attrs (and_parts (fin.is_sorted by_name attrs) (list_all is_short attrs) lists.1).1 },
      ),
    )

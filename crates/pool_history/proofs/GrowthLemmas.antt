-- Paths of a history that grows.
use Rattle.std.proofs.Common.{ℕ, ◌≡◌, ◌⊎◌, inl, inr, suc, List, [], ◌∷◌, ◌++◌, map, take, refl, sym, ap, subst, ◌∙◌, append_assoc}
use Rattle.std.proofs.lemmas.Bool.{false_from_ne_true, cond-true, cond-false}
use Rattle.std.proofs.lemmas.List.{map-append}
use Rattle.ec_model.specs.Versions.{Version, is_same}
use Rattle.shard_model.proofs.VersionLemmas.{is_same-version}
use Rattle.ec_positions.specs.Updates.{Update}
use Rattle.pool_history.specs.Histories.{PoolChange, IsTree, IsInTree, path_of, updates_of, Event, IntervalBegun, ActivationComplete, ChangeAccepted, CommitPoint, Growing, next_change, grown_by, extended_by, accepted_in, MayHappen, MayGrow}
use Rattle.pool_history.specs.Choices.{Chooses}
use Rattle.pool_history.specs.Images.{StoredPool, IsStoredPool}
use Rattle.pool_history.specs.Layouts.{Layout}
use Rattle.pool_history.specs.Consistency.{Agrees}
use Rattle.pool_history.specs.Laws.{IsOldOrGrown, ShowsGrown}
use Rattle.pool_history.proofs.ShowLemmas.{shows_committed, chosen_in}
use Rattle.pool_history.proofs.TreeLemmas.{is_same-refl}

same_path : (x : PoolChange) (xs : List PoolChange) (v : Version) → (IsInTree xs x.version → ⊥) → IsInTree xs v → path_of (x ∷ xs) v ≡ path_of xs v
same_path x xs v new known =
    cond-false (is_same x.version v) (path_of xs x.prior ++ x ∷ []) (path_of xs v)
    (false_from_ne_true (is_same x.version v) (λ same. new (subst (IsInTree xs) (sym (is_same-version x.version v same)) known)))

new_path : (x : PoolChange) (xs : List PoolChange) → updates_of (x ∷ xs) x.version ≡ updates_of xs x.prior ++ x.update ∷ []
new_path x xs =
    ap (map (λ m. m.update)) (cond-true (is_same x.version x.version) (path_of xs x.prior ++ x ∷ []) (path_of xs x.version) (is_same-refl x.version))
    ∙ map-append (λ m. m.update) (path_of xs x.prior) (x ∷ [])

-- a version of one change more is the change's, or an old one
newest_or_old : (x : PoolChange) (xs : List PoolChange) (v : Version) → IsInTree (x ∷ xs) v → (x.version ≡ v) ⊎ IsInTree xs v
newest_or_old x xs v (inl root) = inr (inl root)
newest_or_old x xs v (inr at) = elim at.made [
  | inl e ↦ inl (ap (λ m. m.version) e ∙ at.is)
  | inr old ↦ inr (inr (record { change = at.change; made = old; is = at.is }))
]

accepted_more : (now : Growing) (update : Update) (events : List Event) (v : Version) → MayHappen now (ChangeAccepted update)
    → IsOldOrGrown (grown_by now (ChangeAccepted update)) events v → IsOldOrGrown now (ChangeAccepted update ∷ events) v
accepted_more now update events v may (inl was) =
    let x = next_change now update in
    let xs = now.history.changes in
    elim (newest_or_old x xs v was.0) [
      | inr old ↦ inl (old, was.1 ∙ same_path x xs v may.new old)
      | inl e ↦ inr (record {
        count = 1;
        path = ap (map (λ m. m.update)) was.1 ∙ ap (updates_of (x ∷ xs)) (sym e) ∙ new_path x xs;
      })
    ]
accepted_more now update events v may (inr more) =
    let x = next_change now update in
    let xs = now.history.changes in
    inr (record {
      count = suc more.count;
      path = more.path ∙ ap (λ cs. cs ++ take more.count (accepted_in events)) (new_path x xs)
          ∙ append_assoc (updates_of xs now.head) (update ∷ []) (take more.count (accepted_in events));
    })

pub paths_grow : (now : Growing) (events : List Event) (v : Version) → IsTree now.history.changes → IsInTree now.history.changes now.head → MayGrow now events
    → IsInTree (extended_by now events).history.changes v → IsOldOrGrown now events v
paths_grow now [] v tree head may known = inl (known, refl)
paths_grow now (IntervalBegun epoch version ∷ events) v tree head may known = paths_grow (grown_by now (IntervalBegun epoch version)) events v tree head may.1 known
paths_grow now (ActivationComplete ∷ events) v tree head may known =
    let later = grown_by now ActivationComplete in
    elim (paths_grow later events v tree (subst (IsInTree now.history.changes) (sym may.0) head) may.1 known) [
      | inl was ↦ inl was
      | inr more ↦ inr (record {
        count = more.count;
        path = more.path ∙ ap (λ u. updates_of now.history.changes u ++ take more.count (accepted_in events)) may.0;
      })
    ]
paths_grow now (ChangeAccepted update ∷ events) v tree head may known =
    let x = next_change now update in
    let at : IsInTree (x ∷ now.history.changes) x.version = inr (record { change = x; made = inl refl; is = refl }) in
    accepted_more now update events v may.0 (paths_grow (grown_by now (ChangeAccepted update)) events v (may.0, tree) at may.1 known)
paths_grow now (CommitPoint ∷ events) v tree head may known = paths_grow (grown_by now CommitPoint) events v tree head may.1 known

pub grown_shown : (layout : Layout) (image : StoredPool) (now : Growing) (events : List Event) (up joined : ℕ) (version : Version)
    → IsStoredPool layout image → IsTree now.history.changes → IsInTree now.history.changes now.head → MayGrow now events
    → Agrees layout image (extended_by now events).history → Chooses layout image up joined version
    → ShowsGrown layout image now events joined version
grown_shown layout image now events up joined version stored tree head may agrees chooses =
    let history = (extended_by now events).history in
    record {
      shows = shows_committed layout image history up joined version stored agrees chooses;
      path = paths_grow now events version tree head may (chosen_in layout image history up joined version stored agrees chooses);
    }

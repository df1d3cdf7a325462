-- What an image that agrees with a grown history shows.
use Rattle.std.proofs.Common.{ℕ, ◌≡◌, ◌⊎◌, inl, inr, suc, List, [], ◌∷◌, ◌++◌, take, refl, sym, ap, subst, ◌∙◌, append_assoc, true, arith}
use Rattle.std.proofs.lemmas.Bool.{cond-true, cond-false, false_from_ne_true}
use Rattle.std.proofs.lemmas.List.{append-nil}
use Rattle.std.proofs.lemmas.Grind.{common_steps}
use Rattle.ec_model.specs.Versions.{Version, is_same}
use Rattle.ec_positions.specs.Updates.{Update}
use Rattle.pool_history.specs.Choices.{Chooses}
use Rattle.pool_history.specs.Histories.{PoolChange, IsTree, IsInTree, path_of, IsOnPath, Itself, Later, Event, IntervalBegun, ActivationComplete, ChangeAccepted, CommitPoint, Growing, next_change, grown_by, extended_by, MayHappen, MayGrow}
use Rattle.pool_history.specs.Images.{StoredPool, IsStoredPool}
use Rattle.pool_history.specs.Consistency.{Agrees}
use Rattle.pool_history.specs.Laws.{SufficientSetsShowCommitted}
use Rattle.shard_model.proofs.VersionLemmas.{is_same-version}
use Rattle.run_model.specs.Headline.{ShowsAll, ExtendsEarlier}
use Rattle.run_model.specs.Items.{Item, Run, start_of, history_after, all_events, made_in, BeginsInTree}
use Rattle.run_model.proofs.ItemLemmas.{items_grow}

-- the path of a version of a history that grew: one of the tree before, and then the first changes made since
record Extends (now : Growing) (events : List Event) (v : Version) : Type 0 where
  earlier : Version
  known : IsInTree now.history.changes earlier
  count : ℕ
  path : path_of (extended_by now events).history.changes v ≡ path_of now.history.changes earlier ++ take count (made_in now events)

-- the path is as it was, or that of the head and then the first changes made since
abbrev Grows : Growing → List Event → Version → Type 0
Grows now events v =
    (IsInTree now.history.changes v × (path_of (extended_by now events).history.changes v ≡ path_of now.history.changes v))
    ⊎ ((count : ℕ) × (path_of (extended_by now events).history.changes v ≡ path_of now.history.changes now.head ++ take count (made_in now events)))

pub same_itself : (v : Version) → is_same v v ≡ true
same_itself v = grind (arith, common_steps)

-- a version of one change more is the change's, or an old one
newest_or_old : (x : PoolChange) (xs : List PoolChange) (v : Version) → IsInTree (x ∷ xs) v → (x.version ≡ v) ⊎ IsInTree xs v
newest_or_old x xs v (inl root) = inr (inl root)
newest_or_old x xs v (inr at) = elim at.made [
  | inl e ↦ inl (ap (λ m. m.version) e ∙ at.is)
  | inr old ↦ inr (inr (record { change = at.change; made = old; is = at.is }))
]

same_path : (x : PoolChange) (xs : List PoolChange) (v : Version) → (IsInTree xs x.version → ⊥) → IsInTree xs v → path_of (x ∷ xs) v ≡ path_of xs v
same_path x xs v new known =
    cond-false (is_same x.version v) (path_of xs x.prior ++ x ∷ []) (path_of xs v)
    (false_from_ne_true (is_same x.version v) (λ same. new (subst (IsInTree xs) (sym (is_same-version x.version v same)) known)))

new_path : (x : PoolChange) (xs : List PoolChange) → path_of (x ∷ xs) x.version ≡ path_of xs x.prior ++ x ∷ []
new_path x xs = cond-true (is_same x.version x.version) (path_of xs x.prior ++ x ∷ []) (path_of xs x.version) (same_itself x.version)

accepted_more : (now : Growing) (update : Update) (events : List Event) (v : Version) → MayHappen now (ChangeAccepted update)
    → Grows (grown_by now (ChangeAccepted update)) events v → Grows now (ChangeAccepted update ∷ events) v
accepted_more now update events v may (inl was) =
    let x = next_change now update in
    let xs = now.history.changes in
    elim (newest_or_old x xs v was.0) [
      | inr old ↦ inl (old, was.1 ∙ same_path x xs v may.new old)
      | inl e ↦ inr (1, was.1 ∙ ap (path_of (x ∷ xs)) (sym e) ∙ new_path x xs)
    ]
accepted_more now update events v may (inr more) =
    let x = next_change now update in
    let xs = now.history.changes in
    let made = made_in (grown_by now (ChangeAccepted update)) events in
    inr (suc more.0, more.1 ∙ ap (λ cs. cs ++ take more.0 made) (new_path x xs) ∙ append_assoc (path_of xs now.head) (x ∷ []) (take more.0 made))

paths_grow : (now : Growing) (events : List Event) (v : Version) → IsTree now.history.changes → IsInTree now.history.changes now.head → MayGrow now events
    → IsInTree (extended_by now events).history.changes v → Grows now events v
paths_grow now [] v tree head may known = inl (known, refl)
paths_grow now (IntervalBegun epoch version ∷ events) v tree head may known = paths_grow (grown_by now (IntervalBegun epoch version)) events v tree head may.1 known
paths_grow now (ActivationComplete ∷ events) v tree head may known =
    let later = grown_by now ActivationComplete in
    elim (paths_grow later events v tree (subst (IsInTree now.history.changes) (sym may.0) head) may.1 known) [
      | inl was ↦ inl was
      | inr more ↦ inr (more.0, more.1 ∙ ap (λ u. path_of now.history.changes u ++ take more.0 (made_in later events)) may.0)
    ]
paths_grow now (ChangeAccepted update ∷ events) v tree head may known =
    let x = next_change now update in
    let at : IsInTree (x ∷ now.history.changes) x.version = inr (record { change = x; made = inl refl; is = refl }) in
    accepted_more now update events v may.0 (paths_grow (grown_by now (ChangeAccepted update)) events v (may.0, tree) at may.1 known)
paths_grow now (CommitPoint ∷ events) v tree head may known = paths_grow (grown_by now CommitPoint) events v tree head may.1 known

extends_of : (now : Growing) (events : List Event) (v : Version) → IsInTree now.history.changes now.head → Grows now events v → Extends now events v
extends_of now events v head (inl was) = record { earlier = v; known = was.0; count = 0; path = was.1 ∙ sym (append-nil (path_of now.history.changes v)) }
extends_of now events v head (inr more) = record { earlier = now.head; known = head; count = more.0; path = more.1 }

-- the same from the start of a run, in which the first interval that goes active says what the head is
begin : (now : Growing) (events : List Event) (v : Version) → IsTree now.history.changes → BeginsInTree now events
    → IsInTree (extended_by now events).history.changes v → Extends now events v
begin now [] v tree may known = record { earlier = v; known = known; count = 0; path = sym (append-nil (path_of now.history.changes v)) }
begin now (IntervalBegun epoch version ∷ events) v tree may known =
    let more = begin (grown_by now (IntervalBegun epoch version)) events v tree may known in
    record { earlier = more.earlier; known = more.known; count = more.count; path = more.path }
begin now (CommitPoint ∷ events) v tree may known =
    let more = begin (grown_by now CommitPoint) events v tree may known in
    record { earlier = more.earlier; known = more.known; count = more.count; path = more.path }
begin now (ActivationComplete ∷ events) v tree may known =
    let later = grown_by now ActivationComplete in
    let more = extends_of later events v may.0 (paths_grow later events v tree may.0 may.1 known) in
    record { earlier = more.earlier; known = more.known; count = more.count; path = more.path }
begin now (ChangeAccepted update ∷ events) v tree may known = elim may [ ]

pub extends_earlier : (run : Run) (done : List Item) (v : Version) → IsTree run.history.changes → BeginsInTree (start_of run).now (all_events done)
    → IsInTree (history_after run done).changes v → ExtendsEarlier run done v
extends_earlier run done v tree may known =
    let grown = items_grow (start_of run) done in
    let more = begin (start_of run).now (all_events done) v tree may (subst (λ now. IsInTree now.history.changes v) grown known) in
    record {
      earlier = more.earlier;
      known = more.known;
      count = more.count;
      path = ap (λ now. path_of now.history.changes v) grown ∙ more.path;
    }

-- a version whose path has one of the tree is in the tree
on_path_in_tree : (changes : List PoolChange) (a v : Version) → IsInTree changes a → IsOnPath changes a v → IsInTree changes v
on_path_in_tree changes a v known Itself = known
on_path_in_tree changes a v known (Later change made on) = inr (record { change = change; made = made; is = refl })

pub shows_all : SufficientSetsShowCommitted
    → (run : Run) (done : List Item) (image : StoredPool) (up joined : ℕ) (version : Version)
    → IsStoredPool run.layout image → IsTree run.history.changes → BeginsInTree (start_of run).now (all_events done)
    → Agrees run.layout image (history_after run done) → Chooses run.layout image up joined version
    → ShowsAll run done image joined version
shows_all shows run done image up joined version stored tree may agrees chooses =
    let history = history_after run done in
    let shown = shows run.layout image history up joined version stored agrees chooses in
    let known = on_path_in_tree history.changes history.committed version agrees.is_history.kept shown.committed in
    record {
      represented = shown.represents;
      committed = shown.committed;
      in_order = extends_earlier run done version tree may known;
    }

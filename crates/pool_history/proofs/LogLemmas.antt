-- Logs that are paths of the tree.
use Rattle.std.proofs.Common.{◌≡◌, ◌⊎◌, inl, inr, ◌+◌, ◌≤◌, true, false, Bool, List, [], ◌∷◌, ◌++◌, map, refl, sym, ap, subst, ◌∙◌, arith, ◌&&◌, ◌||◌}
use Rattle.std.specs.List.{list_any}
use Rattle.std.proofs.lemmas.Bool.{and_parts, or_cases, cond-true, cond-false, false≢true}
use Rattle.std.proofs.lemmas.Grind.{common_steps}
use Rattle.ec_model.specs.Versions.{Version, is_up_to, is_same}
use Rattle.shard_model.specs.Fronts.{up_to, after}
use Rattle.shard_model.specs.States.{Logged, State, version_of, settled, is_known}
use Rattle.shard_model.proofs.VersionLemmas.{above-trans, same-up_to, is_same-version}
use Rattle.pool_history.specs.Histories.{PoolChange, IsTree, IsInTree, IsOnPath}
use Rattle.pool_history.specs.Consistency.{IsEntryOf, IsLogBetween}
use Rattle.pool_history.proofs.TreeLemmas.{step_of, made_is_in}
use Rattle.pool_history.proofs.ShowLemmas.{log_path}

-- one of a log's versions
abbrev pub is_at : Version → Logged → Bool
is_at v n = is_same n.version v

-- a version that is known is the tail, or a logged one above it
pub known_cases : (t : State) (v : Version) → is_known t v ≡ true → (t.tail ≡ v) ⊎ (list_any (is_at v) t.log ≡ true)
known_cases t v known = elim (or_cases (is_same t.tail v) (is_up_to t.tail v && list_any (is_at v) t.log) known) [
  | inl same ↦ inl (is_same-version t.tail v same)
  | inr more ↦ inr (and_parts (is_up_to t.tail v) (list_any (is_at v) t.log) more).1
]

pub known_low : (t : State) (v : Version) → is_known t v ≡ true → is_up_to t.tail v ≡ true
known_low t v known = elim (or_cases (is_same t.tail v) (is_up_to t.tail v && list_any (is_at v) t.log) known) [
  | inl same ↦ same-up_to t.tail v same
  | inr more ↦ (and_parts (is_up_to t.tail v) (list_any (is_at v) t.log) more).0
]

above : (p v : Version) → v.seq ≡ p.seq + 1 → p.epoch ≤ v.epoch → is_up_to v p ≡ false
above p v next no_older = grind (arith, common_steps)

module _ (changes : List PoolChange) (tree : IsTree changes) where
  -- the next entry's version is above the one before it
  entry_above : (from : Version) (n : Logged) → n.prior ≡ from → IsEntryOf changes n → is_up_to n.version from ≡ false
  entry_above from n prior entry =
      let s = step_of changes tree entry.change entry.made in
      let up = above entry.change.prior entry.change.version s.next s.no_older in
      subst (λ u. is_up_to n.version u ≡ false) (entry.prior ∙ prior) (subst (λ u. is_up_to u entry.change.prior ≡ false) entry.version up)

  logged_above : (from : Version) (ns : List Logged) (to v : Version) → IsLogBetween changes from ns to → list_any (is_at v) ns ≡ true → is_up_to v from ≡ false
  logged_above from [] to v l h = absurd (false≢true h)
  logged_above from (n ∷ ns) to v l h =
      let one = entry_above from n l.0 l.1.0 in
      elim (or_cases (is_same n.version v) (list_any (is_at v) ns) h) [
        | inl same ↦ subst (λ u. is_up_to u from ≡ false) (is_same-version n.version v same) one
        | inr more ↦
            let low : is_up_to from n.version ≡ true = weak n.version from one in
            above-trans v n.version from (logged_above n.version ns to v l.1.1 more) low
      ]
    where
      weak : (a b : Version) → is_up_to a b ≡ false → is_up_to b a ≡ true
      weak a b e = grind (arith, common_steps)

  weaker : (a b : Version) → is_up_to a b ≡ false → is_up_to b a ≡ true
  weaker a b e = grind (arith, common_steps)

  -- a logged version is in the tree
  pub logged_in : (from : Version) (ns : List Logged) (to v : Version) → IsLogBetween changes from ns to → list_any (is_at v) ns ≡ true → IsInTree changes v
  logged_in from [] to v l h = absurd (false≢true h)
  logged_in from (n ∷ ns) to v l h = elim (or_cases (is_same n.version v) (list_any (is_at v) ns) h) [
    | inl same ↦ subst (IsInTree changes) (l.1.0.version ∙ is_same-version n.version v same) (made_is_in changes l.1.0.change l.1.0.made)
    | inr more ↦ logged_in n.version ns to v l.1.1 more
  ]

  -- nothing of the log is left up to its beginning
  none_cut : (from : Version) (ns : List Logged) (to : Version) → IsLogBetween changes from ns to → up_to version_of from ns ≡ []
  none_cut from [] to l = refl
  none_cut from (n ∷ ns) to l = cond-false (is_up_to n.version from) (n ∷ up_to version_of from ns) [] (entry_above from n l.0 l.1.0)

  none_dropped : (from : Version) (ns : List Logged) (to : Version) → IsLogBetween changes from ns to → after version_of from ns ≡ ns
  none_dropped from [] to l = refl
  none_dropped from (n ∷ ns) to l = cond-false (is_up_to n.version from) (after version_of from ns) (n ∷ ns) (entry_above from n l.0 l.1.0)

  -- the log up to one of its versions
  pub cut_log : (from : Version) (ns : List Logged) (to v : Version) → IsLogBetween changes from ns to → (from ≡ v) ⊎ (list_any (is_at v) ns ≡ true)
      → IsLogBetween changes from (up_to version_of v ns) v
  cut_log from ns to v l (inl e) =
      subst (λ u. IsLogBetween changes from (up_to version_of u ns) u) e (subst (λ ks. IsLogBetween changes from ks from) (sym (none_cut from ns to l)) refl)
  cut_log from [] to v l (inr h) = absurd (false≢true h)
  cut_log from (n ∷ ns) to v l (inr h) =
      let low : (is_up_to n.version v ≡ true) × ((n.version ≡ v) ⊎ (list_any (is_at v) ns ≡ true)) =
      elim (or_cases (is_same n.version v) (list_any (is_at v) ns) h) [
        | inl same ↦ (same-up_to n.version v same, inl (is_same-version n.version v same))
        | inr more ↦ (weaker v n.version (logged_above n.version ns to v l.1.1 more), inr more)
      ] in
      subst (λ ks. IsLogBetween changes from ks v) (sym (cond-true (is_up_to n.version v) (n ∷ up_to version_of v ns) [] low.0))
      (l.0, (l.1.0, cut_log n.version ns to v l.1.1 low.1))

  -- the log after one of its versions
  pub drop_log : (from : Version) (ns : List Logged) (to v : Version) → IsLogBetween changes from ns to → (from ≡ v) ⊎ (list_any (is_at v) ns ≡ true)
      → IsLogBetween changes v (after version_of v ns) to
  drop_log from ns to v l (inl e) =
      subst (λ u. IsLogBetween changes u (after version_of u ns) to) e (subst (λ ks. IsLogBetween changes from ks to) (sym (none_dropped from ns to l)) l)
  drop_log from [] to v l (inr h) = absurd (false≢true h)
  drop_log from (n ∷ ns) to v l (inr h) =
      let low : (is_up_to n.version v ≡ true) × ((n.version ≡ v) ⊎ (list_any (is_at v) ns ≡ true)) =
      elim (or_cases (is_same n.version v) (list_any (is_at v) ns) h) [
        | inl same ↦ (same-up_to n.version v same, inl (is_same-version n.version v same))
        | inr more ↦ (weaker v n.version (logged_above n.version ns to v l.1.1 more), inr more)
      ] in
      subst (λ ks. IsLogBetween changes v ks to) (sym (cond-true (is_up_to n.version v) (after version_of v ns) (n ∷ ns) low.0))
      (drop_log n.version ns to v l.1.1 low.1)

  -- the log with one entry more
  pub push_log : (from : Version) (ns : List Logged) (to : Version) (n : Logged) → IsLogBetween changes from ns to → n.prior ≡ to → IsEntryOf changes n
      → IsLogBetween changes from (ns ++ n ∷ []) n.version
  push_log from [] to n l prior entry = (prior ∙ sym l, (entry, refl))
  push_log from (k ∷ ns) to n l prior entry = (l.0, (l.1.0, push_log k.version ns to n l.1.1 prior entry))

  -- the log with entries that are never taken back
  pub settled_log : (firm from : Version) (ns : List Logged) (to : Version) → IsLogBetween changes from ns to → IsLogBetween changes from (map (settled firm) ns) to
  settled_log firm from [] to l = l
  settled_log firm from (n ∷ ns) to l =
      let e = l.1.0 in
      (l.0, (record { change = e.change; made = e.made; version = e.version; prior = e.prior; named = e.named }, settled_log firm n.version ns to l.1.1))

pub settled_any : (firm v : Version) (ns : List Logged) → list_any (is_at v) (map (settled firm) ns) ≡ list_any (is_at v) ns
settled_any firm v [] = refl
settled_any firm v (n ∷ ns) = ap (λ b. is_same n.version v || b) (settled_any firm v ns)

-- ---- more changes

pub more_log : (x : PoolChange) (xs : List PoolChange) (from : Version) (ns : List Logged) (to : Version) → IsLogBetween xs from ns to → IsLogBetween (x ∷ xs) from ns to
more_log x xs from [] to l = l
more_log x xs from (n ∷ ns) to l =
    let e = l.1.0 in
    (l.0, (record { change = e.change; made = inr e.made; version = e.version; prior = e.prior; named = e.named }, more_log x xs n.version ns to l.1.1))

-- a version that is known is in the tree
pub known_in : (changes : List PoolChange) → IsTree changes → (t : State) (to v : Version) → IsLogBetween changes t.tail t.log to → IsInTree changes t.tail
    → is_known t v ≡ true → IsInTree changes v
known_in changes tree t to v l tail known = elim (known_cases t v known) [
  | inl e ↦ subst (IsInTree changes) e tail
  | inr logged ↦ logged_in changes tree t.tail t.log to v l logged
]

-- .. and on the path of the log's end
pub logged_on : (changes : List PoolChange) → IsTree changes → (from : Version) (ns : List Logged) (to v : Version) → IsLogBetween changes from ns to
    → list_any (is_at v) ns ≡ true → IsOnPath changes v to
logged_on changes tree from [] to v l h = absurd (false≢true h)
logged_on changes tree from (n ∷ ns) to v l h = elim (or_cases (is_same n.version v) (list_any (is_at v) ns) h) [
  | inl same ↦ subst (λ u. IsOnPath changes u to) (is_same-version n.version v same) (log_path changes tree n.version ns to l.1.1)
  | inr more ↦ logged_on changes tree n.version ns to v l.1.1 more
]

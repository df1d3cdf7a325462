-- Paths of a tree of versions.
use Rattle.std.proofs.Common.{◌≡◌, ◌⊎◌, inl, inr, ◌+◌, ◌≤◌, ℕ, true, false, None, List, [], ◌∷◌, ◌++◌, refl, sym, ap, subst, ◌∙◌, arith}
use Rattle.std.proofs.lemmas.Bool.{cases_lt, false_from_ne_true, cond-true, cond-false}
use Rattle.std.proofs.lemmas.Grind.{common_steps}
use Rattle.ec_model.specs.Versions.{Version, is_up_to, is_same}
use Rattle.shard_model.proofs.VersionLemmas.{up_to-trans, up_to-refl, is_same-version}
use Rattle.pool_history.specs.Histories.{PoolChange, IsMade, IsInTree, IsTree, IsOnPath, Itself, Later, Follows, AtBase, Next, path_of, objects_of, after_changes}
use Rattle.ec_positions.specs.Objects.{Objects}
use Rattle.ec_positions.specs.Updates.{after}
use Rattle.ec_positions.specs.Refusals.{refusal_of}
use Rattle.std.specs.FinMap as map

-- a version from its two numbers
pub same_numbers : (a b : Version) → a.epoch ≡ b.epoch → a.seq ≡ b.seq → a ≡ b
same_numbers a b e s = λ i. record { epoch = e i; seq = s i }

pub made_is_in : (changes : List PoolChange) (m : PoolChange) → IsMade changes m → IsInTree changes m.version
made_is_in changes m made = inr (record { change = m; made = made; is = refl })

-- ---- one change more

pub more_in : (x : PoolChange) (xs : List PoolChange) (v : Version) → IsInTree xs v → IsInTree (x ∷ xs) v
more_in x xs v (inl root) = inl root
more_in x xs v (inr at) = inr (record { change = at.change; made = inr at.made; is = at.is })

pub more_path : (x : PoolChange) (xs : List PoolChange) (a v : Version) → IsOnPath xs a v → IsOnPath (x ∷ xs) a v
more_path x xs a v Itself = Itself
more_path x xs a v (Later m made path) = Later m (inr made) (more_path x xs a m.prior path)

pub more_follows : (x : PoolChange) (xs : List PoolChange) (epoch : ℕ) (base v : Version) → Follows xs epoch base v → Follows (x ∷ xs) epoch base v
more_follows x xs epoch base v AtBase = AtBase
more_follows x xs epoch base v (Next m made dated rest) = Next m (inr made) dated (more_follows x xs epoch base m.prior rest)

pub more_objects : (x : PoolChange) (xs : List PoolChange) (v : Version) → (IsInTree xs x.version → ⊥) → IsInTree xs v → objects_of (x ∷ xs) v ≡ objects_of xs v
more_objects x xs v new known =
    let other : is_same x.version v ≡ false =
    false_from_ne_true (is_same x.version v) (λ same. new (subst (IsInTree xs) (sym (is_same-version x.version v same)) known)) in
    ap (after_changes _) (cond-false _ _ _ other)

-- ---- what the tree says of each change

pub record IsStep (changes : List PoolChange) (m : PoolChange) : Type 0 where
  pub on_tree : IsInTree changes m.prior
  pub next : m.version.seq ≡ m.prior.seq + 1
  pub no_older : m.prior.epoch ≤ m.version.epoch

pub step_of : (changes : List PoolChange) → IsTree changes → (m : PoolChange) → IsMade changes m → IsStep changes m
step_of [] tree m made = absurd made
step_of (x ∷ xs) tree m (inl e) =
    subst (IsStep (x ∷ xs)) e (record { on_tree = more_in x xs x.prior tree.0.on_tree; next = tree.0.next; no_older = tree.0.no_older })
step_of (x ∷ xs) tree m (inr made) =
    let s = step_of xs tree.1 m made in record { on_tree = more_in x xs m.prior s.on_tree; next = s.next; no_older = s.no_older }

-- the objects at a change's version are those at its prior after it, where it was not refused
pub record IsApplied (changes : List PoolChange) (m : PoolChange) : Type 0 where
  pub accepted : refusal_of (objects_of changes m.prior) m.update ≡ None
  pub objects : objects_of changes m.version ≡ after (objects_of changes m.prior) m.update

after-append : (objects : Objects) (first : List PoolChange) (m : PoolChange) → after_changes objects (first ++ m ∷ []) ≡ after (after_changes objects first) m.update
after-append objects [] m = refl
after-append objects (x ∷ first) m = after-append (after objects x.update) first m

pub is_same-refl : (v : Version) → is_same v v ≡ true
is_same-refl v = grind (arith, common_steps)

pub applied : (changes : List PoolChange) → IsTree changes → (m : PoolChange) → IsMade changes m → IsApplied changes m
applied [] tree m made = absurd made
applied (x ∷ xs) tree m (inl e) =
    let before = more_objects x xs x.prior tree.0.new tree.0.on_tree in
    let now : objects_of (x ∷ xs) x.version ≡ after (objects_of xs x.prior) x.update =
    ap (after_changes map.empty) (cond-true (is_same x.version x.version) (path_of xs x.prior ++ x ∷ []) (path_of xs x.version) (is_same-refl x.version))
    ∙ after-append map.empty (path_of xs x.prior) x in
    subst (IsApplied (x ∷ xs)) e (record {
      accepted = ap (λ o. refusal_of o x.update) before ∙ tree.0.accepted;
      objects = now ∙ ap (λ o. after o x.update) (sym before);
    })
applied (x ∷ xs) tree m (inr made) =
    let s = step_of xs tree.1 m made in
    let was = applied xs tree.1 m made in
    let before = more_objects x xs m.prior tree.0.new s.on_tree in
    let now = more_objects x xs m.version tree.0.new (made_is_in xs m made) in
    record {
      accepted = ap (λ o. refusal_of o m.update) before ∙ was.accepted;
      objects = now ∙ was.objects ∙ ap (λ o. after o m.update) (sym before);
    }

pub one_change : (changes : List PoolChange) → IsTree changes → (one other : PoolChange) → IsMade changes one → IsMade changes other → one.version ≡ other.version
    → one ≡ other
one_change [] tree one other a b same = absurd a
one_change (x ∷ xs) tree one other (inl e) (inl f) same = sym e ∙ f
one_change (x ∷ xs) tree one other (inl e) (inr b) same =
    absurd (tree.0.new (subst (IsInTree xs) (sym (ap (λ m. m.version) e ∙ same)) (made_is_in xs other b)))
one_change (x ∷ xs) tree one other (inr a) (inl f) same =
    absurd (tree.0.new (subst (IsInTree xs) (same ∙ sym (ap (λ m. m.version) f)) (made_is_in xs one a)))
one_change (x ∷ xs) tree one other (inr a) (inr b) same = one_change xs tree.1 one other a b same

-- ---- paths

module _ (changes : List PoolChange) where
  pub path_on : (a b c : Version) → IsOnPath changes a b → IsOnPath changes b c → IsOnPath changes a c
  path_on a b c first Itself = first
  path_on a b c first (Later m made path) = Later m made (path_on a b m.prior first path)

  pub follows_path : (epoch : ℕ) (base v : Version) → Follows changes epoch base v → IsOnPath changes base v
  follows_path epoch base v AtBase = Itself
  follows_path epoch base v (Next m made dated rest) = Later m made (follows_path epoch base m.prior rest)

-- how a path ends
pub record EndsWith (changes : List PoolChange) (a v : Version) : Type 0 where
  pub change : PoolChange
  pub made : IsMade changes change
  pub is : change.version ≡ v
  pub before : IsOnPath changes a change.prior

pub path_end : (changes : List PoolChange) (a v : Version) → IsOnPath changes a v → (a ≡ v) ⊎ EndsWith changes a v
path_end changes a v Itself = inl refl
path_end changes a v (Later m made path) = inr (record { change = m; made = made; is = refl; before = path })

-- how a run of an epoch's versions ends
pub record FollowsWith (changes : List PoolChange) (epoch : ℕ) (base v : Version) : Type 0 where
  pub change : PoolChange
  pub made : IsMade changes change
  pub is : change.version ≡ v
  pub dated : change.version.epoch ≡ epoch
  pub before : Follows changes epoch base change.prior

pub follows_end : (changes : List PoolChange) (epoch : ℕ) (base v : Version) → Follows changes epoch base v → (base ≡ v) ⊎ FollowsWith changes epoch base v
follows_end changes epoch base v AtBase = inl refl
follows_end changes epoch base v (Next m made dated rest) = inr (record { change = m; made = made; is = refl; dated = dated; before = rest })

module _ (changes : List PoolChange) (tree : IsTree changes) where
  step_up : (m : PoolChange) → IsStep changes m → is_up_to m.prior m.version ≡ true
  step_up m s = up (m.prior) (m.version) s.next s.no_older where
    up : (p v : Version) → v.seq ≡ p.seq + 1 → p.epoch ≤ v.epoch → is_up_to p v ≡ true
    up p v next no_older = grind (arith, common_steps)

  pub path_up : (a v : Version) → IsOnPath changes a v → is_up_to a v ≡ true
  path_up a v Itself = up_to-refl a
  path_up a v (Later m made path) = up_to-trans a m.prior m.version (path_up a m.prior path) (step_up m (step_of changes tree m made))

  pub path_seq : (a v : Version) → IsOnPath changes a v → a.seq ≤ v.seq
  path_seq a v Itself = omega arith
  path_seq a v (Later m made path) =
      let le = path_seq a m.prior path in let s = step_of changes tree m made in omega (arith, le, s.next)

  pub path_in : (a v : Version) → IsOnPath changes a v → IsInTree changes v → IsInTree changes a
  path_in a v Itself known = known
  path_in a v (Later m made path) known = path_in a m.prior path (step_of changes tree m made).on_tree

  -- of two versions on one path, the one with the lesser number is on the other's path
  pub path_between : (a b v : Version) → IsOnPath changes a v → IsOnPath changes b v → a.seq ≤ b.seq → IsOnPath changes a b
  path_between a b v first Itself le = first
  path_between a b v first (Later m made path) le = elim (path_end changes a m.version first) [
    | inl e ↦
        let s = step_of changes tree m made in
        let low = path_seq b m.prior path in
        let same : a.seq ≡ m.version.seq = ap (λ u. u.seq) e in
        absurd (omega (arith, le, low, same, s.next))
    | inr end ↦
        let same = one_change changes tree end.change m end.made made end.is in
        path_between a b m.prior (subst (λ c. IsOnPath changes a c.prior) same end.before) path le
  ]

  -- .. and so where both follow one base by versions of one epoch: these are one chain
  pub chain : (epoch : ℕ) (base a v : Version) → Follows changes epoch base a → Follows changes epoch base v → a.seq ≤ v.seq → IsOnPath changes a v
  chain epoch base a v first AtBase le = elim (follows_end changes epoch base a first) [
    | inl e ↦ subst (λ u. IsOnPath changes u base) e Itself
    | inr end ↦
        let low = path_seq base end.change.prior (follows_path changes epoch base end.change.prior end.before) in
        let s = step_of changes tree end.change end.made in
        let same : end.change.version.seq ≡ a.seq = ap (λ u. u.seq) end.is in
        absurd (omega (arith, le, low, same, s.next))
  ]
  chain epoch base a v first (Next m made dated rest) le = elim (cases_lt m.prior.seq a.seq) [
    | inr earlier ↦ Later m made (chain epoch base a m.prior first rest earlier)
    | inl later ↦
        let s = step_of changes tree m made in
        let number : a.seq ≡ m.version.seq = omega (arith, le, later, s.next) in
        elim (follows_end changes epoch base a first) [
          | inl e ↦
              let low = path_seq base m.prior (follows_path changes epoch base m.prior rest) in
              let same : base.seq ≡ a.seq = ap (λ u. u.seq) e in
              absurd (omega (arith, low, same, later))
          | inr end ↦
              let epochs : a.epoch ≡ m.version.epoch = sym (ap (λ u. u.epoch) end.is) ∙ end.dated ∙ sym dated in
              subst (λ u. IsOnPath changes a u) (same_numbers a m.version epochs number) Itself
        ]
  ]

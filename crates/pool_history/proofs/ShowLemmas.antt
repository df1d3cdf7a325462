-- What a sufficient set shows.
use Rattle.std.proofs.Common.{◌≡◌, ◌⊎◌, inl, inr, ◌<◌, ◌≤◌, ℕ, true, List, [], ◌∷◌, bit_and, sym, ap, subst, ◌∙◌, arith, ◌&&◌}
use Rattle.std.specs.List.{list_any}
use Rattle.std.proofs.lemmas.Bool.{cases_lt, and_from, or_left, or_right}
use Rattle.ec_model.specs.Codes.{HasPosition}
use Rattle.ec_model.specs.Versions.{Version, is_up_to, is_same}
use Rattle.auth_log.specs.Choice.{Info, Survey, IsEligible, HasStarted, IsSufficient, DecidesAll, WentAlive}
use Rattle.auth_log.proofs.CallerLemmas.{one_survey, decides_more, has_both}
use Rattle.shard_model.specs.Replays.{Replay, head, log, state_of}
use Rattle.shard_model.specs.States.{Logged, is_known, holds}
use Rattle.shard_model.proofs.VersionLemmas.{same_version}
use Rattle.pool_history.specs.Histories.{PoolChange, History, IsTree, IsInTree, IsOnPath, Itself, Later, Follows, IsOneOf, greatest, active_epoch}
use Rattle.pool_history.specs.Images.{StoredPool, IsStoredPool, HasShard, Holds, SlotHolds, peers_of, info_of}
use Rattle.pool_history.specs.Consistency.{IsLogBetween, LogIsPath, FirmIsCommitted, IsOfInterval, Agrees}
use Rattle.pool_history.specs.Choices.{Chooses}
use Rattle.pool_history.specs.Layouts.{Layout, geometry_of}
use Rattle.pool_history.specs.Laws.{ShowsCommitted, IsLastAccepted}
use Rattle.pool_history.proofs.TreeLemmas.{path_on, path_end, follows_end, path_up, path_seq, path_between, chain, step_of, is_same-refl}
use Rattle.pool_history.proofs.ImageLemmas.{alive_is_kept, one_alive, says_of, some_decide}

-- ---- versions, masks and epochs

pub is_same_from : (a b : Version) → a ≡ b → is_same a b ≡ true
is_same_from a b e = subst (λ u. is_same a u ≡ true) e (is_same-refl a)

pub up_to_greatest : (epochs : List ℕ) (epoch : ℕ) → IsOneOf epochs epoch → epoch ≤ greatest epochs
up_to_greatest [] epoch is = absurd is
up_to_greatest (first ∷ rest) epoch (inl e) = omega (arith, e)
up_to_greatest (first ∷ rest) epoch (inr more) = let le = up_to_greatest rest epoch more in omega (arith, le)

-- ---- what is on a shard's path and not below what is firm is held

module _ (changes : List PoolChange) (tree : IsTree changes) where
  pub path_same : (a b : Version) → IsOnPath changes a b → b.seq ≤ a.seq → a ≡ b
  path_same a b path le = elim (path_end changes a b path) [
    | inl e ↦ e
    | inr end ↦
        let low = path_seq changes tree a end.change.prior end.before in
        let s = step_of changes tree end.change end.made in
        let same : end.change.version.seq ≡ b.seq = ap (λ u. u.seq) end.is in
        absurd (omega (arith, le, low, same, s.next))
  ]

  pub log_path : (from : Version) (ns : List Logged) (to : Version) → IsLogBetween changes from ns to → IsOnPath changes from to
  log_path from [] to e = subst (λ u. IsOnPath changes from u) e Itself
  log_path from (n ∷ ns) to l =
      let entry = l.1.0 in
      let one : IsOnPath changes from n.version =
      subst (λ u. IsOnPath changes from u) entry.version (Later entry.change entry.made (subst (λ u. IsOnPath changes from u) (sym (entry.prior ∙ l.0)) Itself)) in
      path_on changes from n.version to one (log_path n.version ns to l.1.1)

  pub in_log : (from : Version) (ns : List Logged) (to v : Version) → IsLogBetween changes from ns to → IsOnPath changes v to → IsOnPath changes from v
      → (from ≡ v) ⊎ (list_any (λ n. is_same n.version v) ns ≡ true)
  in_log from [] to v e up low =
      let le = path_seq changes tree v to up in let same : from.seq ≡ to.seq = ap (λ u. u.seq) e in
      inl (path_same from v low (omega (arith, le, same)))
  in_log from (n ∷ ns) to v l up low = elim (cases_lt v.seq n.version.seq) [
    | inl early ↦
        let entry = l.1.0 in
        let s = step_of changes tree entry.change entry.made in
        let number : entry.change.version.seq ≡ n.version.seq = ap (λ u. u.seq) entry.version in
        let prior : entry.change.prior.seq ≡ from.seq = ap (λ u. u.seq) (entry.prior ∙ l.0) in
        inl (path_same from v low (omega (arith, early, number, prior, s.next)))
    | inr late ↦
        let on = path_between changes tree n.version v to (log_path n.version ns to l.1.1) up late in
        elim (in_log n.version ns to v l.1.1 up on) [
          | inl e ↦ inr (or_left (is_same n.version v) (list_any (λ k. is_same k.version v) ns) (is_same_from n.version v e))
          | inr more ↦ inr (or_right (is_same n.version v) (list_any (λ k. is_same k.version v) ns) more)
        ]
  ]

module _ (layout : Layout) (history : History) (tree : IsTree history.changes) (p : ℕ) (s : Replay) (firm : FirmIsCommitted history s) where
  pub tail_on_firm : IsOnPath history.changes s.tail s.firm
  tail_on_firm = elim (cases_lt s.firm.seq s.tail.seq) [
    | inr le ↦ path_between history.changes tree s.tail s.firm (head s) firm.tail_on_head firm.firm_on_head le
    | inl lt ↦
        let back = path_between history.changes tree s.firm s.tail (head s) firm.firm_on_head firm.tail_on_head (omega (arith, lt)) in
        let same = same_version s.tail s.firm firm.ordered (path_up history.changes tree s.firm s.tail back) in
        subst (λ u. IsOnPath history.changes s.tail u) same Itself
  ]

  pub path_held : (v : Version) → LogIsPath layout history p s → IsOnPath history.changes v (head s) → IsOnPath history.changes s.firm v → Holds layout s v
  path_held v path up low =
      let from = path_on history.changes s.tail s.firm v tail_on_firm low in
      let firm_up = path_up history.changes tree s.firm v low in
      let tail_up = path_up history.changes tree s.tail v from in
      let t = state_of (geometry_of layout) s in
      and_from (is_known t v) (is_up_to s.firm v)
      (elim (in_log history.changes tree s.tail (log (geometry_of layout) s) (head s) v path.path up from) [
        | inl e ↦ or_left (is_same s.tail v) (is_up_to s.tail v && list_any (λ n. is_same n.version v) t.log) (is_same_from s.tail v e)
        | inr more ↦ or_right (is_same s.tail v) (is_up_to s.tail v && list_any (λ n. is_same n.version v) t.log)
            (and_from (is_up_to s.tail v) (list_any (λ n. is_same n.version v) t.log) tail_up more)
      ])
      firm_up

-- ---- a sufficient set

-- a slot whose shard counts
pub record Counts (image : StoredPool) (p : ℕ) (info : Info) : Type 0 where
  pub shard : Replay
  pub has : HasShard image p shard
  pub is : info_of shard ≡ info

pub counts_of : (image : StoredPool) (up p : ℕ) (info : Info) → IsEligible (peers_of image up) p info → Counts image p info
counts_of image up p info e =
    let says = says_of image p info e.says in
    record { shard = says.shard; has = record { there = says.there; whole = ap (λ i. i.partial) says.is ∙ e.whole }; is = says.is }

-- a shard that started the greatest epoch, and has the least head
pub record IsLeast (image : StoredPool) (up : ℕ) (survey : Survey) : Type 0 where
  pub p : ℕ
  pub is_up : HasPosition up p
  pub shard : Replay
  pub has : HasShard image p shard
  pub started : shard.les ≡ survey.epoch
  pub headed : head shard ≡ survey.version

module _ (layout : Layout) (image : StoredPool) (history : History) (up : ℕ) (stored : IsStoredPool layout image) (agrees : Agrees layout image history)
    (good : IsSufficient layout.code (peers_of image up)) where
  clean_low : image.map.state.clean ≤ active_epoch history
  clean_low = up_to_greatest history.activated image.map.state.clean agrees.consistent.clean_is_joined.active

  -- of an interval that is not too old some member counts
  some_counts : (epoch joined : ℕ) (base : Version) → WentAlive image.map.state.intervals epoch joined base → active_epoch history ≤ epoch → good.survey.epoch ≤ epoch
      → ((q : ℕ) (info : Info) → IsEligible (peers_of image up) q info → HasPosition joined q → ⊥) → ⊥
  some_counts epoch joined base alive late not_older none =
      let le = clean_low in
      let kept = alive_is_kept image.map.state epoch joined base alive (omega (arith, le, late)) in
      some_decide layout.code (bit_and joined good.survey.eligible) stored.code (good.decided epoch joined base kept not_older)
      (λ q has. let found = (good.surveyed.eligible q).0 ((has_both joined good.survey.eligible q).0 has).1 in
      none q found.0 found.1 ((has_both joined good.survey.eligible q).0 has).0)

  not_older : active_epoch history ≤ good.survey.epoch
  not_older = elim (cases_lt good.survey.epoch (active_epoch history)) [
    | inr le ↦ le
    | inl lt ↦
        let was = agrees.consistent.active_are_alive (active_epoch history) agrees.is_history.some in
        absurd (some_counts (active_epoch history) was.joined was.base was.alive (omega arith) (omega (arith, lt)) (λ q info e member.
        let counts = counts_of image up q info e in
        let started = (agrees.consistent.active_were_started q counts.shard counts.has).each (active_epoch history) was.joined was.base agrees.is_history.some was.alive member in
        let low = good.surveyed.epoch.greatest q info e in
        let same : counts.shard.les ≡ info.les = ap (λ i. i.les) counts.is in
        absurd (omega (arith, lt, started, low, same))))
  ]

  started : HasStarted (IsEligible (peers_of image up)) good.survey.epoch
  started = elim good.surveyed.epoch.started [
    | inl s ↦ s
    | inr none ↦
        let was = agrees.consistent.active_are_alive (active_epoch history) agrees.is_history.some in
        absurd (some_counts (active_epoch history) was.joined was.base was.alive (omega arith) (omega (arith, none.1)) (λ q info e member. none.0 q info e))
  ]

  least_shard : IsLeast image up good.survey
  least_shard = elim good.surveyed.version.headed [
    | inl h ↦
        let counts = counts_of image up h.p h.info h.is_in in
        record { p = h.p; is_up = h.is_in.up; shard = counts.shard; has = counts.has; started = ap (λ i. i.les) counts.is ∙ h.started; headed = ap (λ i. i.head) counts.is ∙ h.headed }
    | inr none ↦ absurd (none.0 started)
  ]

  committed_on_least : IsOnPath history.changes history.committed good.survey.version
  committed_on_least =
      let least = least_shard in
      let late = not_older in
      subst (λ u. IsOnPath history.changes history.committed u) least.headed
      ((agrees.consistent.committed_on_heads least.p least.shard least.has).on_head (omega (arith, late, least.started)))

  -- the interval that was started last
  its : IsOfInterval image.map.state.intervals history least_shard.shard
  its = agrees.consistent.heads_follow_bases least_shard.p least_shard.shard least_shard.has

  its_decide : DecidesAll layout.code (bit_and its.joined good.survey.eligible)
  its_decide =
      let low = clean_low in let late = not_older in let same = least_shard.started in
      good.decided least_shard.shard.les its.joined its.base
      (alive_is_kept image.map.state least_shard.shard.les its.joined its.base its.alive (omega (arith, low, late, same))) (omega (arith, same))

  -- a member that started it
  held_since : (q : ℕ) (s : Replay) → HasShard image q s → s.les ≡ least_shard.shard.les → is_up_to (head least_shard.shard) (head s) ≡ true
      → Holds layout s (head least_shard.shard)
  held_since q s has same low =
      let own = agrees.consistent.heads_follow_bases q s has in
      let least = least_shard.shard in
      let tree = agrees.is_history.tree in
      let changes = history.changes in
      let bases = (one_alive image.map.n image.map.state stored.map least.les own.joined its.joined own.base its.base
      (subst (λ e. WentAlive image.map.state.intervals e own.joined own.base) same own.alive) its.alive).1 in
      let follows : Follows changes least.les its.base (head s) =
      subst (λ b. Follows changes least.les b (head s)) bases (subst (λ e. Follows changes e own.base (head s)) same own.follows) in
      let firm = agrees.consistent.firm_is_committed q s has in
      let committed = subst (λ u. IsOnPath changes history.committed u) (sym least_shard.headed) committed_on_least in
      let on : IsOnPath changes (head least) (head s) =
      elim (cases_lt (head s).seq (head least).seq) [
        | inr le ↦ chain changes tree least.les its.base (head least) (head s) its.follows follows le
        | inl lt ↦
            let back = chain changes tree least.les its.base (head s) (head least) follows its.follows (omega (arith, lt)) in
            let both = same_version (head least) (head s) low (path_up changes tree (head s) (head least) back) in
            subst (λ u. IsOnPath changes (head least) u) both Itself
      ] in
      path_held layout history tree q s firm (head least) (agrees.consistent.logs_are_paths q s has) on
      (path_on changes s.firm history.committed (head least) firm.committed committed)

  -- a member that has not: nothing was made since the base
  held_before : (q : ℕ) (s : Replay) → HasShard image q s → HasPosition its.joined q → s.les < least_shard.shard.les → Holds layout s (head least_shard.shard)
  held_before q s has member early =
      let least = least_shard.shard in
      elim (follows_end history.changes least.les its.base (head least) its.follows) [
        | inl e ↦ subst (λ u. Holds layout s u) e
            ((agrees.consistent.bases_are_held q s has).each least.les its.joined its.base its.alive member early)
        | inr end ↦
            let made = agrees.consistent.made_active end.change end.made in
            let active = subst (IsOneOf history.activated) end.dated made.active in
            let le = (agrees.consistent.active_were_started q s has).each least.les its.joined its.base active its.alive member in
            absurd (omega (arith, early, le))
      ]

  member_holds : (q : ℕ) (info : Info) → IsEligible (peers_of image up) q info → HasPosition its.joined q → SlotHolds layout image q good.survey.version
  member_holds q info e member =
      let counts = counts_of image up q info e in
      let les : counts.shard.les ≡ info.les = ap (λ i. i.les) counts.is in
      let low = good.surveyed.epoch.greatest q info e in
      let here = least_shard.started in
      let holds : Holds layout counts.shard (head least_shard.shard) =
      elim (cases_lt counts.shard.les least_shard.shard.les) [
        | inl early ↦ held_before q counts.shard counts.has member early
        | inr late ↦
            let same : counts.shard.les ≡ least_shard.shard.les = omega (arith, late, les, low, here) in
            let least = good.surveyed.version.least q info e (sym les ∙ same ∙ here) in
            held_since q counts.shard counts.has same
            (subst (λ u. is_up_to (head least_shard.shard) u ≡ true) (sym (ap (λ i. i.head) counts.is))
            (subst (λ u. is_up_to u info.head ≡ true) (sym least_shard.headed) least))
      ] in
      record { shard = counts.shard; has = counts.has; holds = subst (λ u. Holds layout counts.shard u) least_shard.headed holds }

module _ (layout : Layout) (image : StoredPool) (history : History) (up joined : ℕ) (version : Version) (stored : IsStoredPool layout image)
    (agrees : Agrees layout image history) (chooses : Chooses layout image up joined version) where
  pub version_is : chooses.sufficient.survey.version ≡ version
  version_is = ap (λ s. s.version) (one_survey (peers_of image up) chooses.sufficient.survey chooses.survey chooses.sufficient.surveyed chooses.surveyed) ∙ sym chooses.chosen

  joins : (q : ℕ) (info : Info) → IsEligible (peers_of image up) q info → SlotHolds layout image q chooses.sufficient.survey.version → HasPosition joined q
  joins q info e holds =
      (chooses.joined_set q).1 ((chooses.held q e.up).1 (subst (SlotHolds layout image q) version_is holds), (info, e))

  pub joined_holds : (q : ℕ) → HasPosition joined q → SlotHolds layout image q version
  joined_holds q has = let both = (chooses.joined_set q).0 has in (chooses.held q both.1.1.up).0 both.0

  pub shows_committed : ShowsCommitted layout image history joined version
  shows_committed = record {
    represents = record {
      decides = decides_more layout.code (bit_and (its layout image history up stored agrees chooses.sufficient).joined chooses.sufficient.survey.eligible) joined
          (λ q has.
          let found = (chooses.sufficient.surveyed.eligible q).0 ((has_both (its layout image history up stored agrees chooses.sufficient).joined chooses.sufficient.survey.eligible q).0 has).1 in
          joins q found.0 found.1 (member_holds layout image history up stored agrees chooses.sufficient q found.0 found.1
          ((has_both (its layout image history up stored agrees chooses.sufficient).joined chooses.sufficient.survey.eligible q).0 has).0))
          (its_decide layout image history up stored agrees chooses.sufficient);
      each = λ q has.
          let h = joined_holds q has in
          record { shard = h.shard; has = h.has; shows = (agrees.consistent.past_is_kept q h.shard h.has).each version h.holds };
    };
    committed = subst (λ u. IsOnPath history.changes history.committed u) version_is (committed_on_least layout image history up stored agrees chooses.sufficient);
  }

  pub chosen_in : IsInTree history.changes version
  chosen_in =
      let least = least_shard layout image history up stored agrees chooses.sufficient in
      subst (IsInTree history.changes) (least.headed ∙ version_is) (agrees.consistent.logs_are_paths least.p least.shard least.has).known

  -- where nothing that was accepted is missing on a slot that started the active epoch, this is what is chosen
  pub last_accepted : (v : Version) → IsLastAccepted image history up v → version ≡ v
  last_accepted v accepted =
      let good = chooses.sufficient in
      let least = least_shard layout image history up stored agrees good in
      let own = its layout image history up stored agrees good in
      let late = not_older layout image history up stored agrees good in
      let same = least.started in
      sym version_is ∙ sym least.headed ∙ elim (cases_lt (active_epoch history) least.shard.les) [
        | inr not_later ↦
            accepted.heads least.p least.shard least.is_up least.has (omega (arith, late, same, not_later))
        | inl later ↦ elim (follows_end history.changes least.shard.les own.base (head least.shard) own.follows) [
          | inl e ↦ sym e ∙ accepted.bases least.shard.les own.joined own.base own.alive later
          | inr end ↦
              let le = up_to_greatest history.activated least.shard.les
              (subst (IsOneOf history.activated) end.dated (agrees.consistent.made_active end.change end.made).active) in
              absurd (omega (arith, le, later))
        ]
      ]

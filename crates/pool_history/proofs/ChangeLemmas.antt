-- A change is accepted, taken by the slots and committed.
use Rattle.std.proofs.Common.{◌≡◌, ◌⊎◌, inl, inr, ◌≤◌, ℕ, List, [], ◌∷◌, ◌++◌, map, sym, ap, subst, ◌∙◌, arith, Some}
use Rattle.std.specs.List.{AllByRecursion}
use Rattle.std.proofs.lemmas.Bool.{and_parts}
use Rattle.ec_model.specs.Versions.{Version, is_up_to}
use Rattle.shard_model.specs.Steps.{Entry, Step, Firm, Trim, Log, Control}
use Rattle.shard_model.specs.States.{is_known}
use Rattle.shard_model.specs.Replays.{Replay, head, state_of, replay_after, replay_from, IsWhole}
use Rattle.shard_model.proofs.ReplayLemmas.{last-append}
use Rattle.shard_model.proofs.StepLemmas.{whole_after, some_is}
use Rattle.pool_history.specs.Histories.{PoolChange, History, IsTree, MayBeMade, IsInTree, IsOnPath, Later, Follows, Next, IsOneOf, active_epoch, objects_of, with_change, with_committed}
use Rattle.pool_history.specs.Images.{StoredPool, IsStoredPool, HasShard, IsLastAlive}
use Rattle.auth_log.specs.Choice.{WentAlive}
use Rattle.pool_history.specs.Consistency.{Consistent, Agrees}
use Rattle.pool_history.specs.Layouts.{Layout, geometry_of, shard_at}
use Rattle.pool_history.specs.Transitions.{ShardTakes, Perhaps, Without, With, IsPositionEntry, IsBatch, IsNextChange, MayBeCommitted}
use Rattle.pool_history.proofs.TreeLemmas.{more_in, more_path, more_follows, more_objects, made_is_in, path_on, path_seq, path_in, follows_end}
use Rattle.pool_history.proofs.ImageLemmas.{one_alive}
use Rattle.pool_history.proofs.LogLemmas.{known_in, more_log}
use Rattle.pool_history.proofs.MoveLemmas.{MapParts, parts_of, consistent_from, shard_taken}
use Rattle.shard_model.proofs.PastLemmas.{first_step}
use Rattle.pool_history.proofs.ShardLemmas.{Kept, Parts, firm_kept, trim_kept, enter_kept, prior_is}
use Rattle.pool_history.proofs.ShowLemmas.{up_to_greatest}

module _ (layout : Layout) (image : StoredPool) (history : History) (stored : IsStoredPool layout image) (agrees : Agrees layout image history)
    (joined : ℕ) (base : Version) (last : IsLastAlive image.map.state.intervals (active_epoch history) joined base) where
  tree : IsTree history.changes
  tree = agrees.is_history.tree

  -- ---- a change is accepted

  module _ (change : PoolChange) (follows_on : IsNextChange history (active_epoch history) base change) where
    prior_in : IsInTree history.changes change.prior
    prior_in = elim (follows_end history.changes (active_epoch history) base change.prior follows_on.end.follows) [
      | inl e ↦ subst (IsInTree history.changes) e (agrees.consistent.well_begun (active_epoch history) joined base last.alive).based
      | inr end ↦ subst (IsInTree history.changes) end.is (made_is_in history.changes end.change end.made)
    ]

    -- no version of the tree is of a later epoch than the active one
    no_later : (v : Version) → IsInTree history.changes v → v.epoch ≤ active_epoch history
    no_later v (inl root) = let e : v.epoch ≡ 0 = ap (λ u. u.epoch) root in omega (arith, e)
    no_later v (inr at) =
        let made = agrees.consistent.made_active at.change at.made in
        let le = up_to_greatest history.activated at.change.version.epoch made.active in
        let e : at.change.version.epoch ≡ v.epoch = ap (λ u. u.epoch) at.is in
        omega (arith, le, e)

    is_new : IsInTree history.changes change.version → ⊥
    is_new (inl root) = let e : change.version.seq ≡ 0 = ap (λ u. u.seq) root in absurd (omega (arith, e, follows_on.next))
    is_new (inr at) =
        let on = follows_on.end.last at.change at.made (ap (λ u. u.epoch) at.is ∙ follows_on.dated) in
        let le = path_seq history.changes tree at.change.version change.prior on in
        let e : at.change.version.seq ≡ change.version.seq = ap (λ u. u.seq) at.is in
        absurd (omega (arith, le, e, follows_on.next))

    may_be_made : MayBeMade history.changes change
    may_be_made = record {
      on_tree = prior_in;
      new = is_new;
      next = follows_on.next;
      no_older = let le = no_later change.prior prior_in in omega (arith, le, follows_on.dated);
      short_epoch = follows_on.short_epoch;
      short_seq = follows_on.short_seq;
      accepted = follows_on.accepted;
    }

    grown_map : MapParts layout image.map.state.intervals image.map.state.clean (with_change change history)
    grown_map =
        let k = agrees.consistent in
        let changes = history.changes in
        record {
          well_begun = λ other others its a.
              let w = k.well_begun other others its a in record { based = more_in change changes its w.based; decides = w.decides };
          made_active = λ one made. elim made [
            | inl e ↦ record {
              joined = joined;
              base = base;
              alive = subst (λ n. WentAlive image.map.state.intervals n joined base) (sym follows_on.dated ∙ ap (λ m. m.version.epoch) e) last.alive;
              active = subst (IsOneOf history.activated) (sym follows_on.dated ∙ ap (λ m. m.version.epoch) e) agrees.is_history.some;
              follows = more_follows change changes one.version.epoch base one.prior
                  (subst (λ n. Follows changes n base one.prior) (sym follows_on.dated ∙ ap (λ m. m.version.epoch) e)
                  (subst (λ v. Follows changes (active_epoch history) base v) (ap (λ m. m.prior) e) follows_on.end.follows));
            }
            | inr old ↦
                let m = k.made_active one old in
                record { joined = m.joined; base = m.base; alive = m.alive; active = m.active; follows = more_follows change changes one.version.epoch m.base one.prior m.follows }
          ];
          active_are_alive = k.active_are_alive;
          committed_on_bases =
              let c = k.committed_on_bases in
              record {
                joined = c.joined;
                base = c.base;
                alive = c.alive;
                follows = more_follows change changes (active_epoch history) c.base history.committed c.follows;
                later = λ other others its a late. more_path change changes history.committed its (c.later other others its a late);
              };
          clean_is_joined = let c = k.clean_is_joined in record { active = c.active; joined = c.joined; base = c.base; alive = c.alive; all = c.all };
        }

    grown_parts : (p : ℕ) (s : Replay) → HasShard image p s → Parts layout image.map.state.intervals image.map.state.clean (with_change change history) p s
    grown_parts p s has =
        let changes = history.changes in
        let was = parts_of layout image history agrees.consistent p s has in
        let kept = was.kept in
        let tail_in = path_in changes tree s.tail (head s) kept.eight.tail_on_head kept.one.known in
        let same_objects : (v : Version) → IsInTree changes v → shard_at layout p (objects_of changes v) ≡ shard_at layout p (objects_of (change ∷ changes) v) =
        λ v known. ap (shard_at layout p) (sym (more_objects change changes v is_new known)) in
        record {
          kept = record {
            one = record {
              known = more_in change changes (head s) kept.one.known;
              path = more_log change changes s.tail (state_of (geometry_of layout) s).log (head s) kept.one.path;
              objects = kept.one.objects ∙ same_objects (head s) kept.one.known;
            };
            two = record {
              each = λ v held.
                  kept.two.each v held ∙ same_objects v (known_in changes tree (state_of (geometry_of layout) s) (head s) v kept.one.path tail_in
                  (and_parts (is_known (state_of (geometry_of layout) s) v) (is_up_to s.firm v) held).0);
            };
            eight = record {
              ordered = kept.eight.ordered;
              tail_on_head = more_path change changes s.tail (head s) kept.eight.tail_on_head;
              firm_on_head = more_path change changes s.firm (head s) kept.eight.firm_on_head;
              committed = more_path change changes s.firm history.committed kept.eight.committed;
            };
          };
          three = record {
            joined = was.three.joined;
            base = was.three.base;
            alive = was.three.alive;
            follows = more_follows change changes s.les was.three.base (head s) was.three.follows;
          };
          five = was.five;
          six = record { each = was.six.each };
          seven = record { on_head = λ late. more_path change changes history.committed (head s) (was.seven.on_head late) };
          nine = was.nine;
        }

    pub change_accepted : Agrees layout image (with_change change history)
    change_accepted = record {
      is_history = record {
        tree = (may_be_made, tree);
        some = agrees.is_history.some;
        kept = more_in change history.changes history.committed agrees.is_history.kept;
      };
      consistent = consistent_from layout image (with_change change history) grown_map grown_parts;
    }

  -- ---- a slot takes changes

  -- a shard of the active epoch, under way
  record Ready (p : ℕ) (s : Replay) : Type 0 where
    whole : IsWhole (geometry_of layout) s
    kept : Kept layout history p s
    les : s.les ≡ active_epoch history
    follows : Follows history.changes (active_epoch history) base (head s)
    on_head : IsOnPath history.changes history.committed (head s)

  -- what is left to do
  record GoesOn (p : ℕ) (steps : List Step) (after : Replay) : Type 0 where
    mid : Replay
    ready : Ready p mid
    done : replay_from (geometry_of layout) mid steps ≡ Some after

  firm_done : (p : ℕ) (s after : Replay) (firm rest : List Step) → (firm ≡ []) ⊎ (firm ≡ Control (Firm history.committed) ∷ []) → Ready p s
      → replay_from (geometry_of layout) s (firm ++ rest) ≡ Some after → GoesOn p rest after
  firm_done p s after firm rest (inl none) r done =
      record { mid = s; ready = r; done = subst (λ f. replay_from (geometry_of layout) s (f ++ rest) ≡ Some after) none done }
  firm_done p s after firm rest (inr one) r done =
      let first = first_step (geometry_of layout) s (Control (Firm history.committed)) rest after
      (subst (λ f. replay_from (geometry_of layout) s (f ++ rest) ≡ Some after) one done) in
      record {
        mid = replay_after (geometry_of layout) s (Control (Firm history.committed));
        ready = record {
          whole = whole_after (geometry_of layout) stored.stripes s (Control (Firm history.committed)) r.whole first.0;
          kept = firm_kept layout stored.code.some_data stored.stripes history tree p s r.whole first.0 r.kept r.on_head;
          les = r.les;
          follows = r.follows;
          on_head = r.on_head;
        };
        done = first.1;
      }

  trim_done : (p : ℕ) (s after : Replay) (trim rest : List Step) → Perhaps (λ v. Control (Trim v)) trim → Ready p s
      → replay_from (geometry_of layout) s (trim ++ rest) ≡ Some after → GoesOn p rest after
  trim_done p s after trim rest Without r done = record { mid = s; ready = r; done = done }
  trim_done p s after trim rest (With v) r done =
      let first = first_step (geometry_of layout) s (Control (Trim v)) rest after done in
      record {
        mid = replay_after (geometry_of layout) s (Control (Trim v));
        ready = record {
          whole = whole_after (geometry_of layout) stored.stripes s (Control (Trim v)) r.whole first.0;
          kept = trim_kept layout stored.code.some_data stored.stripes history tree p s v r.whole first.0 r.kept;
          les = r.les;
          follows = r.follows;
          on_head = r.on_head;
        };
        done = first.1;
      }

  entries_done : (p : ℕ) (s after : Replay) (entries : List Entry) → AllByRecursion (IsPositionEntry layout history (active_epoch history) p) entries → Ready p s
      → replay_from (geometry_of layout) s (map Log entries) ≡ Some after → Ready p after
  entries_done p s after [] all r done = subst (Ready p) (some_is s after done) r
  entries_done p s after (e ∷ entries) all r done =
      let g = geometry_of layout in
      let first = first_step g s (Log e) (map Log entries) after done in
      let entry = all.0 in
      let now = replay_after g s (Log e) in
      let headed : head now ≡ e.version = last-append g stored.stripes s.base_version s.entries e in
      let prior = prior_is layout stored.code.some_data stored.stripes history tree p s e (and_parts _ _ first.0).0 in
      let before : head s ≡ entry.change.prior = sym (ap (λ d. d.prior) entry.is ∙ prior) in
      entries_done p now after entries all.1 (record {
        whole = whole_after g stored.stripes s (Log e) r.whole first.0;
        kept = enter_kept layout stored.code.some_data stored.stripes history tree p s e (active_epoch history) r.whole first.0 entry r.kept;
        les = r.les;
        follows = subst (λ v. Follows history.changes (active_epoch history) base v) (ap (λ d. d.version) entry.is ∙ sym headed)
            (Next entry.change entry.made entry.dated (subst (λ v. Follows history.changes (active_epoch history) base v) before r.follows));
        on_head = subst (λ v. IsOnPath history.changes history.committed v) (ap (λ d. d.version) entry.is ∙ sym headed)
            (Later entry.change entry.made (subst (λ v. IsOnPath history.changes history.committed v) before r.on_head));
      }) first.1

  ready_parts : (p : ℕ) (s : Replay) → Ready p s → Parts layout image.map.state.intervals image.map.state.clean history p s
  ready_parts p s r =
      let clean_low = up_to_greatest history.activated image.map.state.clean agrees.consistent.clean_is_joined.active in
      record {
        kept = r.kept;
        three = record {
          joined = joined;
          base = base;
          alive = subst (λ n. WentAlive image.map.state.intervals n joined base) (sym r.les) last.alive;
          follows = subst (λ n. Follows history.changes n base (head s)) (sym r.les) r.follows;
        };
        five = record {
          each = λ other others its a has later_epoch.
              let le = last.last other others its a in absurd (omega (arith, le, later_epoch, r.les));
        };
        six = record { each = λ other others its active a has. let le = last.last other others its a in omega (arith, le, r.les) };
        seven = record { on_head = λ late. r.on_head };
        nine = omega (arith, clean_low, r.les);
      }

  pub changes_taken : (later : StoredPool) (p : ℕ) (s : Replay) (steps : List Step) → s.les ≡ active_epoch history
      → IsBatch layout history (active_epoch history) p steps → ShardTakes layout p s steps image later → Consistent layout later history
  changes_taken later p s steps les batch takes =
      let was = parts_of layout image history agrees.consistent p s takes.before in
      let bases = (one_alive image.map.n image.map.state stored.map (active_epoch history) was.three.joined joined was.three.base base
      (subst (λ n. WentAlive image.map.state.intervals n was.three.joined was.three.base) les was.three.alive) last.alive).1 in
      let ready : Ready p s = record {
        whole = stored.shards p s takes.before.there;
        kept = was.kept;
        les = les;
        follows = subst (λ b. Follows history.changes (active_epoch history) b (head s)) bases
            (subst (λ n. Follows history.changes n was.three.base (head s)) les was.three.follows);
        on_head = was.seven.on_head (omega (arith, les));
      } in
      let firm = firm_done p s takes.after batch.firm (batch.trim ++ map Log batch.entries) batch.is_firm ready
      (subst (λ ss. replay_from (geometry_of layout) s ss ≡ Some takes.after) batch.steps_are takes.done) in
      let trim = trim_done p firm.mid takes.after batch.trim (map Log batch.entries) batch.is_trim firm.ready firm.done in
      shard_taken layout p s steps image later history takes agrees.consistent
      (ready_parts p takes.after (entries_done p trim.mid takes.after batch.entries batch.are_entries trim.ready trim.done))

  -- ---- changes are committed

  module _ (v : Version) (may : MayBeCommitted image history v) where
    committed_follows : Follows history.changes (active_epoch history) base v
    committed_follows =
        let dated : may.change.version.epoch ≡ active_epoch history = ap (λ u. u.epoch) may.is ∙ may.dated in
        let made = agrees.consistent.made_active may.change may.made in
        let bases = (one_alive image.map.n image.map.state stored.map (active_epoch history) made.joined joined made.base base
        (subst (λ n. WentAlive image.map.state.intervals n made.joined made.base) dated made.alive) last.alive).1 in
        subst (λ u. Follows history.changes (active_epoch history) base u) may.is
        (Next may.change may.made dated
        (subst (λ b. Follows history.changes (active_epoch history) b may.change.prior) bases
        (subst (λ n. Follows history.changes n made.base may.change.prior) dated made.follows)))

    committed_map : MapParts layout image.map.state.intervals image.map.state.clean (with_committed v history)
    committed_map =
        let k = agrees.consistent in
        record {
          well_begun = λ other others its a. let w = k.well_begun other others its a in record { based = w.based; decides = w.decides };
          made_active = λ change made.
              let m = k.made_active change made in record { joined = m.joined; base = m.base; alive = m.alive; active = m.active; follows = m.follows };
          active_are_alive = k.active_are_alive;
          committed_on_bases = record {
            joined = joined;
            base = base;
            alive = last.alive;
            follows = committed_follows;
            later = λ other others its a late. let le = last.last other others its a in absurd (omega (arith, le, late));
          };
          clean_is_joined = let c = k.clean_is_joined in record { active = c.active; joined = c.joined; base = c.base; alive = c.alive; all = c.all };
        }

    committed_parts : (p : ℕ) (s : Replay) → HasShard image p s → Parts layout image.map.state.intervals image.map.state.clean (with_committed v history) p s
    committed_parts p s has =
        let was = parts_of layout image history agrees.consistent p s has in
        let kept = was.kept in
        record {
          kept = record {
            one = record { known = kept.one.known; path = kept.one.path; objects = kept.one.objects };
            two = record { each = kept.two.each };
            eight = record {
              ordered = kept.eight.ordered;
              tail_on_head = kept.eight.tail_on_head;
              firm_on_head = kept.eight.firm_on_head;
              committed = path_on history.changes s.firm history.committed v kept.eight.committed may.later;
            };
          };
          three = record { joined = was.three.joined; base = was.three.base; alive = was.three.alive; follows = was.three.follows };
          five = was.five;
          six = record { each = was.six.each };
          seven = record { on_head = may.had p s has };
          nine = was.nine;
        }

    pub changes_committed : Agrees layout image (with_committed v history)
    changes_committed = record {
      is_history = record {
        tree = tree;
        some = agrees.is_history.some;
        kept = subst (IsInTree history.changes) may.is (made_is_in history.changes may.change may.made);
      };
      consistent = consistent_from layout image (with_committed v history) committed_map committed_parts;
    }

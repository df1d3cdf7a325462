-- What a record's steps keep of a shard's agreement with the history.
use Rattle.std.proofs.Common.{◌≡◌, inl, inr, ◌*◌, ◌<◌, ◌≤◌, ℕ, true, not, List, [], ◌∷◌, sym, ap, subst, ◌∙◌, arith, ◌&&◌, ◌||◌}
use Rattle.std.specs.List.{list_any}
use Rattle.std.proofs.lemmas.Bool.{cases_eq, and_parts, and_from, or_cases, or_right}
use Rattle.ec_model.specs.Versions.{Version, is_up_to, is_same}
use Rattle.ec_words.specs.Intervals.{Interval}
use Rattle.shard_model.specs.Fronts.{after}
use Rattle.shard_model.specs.Steps.{Entry, Back, Firm, Trim, Started, Log, Control}
use Rattle.shard_model.specs.States.{version_of, effect, logged, is_known, holds, follows, fits, state_after}
use Rattle.shard_model.specs.Replays.{Replay, replayed, head, log, state_of, objects_at, replay_after, IsWhole}
use Rattle.shard_model.proofs.VersionLemmas.{up_to-trans, is_same-version}
use Rattle.shard_model.proofs.FrontLemmas.{any_after}
use Rattle.shard_model.proofs.ReplayLemmas.{replayed-append, last-append}
use Rattle.shard_model.proofs.StepLemmas.{one_more, whole_after}
use Rattle.shard_model.proofs.PastLemmas.{present, keeps_held, past_given, past_kept}
use Rattle.ec_positions.proofs.LawLemmas.{changes_keep_positions}
use Rattle.pool_history.specs.Histories.{PoolChange, History, IsTree, IsMade, IsInTree, IsOnPath, Itself, Later, objects_of}
use Rattle.pool_history.specs.Consistency.{IsLogBetween, LogIsPath, PastIsKept, IsOfInterval, BasesAreHeld, ActiveWasStarted, CommittedIsOnHead, FirmIsCommitted}
use Rattle.pool_history.specs.Layouts.{Layout, geometry_of, shard_at, position_entry}
use Rattle.pool_history.specs.Transitions.{IsPositionEntry}
use Rattle.pool_history.proofs.TreeLemmas.{applied, path_on, path_up, made_is_in}
use Rattle.pool_history.proofs.LogLemmas.{is_at, known_cases, known_low, cut_log, drop_log, push_log, settled_log, settled_any}
use Rattle.pool_history.proofs.ShowLemmas.{tail_on_firm, log_path}

-- the parts that do not look at the epoch
pub record Kept (layout : Layout) (history : History) (p : ℕ) (s : Replay) : Type 0 where
  pub one : LogIsPath layout history p s
  pub two : PastIsKept layout history p s
  pub eight : FirmIsCommitted history s

-- all parts
pub record Parts (layout : Layout) (intervals : List Interval) (clean : ℕ) (history : History) (p : ℕ) (s : Replay) : Type 0 where
  pub kept : Kept layout history p s
  pub three : IsOfInterval intervals history s
  pub five : BasesAreHeld layout intervals p s
  pub six : ActiveWasStarted intervals history p s
  pub seven : CommittedIsOnHead history s
  pub nine : clean ≤ s.les

-- the entry of a change leads from the position's objects before to those after
pub entry_leads : (layout : Layout) → 1 ≤ layout.code.k → 0 < layout.code.k * layout.unit → (changes : List PoolChange) → IsTree changes → (p : ℕ) (m : PoolChange)
    → IsMade changes m → effect (geometry_of layout) (shard_at layout p (objects_of changes m.prior)) (position_entry layout p changes m)
    ≡ shard_at layout p (objects_of changes m.version)
entry_leads layout some positive changes tree p m made =
    let some_unit : 1 ≤ layout.unit = elim (cases_eq layout.unit 0) [
      | inl e ↦ let none : 0 < layout.code.k * 0 = subst (λ u. 0 < layout.code.k * u) e positive in absurd (omega (arith, none))
      | inr other ↦ omega (arith, other)
    ] in
    let is = applied changes tree m made in
    (changes_keep_positions layout.code layout.unit p m.update (objects_of changes m.prior) some some_unit is.accepted).leads
    ∙ ap (shard_at layout p) (sym is.objects)

module _ (layout : Layout) (some : 1 ≤ layout.code.k) (positive : 0 < layout.code.k * layout.unit) (history : History) (tree : IsTree history.changes) (p : ℕ) where
  -- ---- rolling back

  pub back_kept : (s : Replay) (b : Version) → IsWhole (geometry_of layout) s → fits (geometry_of layout) (state_of (geometry_of layout) s) (Control (Back b)) ≡ true
      → Kept layout history p s → IsInTree history.changes b → IsOnPath history.changes history.committed b
      → Kept layout history p (replay_after (geometry_of layout) s (Control (Back b)))
  back_kept s b whole fit k known committed =
      let g = geometry_of layout in
      let s' = replay_after g s (Control (Back b)) in
      let law = one_more g positive s (Control (Back b)) whole fit in
      let held : holds (state_of g s) b ≡ true = (and_parts (not s.partial) (holds (state_of g s) b) fit).1 in
      let knows = (and_parts (is_known (state_of g s) b) (is_up_to s.firm b) held).0 in
      let headed : head s' ≡ b = (past_given g positive s whole b fit).1 in
      let firm_on : IsOnPath history.changes s.firm b = path_on history.changes s.firm history.committed b k.eight.committed committed in
      let tail_on : IsOnPath history.changes s.tail b = path_on history.changes s.tail s.firm b (tail_on_firm layout history tree p s k.eight) firm_on in
      record {
        one = record {
          known = subst (IsInTree history.changes) (sym headed) known;
          path = subst (λ u. IsLogBetween history.changes s.tail (log g s') u) (sym headed)
              (subst (λ ns. IsLogBetween history.changes s.tail ns b) (sym (ap (λ t. t.log) law))
              (cut_log history.changes tree s.tail (log g s) (head s) b k.one.path (known_cases (state_of g s) b knows)));
          objects = subst (λ u. replayed g s'.base s'.entries ≡ shard_at layout p (objects_of history.changes u)) (sym headed) (k.two.each b held);
        };
        two = record { each = λ v h. let both = past_kept g positive s whole b v fit h in both.1 ∙ k.two.each v both.0 };
        eight = record {
          ordered = k.eight.ordered;
          tail_on_head = subst (λ u. IsOnPath history.changes s.tail u) (sym headed) tail_on;
          firm_on_head = subst (λ u. IsOnPath history.changes s.firm u) (sym headed) firm_on;
          committed = k.eight.committed;
        };
      }

  -- an epoch is started
  pub started_kept : (s : Replay) (epoch : ℕ) → Kept layout history p s → Kept layout history p (replay_after (geometry_of layout) s (Control (Started epoch)))
  started_kept s epoch k = record {
    one = record { known = k.one.known; path = k.one.path; objects = k.one.objects };
    two = record { each = λ v h. k.two.each v h };
    eight = record { ordered = k.eight.ordered; tail_on_head = k.eight.tail_on_head; firm_on_head = k.eight.firm_on_head; committed = k.eight.committed };
  }

  -- ---- the steps of a batch

  pub firm_kept : (s : Replay) → IsWhole (geometry_of layout) s
      → fits (geometry_of layout) (state_of (geometry_of layout) s) (Control (Firm history.committed)) ≡ true → Kept layout history p s
      → IsOnPath history.changes history.committed (head s)
      → Kept layout history p (replay_after (geometry_of layout) s (Control (Firm history.committed)))
  firm_kept s whole fit k on_head =
      let g = geometry_of layout in
      let c = history.committed in
      let s' = replay_after g s (Control (Firm c)) in
      let law = one_more g positive s (Control (Firm c)) whole fit in
      let higher = path_up history.changes tree s.firm c k.eight.committed in
      let t = state_of g s in
      record {
        one = record {
          known = k.one.known;
          path = subst (λ ns. IsLogBetween history.changes s.tail ns (head s)) (sym (ap (λ u. u.log) law))
              (settled_log history.changes tree c s.tail (log g s) (head s) k.one.path);
          objects = k.one.objects;
        };
        two = record {
          each = λ v h.
              let now : holds (state_after g t (Control (Firm c))) v ≡ true = subst (λ u. holds u v ≡ true) law h in
              let parts = and_parts (is_known (state_after g t (Control (Firm c))) v) (is_up_to c v) now in
              let known : is_known t v ≡ true = subst (λ b. (is_same s.tail v || (is_up_to s.tail v && b)) ≡ true) (settled_any c v t.log) parts.0 in
              k.two.each v (and_from (is_known t v) (is_up_to s.firm v) known (up_to-trans s.firm c v higher parts.1));
        };
        eight = record {
          ordered = up_to-trans s.tail s.firm c k.eight.ordered higher;
          tail_on_head = k.eight.tail_on_head;
          firm_on_head = on_head;
          committed = Itself;
        };
      }

  pub trim_kept : (s : Replay) (v : Version) → IsWhole (geometry_of layout) s → fits (geometry_of layout) (state_of (geometry_of layout) s) (Control (Trim v)) ≡ true
      → Kept layout history p s → Kept layout history p (replay_after (geometry_of layout) s (Control (Trim v)))
  trim_kept s v whole fit k =
      let g = geometry_of layout in
      let t = state_of g s in
      let law = one_more g positive s (Control (Trim v)) whole fit in
      let may = and_parts (is_known t v) (is_up_to v s.firm) (and_parts (not s.partial) (is_known t v && is_up_to v s.firm) fit).1 in
      let rest = drop_log history.changes tree s.tail (log g s) (head s) v k.one.path (known_cases t v may.0) in
      record {
        one = record {
          known = k.one.known;
          path = subst (λ ns. IsLogBetween history.changes v ns (head s)) (sym (ap (λ u. u.log) law)) rest;
          objects = k.one.objects;
        };
        two = record {
          each = λ w h.
              let now : holds (state_after g t (Control (Trim v))) w ≡ true = subst (λ u. holds u w ≡ true) law h in
              let parts = and_parts (is_known (state_after g t (Control (Trim v))) w) (is_up_to s.firm w) now in
              let known : is_known t w ≡ true =
              elim (or_cases (is_same v w) (is_up_to v w && list_any (is_at w) (after version_of v t.log)) parts.0) [
                | inl same ↦ subst (λ u. is_known t u ≡ true) (is_same-version v w same) may.0
                | inr more ↦
                    let both = and_parts (is_up_to v w) (list_any (is_at w) (after version_of v t.log)) more in
                    or_right (is_same s.tail w) (is_up_to s.tail w && list_any (is_at w) t.log)
                    (and_from (is_up_to s.tail w) (list_any (is_at w) t.log) (up_to-trans s.tail v w (known_low t v may.0) both.0)
                    (any_after version_of (is_at w) v t.log both.1))
              ] in
              k.two.each w (and_from (is_known t w) (is_up_to s.firm w) known parts.1);
        };
        eight = record {
          ordered = may.1;
          tail_on_head = log_path history.changes tree v (after version_of v (log g s)) (head s) rest;
          firm_on_head = k.eight.firm_on_head;
          committed = k.eight.committed;
        };
      }

  -- the entry's prior is the head
  pub prior_is : (s : Replay) (e : Entry) → follows (state_of (geometry_of layout) s) e ≡ true → e.prior ≡ head s
  prior_is s e fit =
      let same : is_same e.prior (head s) ≡ true = (and_parts _ _ (and_parts _ _ fit).1).0 in is_same-version e.prior (head s) same

  pub enter_kept : (s : Replay) (e : Entry) (epoch : ℕ) → IsWhole (geometry_of layout) s
      → fits (geometry_of layout) (state_of (geometry_of layout) s) (Log e) ≡ true → IsPositionEntry layout history epoch p e
      → Kept layout history p s → Kept layout history p (replay_after (geometry_of layout) s (Log e))
  enter_kept s e epoch whole fit entry k =
      let g = geometry_of layout in
      let t = state_of g s in
      let s' = replay_after g s (Log e) in
      let law = one_more g positive s (Log e) whole fit in
      let prior = prior_is s e (and_parts (follows t e) _ fit).0 in
      let headed : head s' ≡ e.version = last-append g positive s.base_version s.entries e in
      let now = replayed g s.base s.entries in
      let version : entry.change.version ≡ e.version = ap (λ d. d.version) entry.is in
      let from : entry.change.prior ≡ e.prior = ap (λ d. d.prior) entry.is in
      let leads : effect g (shard_at layout p (objects_of history.changes entry.change.prior)) e ≡ shard_at layout p (objects_of history.changes entry.change.version) =
      subst (λ d. effect g (shard_at layout p (objects_of history.changes entry.change.prior)) d ≡ shard_at layout p (objects_of history.changes entry.change.version))
      entry.is (entry_leads layout some positive history.changes tree p entry.change entry.made) in
      let on : IsOnPath history.changes (head s) (head s') =
      subst (λ u. IsOnPath history.changes (head s) u) (version ∙ sym headed)
      (Later entry.change entry.made (subst (λ u. IsOnPath history.changes (head s) u) (sym (from ∙ prior)) Itself)) in
      let objects : replayed g s'.base s'.entries ≡ shard_at layout p (objects_of history.changes (head s')) =
      replayed-append g positive s.base s.entries (e ∷ [])
      ∙ ap (λ m. effect g m e) (k.one.objects ∙ ap (λ u. shard_at layout p (objects_of history.changes u)) (sym (from ∙ prior)))
      ∙ leads ∙ ap (λ u. shard_at layout p (objects_of history.changes u)) (version ∙ sym headed) in
      let n = logged now e in
      record {
        one = record {
          known = subst (IsInTree history.changes) (version ∙ sym headed) (made_is_in history.changes entry.change entry.made);
          path = subst (λ u. IsLogBetween history.changes s.tail (log g s') u) (sym headed)
              (subst (λ ns. IsLogBetween history.changes s.tail ns e.version) (sym (ap (λ u. u.log) law))
              (push_log history.changes tree s.tail (log g s) (head s) n k.one.path prior
              (record { change = entry.change; made = entry.made; version = version; prior = from; named = ap (λ d. d.name) entry.is })));
          objects = objects;
        };
        two = record {
          each = λ v h.
              let held = keeps_held g positive s whole e fit in
              elim (held.only v h) [
                | inl old ↦ held.objects v old ∙ k.two.each v old
                | inr new ↦ subst (λ u. objects_at g s' u ≡ shard_at layout p (objects_of history.changes u)) (headed ∙ new)
                    (present g positive s' (whole_after g positive s (Log e) whole fit) ∙ objects)
              ];
        };
        eight = record {
          ordered = k.eight.ordered;
          tail_on_head = path_on history.changes s.tail (head s) (head s') k.eight.tail_on_head on;
          firm_on_head = path_on history.changes s.firm (head s) (head s') k.eight.firm_on_head on;
          committed = k.eight.committed;
        };
      }

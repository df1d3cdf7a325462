-- A slot is lost, filled anew, or made firm.
use Rattle.std.proofs.Common.{◌≡◌, inl, inr, ◌*◌, ◌<◌, ◌&&◌, ◌||◌, ℕ, not, true, [], ◌∷◌, ◌++◌, sym, ap, subst, ◌∙◌, arith, Some}
use Rattle.std.specs.List.{list_any}
use Rattle.std.proofs.lemmas.Bool.{and_parts, and_from, true≢false, false≢true}
use Rattle.ec_model.specs.Codes.{HasPosition}
use Rattle.ec_model.specs.Versions.{Version, is_up_to, is_same}
use Rattle.shard_model.specs.Fronts.{up_to, after}
use Rattle.shard_model.specs.Steps.{Firm, Reset, Control, Recover}
use Rattle.shard_model.specs.States.{version_of, is_known, holds, fits, state_after}
use Rattle.shard_model.specs.Replays.{Replay, entry_version, head, log, logged_all, last_version, replayed, state_of, replay_after, replay_from, IsWhole}
use Rattle.shard_model.proofs.StepLemmas.{some_is, one_more}
use Rattle.shard_model.proofs.VersionLemmas.{up_to-refl, same_version}
use Rattle.pool_history.specs.Histories.{History, IsInTree, IsOnPath, Itself, Follows, IsOneOf, active_epoch, objects_of}
use Rattle.pool_history.specs.Images.{StoredPool, IsStoredPool, IsLastAlive, Holds}
use Rattle.auth_log.specs.Choice.{WentAlive}
use Rattle.pool_history.specs.Consistency.{Consistent, IsLogBetween, Agrees}
use Rattle.pool_history.specs.Layouts.{Layout, geometry_of, shard_at}
use Rattle.pool_history.specs.Transitions.{ShardTakes, SlotIsFree, ShardIsFilled, with_format, with_clean}
use Rattle.pool_history.proofs.TreeLemmas.{path_up}
use Rattle.map_model.proofs.LastLemmas.{some_same}
use Rattle.pool_history.proofs.LogLemmas.{is_at, known_cases, logged_on, settled_any}
use Rattle.pool_history.proofs.MoveLemmas.{map_parts, consistent_from, parts_of, slot_changed, shard_taken}
use Rattle.shard_model.proofs.PastLemmas.{first_step}
use Rattle.pool_history.proofs.ShardLemmas.{Parts, firm_kept}
use Rattle.pool_history.proofs.ShowLemmas.{up_to_greatest}

-- what becomes firm is held on
firm_is_held : (layout : Layout) → 0 < layout.code.k * layout.unit → (s : Replay) (c : Version) → IsWhole (geometry_of layout) s
    → fits (geometry_of layout) (state_of (geometry_of layout) s) (Control (Firm c)) ≡ true → is_known (state_of (geometry_of layout) s) c ≡ true
    → Holds layout (replay_after (geometry_of layout) s (Control (Firm c))) c
firm_is_held layout positive s c whole fit known =
    let g = geometry_of layout in
    let t = state_of g s in
    let t' = state_after g t (Control (Firm c)) in
    let still : is_known t' c ≡ true = subst (λ b. (is_same s.tail c || (is_up_to s.tail c && b)) ≡ true) (sym (settled_any c c t.log)) known in
    subst (λ u. holds u c ≡ true) (sym (one_more g positive s (Control (Firm c)) whole fit))
    (and_from (is_known t' c) (is_up_to c c) still (up_to-refl c))

pub slot_lost : (layout : Layout) (p : ℕ) (image later : StoredPool) (history : History) → SlotIsFree p image later → Consistent layout image history
    → Consistent layout later history
slot_lost layout p image later history lost k =
    slot_changed layout p image later history k lost.map lost.elsewhere
    (λ t has. absurd (true≢false (sym (lost.free t has.there) ∙ has.whole)))

module _ (layout : Layout) (image later : StoredPool) (history : History) (stored : IsStoredPool layout image) (agrees : Agrees layout image history) where
  -- ---- a shard has been filled

  module _ (p joined : ℕ) (base : Version) (last : IsLastAlive image.map.state.intervals (active_epoch history) joined base)
      (filled : ShardIsFilled layout history (active_epoch history) p image later) where
    abbrev now : Replay
    now = replay_after (geometry_of layout) filled.shard (Recover (Reset history.committed (active_epoch history)))

    none : (filled.shard.past ≡ []) × (filled.shard.entries ≡ [])
    none = (stored.shards p filled.shard filled.there).alone (and_parts filled.shard.partial _ filled.fit).0

    headed : head now ≡ history.committed
    headed = ap (last_version history.committed) none.1

    no_log : log (geometry_of layout) now ≡ []
    no_log =
        let g = geometry_of layout in
        let empty = none in
        λ i. after version_of history.committed (empty.0 i ++ logged_all g history.committed filled.shard.base (empty.1 i))

    only_head : (v : Version) → Holds layout now v → v ≡ head now
    only_head v held =
        let t = state_of (geometry_of layout) now in
        elim (known_cases t v (and_parts (is_known t v) (is_up_to history.committed v) held).0) [
          | inl e ↦ sym e ∙ sym headed
          | inr more ↦ absurd (false≢true (subst (λ ns. list_any (is_at v) ns ≡ true) no_log more))
        ]

    filled_objects : replayed (geometry_of layout) now.base now.entries ≡ shard_at layout p (objects_of history.changes (head now))
    filled_objects = filled.objects ∙ ap (λ v. shard_at layout p (objects_of history.changes v)) (sym headed)

    filled_parts : Parts layout image.map.state.intervals image.map.state.clean history p now
    filled_parts =
        let g = geometry_of layout in
        let c = history.committed in
        let k = agrees.consistent in
        let empty = none in
        let on_bases = k.committed_on_bases in
        let clean_low = up_to_greatest history.activated image.map.state.clean k.clean_is_joined.active in
        record {
          kept = record {
            one = record {
              known = subst (λ v. IsInTree history.changes v) (sym headed) agrees.is_history.kept;
              path = subst (λ ns. IsLogBetween history.changes c ns (head now)) (sym no_log) (sym headed);
              objects = filled_objects;
            };
            two = record {
              each = λ v held.
                  (λ i. replayed g filled.shard.base (up_to entry_version v (empty.1 i)))
                  ∙ sym (λ i. replayed g filled.shard.base (empty.1 i)) ∙ filled_objects
                  ∙ ap (λ u. shard_at layout p (objects_of history.changes u)) (sym (only_head v held));
            };
            eight = record {
              ordered = up_to-refl c;
              tail_on_head = subst (λ v. IsOnPath history.changes c v) (sym headed) Itself;
              firm_on_head = subst (λ v. IsOnPath history.changes c v) (sym headed) Itself;
              committed = Itself;
            };
          };
          three = record {
            joined = on_bases.joined;
            base = on_bases.base;
            alive = on_bases.alive;
            follows = subst (λ v. Follows history.changes (active_epoch history) on_bases.base v) (sym headed) on_bases.follows;
          };
          five = record { each = λ other others its a member later_epoch. let le = last.last other others its a in absurd (omega (arith, le, later_epoch)) };
          six = record { each = λ other others its active a member. last.last other others its a };
          seven = record { on_head = λ late. subst (λ v. IsOnPath history.changes c v) (sym headed) Itself };
          nine = clean_low;
        }

    pub shard_recovered : Consistent layout later history
    shard_recovered =
        slot_changed layout p image later history agrees.consistent filled.map filled.elsewhere
        (λ t has. subst (Parts layout image.map.state.intervals image.map.state.clean history p) (some_same now t (sym filled.now ∙ has.there)) filled_parts)

  -- ---- a head that is committed becomes firm

  module _ (p : ℕ) (s : Replay) (les : s.les ≡ active_epoch history) (committed : head s ≡ history.committed)
      (takes : ShardTakes layout p s (Control (Firm (head s)) ∷ []) image later) where
    firm_parts : Parts layout image.map.state.intervals image.map.state.clean history p takes.after
    firm_parts =
        let g = geometry_of layout in
        let c = history.committed in
        let tree = agrees.is_history.tree in
        let was = parts_of layout image history agrees.consistent p s takes.before in
        let first = first_step g s (Control (Firm c)) [] takes.after (subst (λ v. replay_from g s (Control (Firm v) ∷ []) ≡ Some takes.after) committed takes.done) in
        let now = replay_after g s (Control (Firm c)) in
        let t = state_of g s in
        let on_head : IsOnPath history.changes c (head s) = subst (λ v. IsOnPath history.changes c v) (sym committed) Itself in
        let held_c : holds t c ≡ true = (and_parts (not s.partial) (holds t c) first.0).1 in
        subst (Parts layout image.map.state.intervals image.map.state.clean history p) (some_is now takes.after first.1) (record {
          kept = firm_kept layout stored.code.some_data stored.stripes history tree p s (stored.shards p s takes.before.there) first.0 was.kept on_head;
          three = record { joined = was.three.joined; base = was.three.base; alive = was.three.alive; follows = was.three.follows };
          five = record {
            each = λ other others its a member later_epoch.
                let held = was.five.each other others its a member later_epoch in
                let up = agrees.consistent.committed_on_bases.later other others its a (omega (arith, les, later_epoch)) in
                let down : IsOnPath history.changes its c =
                subst (λ v. IsOnPath history.changes its v) committed (elim (known_cases t its (and_parts (is_known t its) (is_up_to s.firm its) held).0) [
                  | inl e ↦ subst (λ v. IsOnPath history.changes v (head s)) e was.kept.eight.tail_on_head
                  | inr more ↦ logged_on history.changes tree s.tail (log g s) (head s) its was.kept.one.path more
                ]) in
                let same = same_version c its (path_up history.changes tree c its up) (path_up history.changes tree its c down) in
                let known_c : is_known t c ≡ true = (and_parts (is_known t c) (is_up_to s.firm c) held_c).0 in
                subst (λ v. Holds layout now v) same (firm_is_held layout (stored.stripes) s c (stored.shards p s takes.before.there) first.0 known_c);
          };
          six = record { each = was.six.each };
          seven = record { on_head = λ late. on_head };
          nine = was.nine;
        })

    pub head_is_firm : Consistent layout later history
    head_is_firm = shard_taken layout p s (Control (Firm (head s)) ∷ []) image later history takes agrees.consistent firm_parts

-- ---- the map's format and clean epoch

pub format_raised : (layout : Layout) (image later : StoredPool) (history : History) (format : ℕ) → later.map ≡ with_format format image.map
    → ((p : ℕ) → later.shards p ≡ image.shards p) → Consistent layout image history → Consistent layout later history
format_raised layout image later history format map_is shards k =
    subst (λ i. Consistent layout i history) (λ i. record { map = sym map_is i; shards = λ p. sym (shards p) i })
    (consistent_from layout (record { map = with_format format image.map; shards = image.shards }) history
    (map_parts layout image history k) (λ p s has. parts_of layout image history k p s (record { there = has.there; whole = has.whole })))

pub interval_clean : (layout : Layout) (image later : StoredPool) (history : History) → IsStoredPool layout image → (epoch joined : ℕ) (base : Version)
    → WentAlive image.map.state.intervals epoch joined base → IsOneOf history.activated epoch → ((p : ℕ) → p < layout.code.n → HasPosition joined p)
    → later.map ≡ with_clean epoch image.map → ((p : ℕ) → later.shards p ≡ image.shards p) → Consistent layout image history → Consistent layout later history
interval_clean layout image later history stored epoch joined base alive active all map_is shards k =
    subst (λ i. Consistent layout i history) (λ i. record { map = sym map_is i; shards = λ p. sym (shards p) i })
    (consistent_from layout (record { map = with_clean epoch image.map; shards = image.shards }) history
    (record {
      well_begun = k.well_begun;
      made_active = k.made_active;
      active_are_alive = k.active_are_alive;
      committed_on_bases = k.committed_on_bases;
      clean_is_joined = record { active = active; joined = joined; base = base; alive = alive; all = all };
    })
    (λ p s has.
    let was = parts_of layout image history k p s (record { there = has.there; whole = has.whole }) in
    record {
      kept = was.kept;
      three = was.three;
      five = was.five;
      six = was.six;
      seven = was.seven;
      nine = was.six.each epoch joined base active alive (all p (stored.below p s has.there));
    }))

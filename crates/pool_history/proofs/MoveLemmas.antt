-- Every transition keeps the agreement of the devices with the history.
use Rattle.std.proofs.Common.{◌≡◌, ◌≢◌, ◌⊎◌, inl, inr, ◌<◌, ◌≤◌, ℕ, nat_lt, not, true, false, cond, List, [], ◌∷◌, ◌++◌, refl, sym, ap, subst, ◌∙◌, arith, Some}
use Rattle.std.proofs.lemmas.Bool.{cases_eq, cases_lt, and_parts, ltb-true}
use Rattle.ec_model.specs.Codes.{HasPosition}
use Rattle.ec_model.specs.Versions.{Version, is_same}
use Rattle.ec_words.specs.Intervals.{Interval}
use Rattle.auth_log.specs.Choice.{DecidesAll, WentAlive}
use Rattle.shard_model.specs.Steps.{Step, Back, Started, Control}
use Rattle.shard_model.specs.Replays.{Replay, head, replay_after, replay_from}
use Rattle.shard_model.proofs.StepLemmas.{some_is}
use Rattle.shard_model.proofs.PastLemmas.{past_given, first_step}
use Rattle.shard_model.proofs.VersionLemmas.{is_same-version}
use Rattle.pool_history.specs.Histories.{PoolChange, History, IsTree, IsMade, IsInTree, IsOnPath, Follows, AtBase, IsOneOf, active_epoch, with_activated}
use Rattle.map_model.specs.States.{MapState, last_of, state_after, begun}
use Rattle.map_model.specs.Steps.{MapStep, Begin, Alive, Mark}
use Rattle.pool_history.specs.Images.{StoredPool, IsStoredPool, HasShard, IsLastAlive, Holds}
use Rattle.pool_history.specs.Choices.{Chooses}
use Rattle.pool_history.specs.Consistency.{IsWellBegun, IsMadeActive, WasAlive, CommittedIsOnBases, IsCleanJoined, Consistent, Agrees}
use Rattle.pool_history.specs.Layouts.{Layout, geometry_of}
use Rattle.pool_history.specs.Transitions.{MapTakes, ShardTakes, starting_steps, AllHaveStarted}
use Rattle.pool_history.proofs.TreeLemmas.{path_on, follows_path}
use Rattle.map_model.proofs.LastLemmas.{some_same}
use Rattle.pool_history.proofs.ImageLemmas.{one_alive}
use Rattle.pool_history.proofs.IntervalLemmas.{alive_pushed, pushed_alive, alive_stays, IsNew, alive_or_new}
use Rattle.pool_history.proofs.ShardLemmas.{Kept, Parts, back_kept, started_kept}
use Rattle.pool_history.proofs.ShowLemmas.{shows_committed, joined_holds, chosen_in}
use Rattle.map_model.proofs.SoundLemmas.{MayJoin, may_join_parts, older_than_last}

-- ---- the parts of a shard, and those of the map

pub record MapParts (layout : Layout) (intervals : List Interval) (clean : ℕ) (history : History) : Type 0 where
  pub well_begun : (epoch joined : ℕ) (base : Version) → WentAlive intervals epoch joined base → IsWellBegun layout history joined base
  pub made_active : (change : PoolChange) → IsMade history.changes change → IsMadeActive intervals history change
  pub active_are_alive : (epoch : ℕ) → IsOneOf history.activated epoch → WasAlive intervals epoch
  pub committed_on_bases : CommittedIsOnBases intervals history
  pub clean_is_joined : IsCleanJoined layout intervals history clean

pub map_parts : (layout : Layout) (image : StoredPool) (history : History) → Consistent layout image history → MapParts layout image.map.state.intervals image.map.state.clean history
map_parts layout image history k = record {
  well_begun = k.well_begun;
  made_active = k.made_active;
  active_are_alive = k.active_are_alive;
  committed_on_bases = k.committed_on_bases;
  clean_is_joined = k.clean_is_joined;
}

pub parts_of : (layout : Layout) (image : StoredPool) (history : History) → Consistent layout image history → (p : ℕ) (s : Replay) → HasShard image p s
    → Parts layout image.map.state.intervals image.map.state.clean history p s
parts_of layout image history k p s has = record {
  kept = record { one = k.logs_are_paths p s has; two = k.past_is_kept p s has; eight = k.firm_is_committed p s has };
  three = k.heads_follow_bases p s has;
  five = k.bases_are_held p s has;
  six = k.active_were_started p s has;
  seven = k.committed_on_heads p s has;
  nine = k.clean_was_started p s has;
}

pub consistent_from : (layout : Layout) (image : StoredPool) (history : History) → MapParts layout image.map.state.intervals image.map.state.clean history
    → ((p : ℕ) (s : Replay) → HasShard image p s → Parts layout image.map.state.intervals image.map.state.clean history p s) → Consistent layout image history
consistent_from layout image history m each = record {
  logs_are_paths = λ p s has. (each p s has).kept.one;
  past_is_kept = λ p s has. (each p s has).kept.two;
  heads_follow_bases = λ p s has. (each p s has).three;
  well_begun = m.well_begun;
  made_active = m.made_active;
  bases_are_held = λ p s has. (each p s has).five;
  active_are_alive = m.active_are_alive;
  active_were_started = λ p s has. (each p s has).six;
  committed_on_heads = λ p s has. (each p s has).seven;
  committed_on_bases = m.committed_on_bases;
  firm_is_committed = λ p s has. (each p s has).kept.eight;
  clean_is_joined = m.clean_is_joined;
  clean_was_started = λ p s has. (each p s has).nine;
}

-- ---- a step of the map

-- the intervals that are alive stay so, and there may be new ones
record Grows (layout : Layout) (image : StoredPool) (history : History) (intervals : List Interval) (New : ℕ → ℕ → Version → Type 0) : Type 0 where
  forth : (epoch joined : ℕ) (base : Version) → WentAlive image.map.state.intervals epoch joined base → WentAlive intervals epoch joined base
  back : (epoch joined : ℕ) (base : Version) → WentAlive intervals epoch joined base → WentAlive image.map.state.intervals epoch joined base ⊎ New epoch joined base
  pub begins : (epoch joined : ℕ) (base : Version) → New epoch joined base → IsWellBegun layout history joined base
  held : (epoch joined : ℕ) (base : Version) → New epoch joined base → (p : ℕ) (s : Replay) → HasShard image p s → HasPosition joined p → Holds layout s base
  inactive : (epoch joined : ℕ) (base : Version) → New epoch joined base → IsOneOf history.activated epoch → ⊥
  committed : (epoch joined : ℕ) (base : Version) → New epoch joined base → IsOnPath history.changes history.committed base

grown : (layout : Layout) (image : StoredPool) (history : History) (state : MapState) (New : ℕ → ℕ → Version → Type 0) → Consistent layout image history
    → Grows layout image history state.intervals New → state.clean ≡ image.map.state.clean → Consistent layout (record { map = record { n = image.map.n; state = state }; shards = image.shards }) history
grown layout image history state New k grows clean =
    consistent_from layout (record { map = record { n = image.map.n; state = state }; shards = image.shards }) history
    (subst (λ c. MapParts layout state.intervals c history) (sym clean) (record {
      well_begun = λ epoch joined base a. elim (grows.back epoch joined base a) [
        | inl old ↦ k.well_begun epoch joined base old
        | inr new ↦ grows.begins epoch joined base new
      ];
      made_active = λ change made.
          let m = k.made_active change made in
          record { joined = m.joined; base = m.base; alive = grows.forth change.version.epoch m.joined m.base m.alive; active = m.active; follows = m.follows };
      active_are_alive = λ epoch active.
          let w = k.active_are_alive epoch active in record { joined = w.joined; base = w.base; alive = grows.forth epoch w.joined w.base w.alive };
      committed_on_bases =
          let c = k.committed_on_bases in
          record {
            joined = c.joined;
            base = c.base;
            alive = grows.forth (active_epoch history) c.joined c.base c.alive;
            follows = c.follows;
            later = λ epoch others its a late. elim (grows.back epoch others its a) [
              | inl old ↦ c.later epoch others its old late
              | inr new ↦ grows.committed epoch others its new
            ];
          };
      clean_is_joined =
          let c = k.clean_is_joined in
          record { active = c.active; joined = c.joined; base = c.base; alive = grows.forth image.map.state.clean c.joined c.base c.alive; all = c.all };
    }))
    (λ p s has.
    let was : HasShard image p s = record { there = has.there; whole = has.whole } in
    let parts = parts_of layout image history k p s was in
    subst (λ c. Parts layout state.intervals c history p s) (sym clean) (record {
      kept = parts.kept;
      three = record { joined = parts.three.joined; base = parts.three.base; alive = grows.forth s.les parts.three.joined parts.three.base parts.three.alive; follows = parts.three.follows };
      five = record {
        each = λ epoch joined base a member early. elim (grows.back epoch joined base a) [
          | inl old ↦ parts.five.each epoch joined base old member early
          | inr new ↦ grows.held epoch joined base new p s was member
        ];
      };
      six = record {
        each = λ epoch joined base active a member. elim (grows.back epoch joined base a) [
          | inl old ↦ parts.six.each epoch joined base active old member
          | inr new ↦ absurd (grows.inactive epoch joined base new active)
        ];
      };
      seven = parts.seven;
      nine = parts.nine;
    }))

map_taken : (layout : Layout) (step : MapStep) (image later : StoredPool) (history : History) (New : ℕ → ℕ → Version → Type 0) → MapTakes step image later
    → Consistent layout image history → Grows layout image history (state_after image.map.state step).intervals New
    → (state_after image.map.state step).clean ≡ image.map.state.clean → Consistent layout later history
map_taken layout step image later history New takes k grows clean =
    subst (λ i. Consistent layout i history) (λ i. record { map = sym takes.map i; shards = λ p. sym (takes.shards p) i })
    (grown layout image history (state_after image.map.state step) New k grows clean)

abbrev NoNew : ℕ → ℕ → Version → Type 0
NoNew epoch joined base = ⊥

module _ (layout : Layout) (image later : StoredPool) (history : History) (stored : IsStoredPool layout image) (agrees : Agrees layout image history) where
  pub begins : (epoch up : ℕ) → MapTakes (Begin epoch up) image later → Consistent layout later history
  begins epoch up takes = map_taken layout (Begin epoch up) image later history NoNew takes agrees.consistent (record {
    forth = alive_pushed image.map.state.intervals (begun epoch up);
    back = λ e joined base a. inl (pushed_alive image.map.state.intervals (begun epoch up) refl e joined base a);
    begins = λ e joined base none. absurd none;
    held = λ e joined base none p s has member. absurd none;
    inactive = λ e joined base none active. none;
    committed = λ e joined base none. absurd none;
  }) refl

  pub marked : (slot down : ℕ) → MapTakes (Mark slot down) image later → Consistent layout later history
  marked slot down takes = map_taken layout (Mark slot down) image later history NoNew takes agrees.consistent (record {
    forth = λ e joined base a. a;
    back = λ e joined base a. inl a;
    begins = λ e joined base none. absurd none;
    held = λ e joined base none p s has member. absurd none;
    inactive = λ e joined base none active. none;
    committed = λ e joined base none. absurd none;
  }) refl

  -- an interval that is not alive did not go active
  not_active : (epoch joined : ℕ) → MayJoin epoch joined (last_of image.map.state.intervals) → IsOneOf history.activated epoch → ⊥
  not_active epoch joined may active =
      let was = (agrees.consistent.active_are_alive epoch active).alive in
      let older = older_than_last image.map.n image.map.state may.last stored.map may.is may.unalive epoch (agrees.consistent.active_are_alive epoch active).joined
      (record { place = was.place; interval = was.interval; base = (agrees.consistent.active_are_alive epoch active).base; there = was.there; dated = was.dated; alive = was.alive }) in
      omega (arith, older, may.dated)

  pub goes_alive : (epoch up joined : ℕ) (base : Version) → MapTakes (Alive epoch joined base) image later → Chooses layout image up joined base
      → Consistent layout later history
  goes_alive epoch up joined base takes chooses =
      let may = may_join_parts epoch joined (last_of image.map.state.intervals) takes.fit in
      let shows = shows_committed layout image history up joined base stored agrees chooses in
      map_taken layout (Alive epoch joined base) image later history (IsNew may.last.epoch joined base) takes agrees.consistent (record {
        forth = alive_stays image.map.state.intervals joined base may.last may.is may.unalive;
        back = alive_or_new image.map.state.intervals joined base may.last may.is;
        begins = λ e members its new. record {
          based = subst (IsInTree history.changes) new.based (chosen_in layout image history up joined base stored agrees chooses);
          decides = subst (λ j. DecidesAll layout.code j) new.members shows.represents.decides;
        };
        held = λ e members its new p s has member.
            let h = joined_holds layout image history up joined base stored agrees chooses p (subst (λ j. HasPosition j p) (sym new.members) member) in
            subst (λ v. Holds layout s v) new.based (subst (λ t. Holds layout t base) (some_same h.shard s (sym h.has.there ∙ has.there)) h.holds);
        inactive = λ e members its new active. not_active epoch joined may (subst (IsOneOf history.activated) (sym (sym may.dated ∙ new.dated)) active);
        committed = λ e members its new. subst (λ v. IsOnPath history.changes history.committed v) new.based shows.committed;
      }) refl

-- ---- a record on one slot

-- slot p has a shard that keeps the parts, or none that counts, and nothing else changes
pub slot_changed : (layout : Layout) (p : ℕ) (image later : StoredPool) (history : History) → Consistent layout image history → later.map ≡ image.map
    → ((q : ℕ) → q ≢ p → later.shards q ≡ image.shards q)
    → ((t : Replay) → HasShard later p t → Parts layout image.map.state.intervals image.map.state.clean history p t) → Consistent layout later history
slot_changed layout p image later history k map_is elsewhere here =
    consistent_from layout later history
    (subst (λ m. MapParts layout m.state.intervals m.state.clean history) (sym map_is) (map_parts layout image history k))
    (λ q t has. subst (λ m. Parts layout m.state.intervals m.state.clean history q t) (sym map_is) (elim (cases_eq q p) [
      | inl e ↦
          subst (λ u. Parts layout image.map.state.intervals image.map.state.clean history u t) (sym e)
          (here t (record { there = ap later.shards (sym e) ∙ has.there; whole = has.whole }))
      | inr other ↦ parts_of layout image history k q t (record { there = sym (elsewhere q other) ∙ has.there; whole = has.whole })
    ]))

pub shard_taken : (layout : Layout) (p : ℕ) (s : Replay) (steps : List Step) (image later : StoredPool) (history : History)
    → (takes : ShardTakes layout p s steps image later) → Consistent layout image history
    → Parts layout image.map.state.intervals image.map.state.clean history p takes.after → Consistent layout later history
shard_taken layout p s steps image later history takes k parts =
    slot_changed layout p image later history k takes.map takes.elsewhere
    (λ t has. subst (Parts layout image.map.state.intervals image.map.state.clean history p) (some_same takes.after t (sym takes.now ∙ has.there)) parts)

-- a shard that is at a base, and is to start its epoch
record IsAtBase (layout : Layout) (history : History) (p : ℕ) (s : Replay) (epoch : ℕ) (base : Version) (after : Replay) : Type 0 where
  mid : Replay
  kept : Kept layout history p mid
  headed : head mid ≡ base
  les : mid.les ≡ s.les
  done : replay_from (geometry_of layout) mid (Control (Started epoch) ∷ []) ≡ Some after

module _ (layout : Layout) (image later : StoredPool) (history : History) (stored : IsStoredPool layout image) (agrees : Agrees layout image history)
    (epoch joined : ℕ) (base : Version) (last : IsLastAlive image.map.state.intervals epoch joined base) where
  tree : IsTree history.changes
  tree = agrees.is_history.tree

  -- the active epoch is not above the last one that is alive
  active_low : active_epoch history ≤ epoch
  active_low =
      let was = agrees.consistent.active_are_alive (active_epoch history) agrees.is_history.some in
      last.last (active_epoch history) was.joined was.base was.alive

  module _ (p : ℕ) (s : Replay) (member : HasPosition joined p) (takes : ShardTakes layout p s (starting_steps (head s) base epoch) image later) where
    committed_low : s.les < epoch → IsOnPath history.changes history.committed base
    committed_low early = elim (cases_lt (active_epoch history) epoch) [
      | inl lt ↦ agrees.consistent.committed_on_bases.later epoch joined base last.alive lt
      | inr ge ↦
          let le = active_low in
          let same : active_epoch history ≡ epoch = omega (arith, ge, le) in
          let started = (agrees.consistent.active_were_started p s takes.before).each epoch joined base
          (subst (IsOneOf history.activated) same agrees.is_history.some) last.alive member in
          absurd (omega (arith, early, started))
    ]

    starts_above : (mid : Replay) → mid.les ≡ s.les → replay_from (geometry_of layout) mid (Control (Started epoch) ∷ []) ≡ Some takes.after → s.les < epoch
    starts_above mid les done =
        let fit = (first_step (geometry_of layout) mid (Control (Started epoch)) [] takes.after done).0 in
        let lt : mid.les < epoch = ltb-true mid.les epoch (and_parts (not mid.partial) (nat_lt mid.les epoch) fit).1 in
        omega (arith, lt, les)

    at_base : IsAtBase layout history p s epoch base takes.after
    at_base =
        let g = geometry_of layout in
        let kept = (parts_of layout image history agrees.consistent p s takes.before).kept in
        elim (is_same (head s) base) as (λ b. is_same (head s) base ≡ b
        → replay_from g s (cond b [] (Control (Back base) ∷ []) ++ Control (Started epoch) ∷ []) ≡ Some takes.after → IsAtBase layout history p s epoch base takes.after) [
          | true ↦ λ same done. record { mid = s; kept = kept; headed = is_same-version (head s) base same; les = refl; done = done }
          | false ↦ λ other done.
              let first = first_step g s (Control (Back base)) (Control (Started epoch) ∷ []) takes.after done in
              let mid = replay_after g s (Control (Back base)) in
              let whole = stored.shards p s takes.before.there in
              let early = starts_above mid refl first.1 in
              let known = (agrees.consistent.well_begun epoch joined base last.alive).based in
              record {
                mid = mid;
                kept = back_kept layout stored.code.some_data stored.stripes history tree p s base whole first.0 kept known (committed_low early);
                headed = (past_given g stored.stripes s whole base first.0).1;
                les = refl;
                done = first.1;
              }
        ] refl takes.done

    started_parts : Parts layout image.map.state.intervals image.map.state.clean history p takes.after
    started_parts =
        let g = geometry_of layout in
        let at = at_base in
        let early = starts_above at.mid at.les at.done in
        let first = first_step g at.mid (Control (Started epoch)) [] takes.after at.done in
        let now = replay_after g at.mid (Control (Started epoch)) in
        let was = parts_of layout image history agrees.consistent p s takes.before in
        let nine = was.nine in
        subst (Parts layout image.map.state.intervals image.map.state.clean history p) (some_is now takes.after first.1) (record {
          kept = started_kept layout stored.code.some_data stored.stripes history tree p at.mid epoch at.kept;
          three = record {
            joined = joined;
            base = base;
            alive = last.alive;
            follows = subst (λ v. Follows history.changes epoch base v) (sym at.headed) AtBase;
          };
          five = record { each = λ other others its a has later_epoch. let le = last.last other others its a in absurd (omega (arith, le, later_epoch)) };
          six = record { each = λ other others its active a has. last.last other others its a };
          seven = record { on_head = λ late. subst (λ v. IsOnPath history.changes history.committed v) (sym at.headed) (committed_low early) };
          nine = omega (arith, nine, early);
        })

    pub shard_starts : Consistent layout later history
    shard_starts = shard_taken layout p s (starting_steps (head s) base epoch) image later history takes agrees.consistent started_parts

  -- ---- its activation is complete

  module _ (new : IsOneOf history.activated epoch → ⊥) (all : AllHaveStarted image joined epoch) where
    active_before : active_epoch history < epoch
    active_before = elim (cases_lt (active_epoch history) epoch) [
      | inl lt ↦ lt
      | inr ge ↦
          let le = active_low in
          let same : active_epoch history ≡ epoch = omega (arith, ge, le) in
          absurd (new (subst (IsOneOf history.activated) same agrees.is_history.some))
    ]

    abbrev pub next : History
    next = with_activated epoch base history

    is_greatest : epoch ≡ active_epoch next
    is_greatest = let lt = active_before in omega (arith, lt)

    committed_on_base : IsOnPath history.changes history.committed base
    committed_on_base = agrees.consistent.committed_on_bases.later epoch joined base last.alive active_before

    activated_map : MapParts layout image.map.state.intervals image.map.state.clean next
    activated_map =
        let k = agrees.consistent in
        let same = is_greatest in
        record {
          well_begun = λ other others its a. let w = k.well_begun other others its a in record { based = w.based; decides = w.decides };
          made_active = λ change made.
              let m = k.made_active change made in
              record { joined = m.joined; base = m.base; alive = m.alive; active = inr m.active; follows = m.follows };
          active_are_alive = λ other active. elim active [
            | inl e ↦ record { joined = joined; base = base; alive = subst (λ n. WentAlive image.map.state.intervals n joined base) e last.alive }
            | inr old ↦ k.active_are_alive other old
          ];
          committed_on_bases = record {
            joined = joined;
            base = base;
            alive = subst (λ n. WentAlive image.map.state.intervals n joined base) same last.alive;
            follows = AtBase;
            later = λ other others its a late. let le = last.last other others its a in absurd (omega (arith, le, late, same));
          };
          clean_is_joined = let c = k.clean_is_joined in record { active = inr c.active; joined = c.joined; base = c.base; alive = c.alive; all = c.all };
        }

    activated_parts : (p : ℕ) (s : Replay) → HasShard image p s → Parts layout image.map.state.intervals image.map.state.clean next p s
    activated_parts p s has =
        let was = parts_of layout image history agrees.consistent p s has in
        let one_base = one_alive image.map.n image.map.state stored.map in
        record {
          kept = record {
            one = record { known = was.kept.one.known; path = was.kept.one.path; objects = was.kept.one.objects };
            two = record { each = was.kept.two.each };
            eight = record {
              ordered = was.kept.eight.ordered;
              tail_on_head = was.kept.eight.tail_on_head;
              firm_on_head = was.kept.eight.firm_on_head;
              committed = path_on history.changes s.firm history.committed base was.kept.eight.committed committed_on_base;
            };
          };
          three = record { joined = was.three.joined; base = was.three.base; alive = was.three.alive; follows = was.three.follows };
          five = was.five;
          six = record {
            each = λ other others its active a member. elim active [
              | inl e ↦
                  let here = subst (λ n. WentAlive image.map.state.intervals n others its) (sym e) a in
                  let members = (one_base epoch others joined its base here last.alive).0 in
                  let started = all p (subst (λ j. HasPosition j p) members member) in
                  let same = some_same started.0 s (sym started.1.0.there ∙ has.there) in
                  let les : started.0.les ≡ s.les = ap (λ t. t.les) same in
                  omega (arith, e, started.1.1, les)
              | inr old ↦ was.six.each other others its old a member
            ];
          };
          seven = record {
            on_head = λ late.
                let low = last.last s.les was.three.joined was.three.base was.three.alive in
                let greatest_is = is_greatest in
                let same : s.les ≡ epoch = omega (arith, late, low, greatest_is) in
                let bases = (one_base epoch was.three.joined joined was.three.base base
                (subst (λ n. WentAlive image.map.state.intervals n was.three.joined was.three.base) same was.three.alive) last.alive).1 in
                subst (λ b. IsOnPath history.changes b (head s)) bases (follows_path history.changes s.les was.three.base (head s) was.three.follows);
          };
          nine = was.nine;
        }

    pub activation_complete : Agrees layout image next
    activation_complete = record {
      is_history = record {
        tree = tree;
        some = inl is_greatest;
        kept = (agrees.consistent.well_begun epoch joined base last.alive).based;
      };
      consistent = consistent_from layout image (with_activated epoch base history) activated_map activated_parts;
    }

-- Further laws: chains, new pools, all slots.
use Rattle.std.proofs.Common.{◌≡◌, ◌⊎◌, inl, inr, ◌<◌, ◌^◌, ℕ, zero, suc, [], ◌∷◌, slice_get, refl, sym, ap, subst, ◌∙◌, arith, Some}
use Rattle.std.proofs.lemmas.Bool.{cases_lt, and_parts, false≢true}
use Rattle.ec_model.specs.Codes.{HasPosition}
use Rattle.ec_model.specs.Versions.{Version, is_up_to, zero_version}
use Rattle.ec_words.specs.Intervals.{Interval}
use Rattle.auth_log.specs.Choice.{Info, WentAlive, IsEligible, IsSufficient}
use Rattle.auth_log.proofs.CallerLemmas.{some_survey, has_both}
use Rattle.shard_model.proofs.PutLemmas.{same_named}
use Rattle.shard_model.specs.Steps.{Started, Control}
use Rattle.shard_model.specs.States.{is_known}
use Rattle.shard_model.specs.Replays.{Replay, state_of, fresh_replay, replay_after}
use Rattle.ec_positions.proofs.MapLemmas.{get-shard_of, position_if}
use Rattle.pool_history.specs.Histories.{PoolChange, History, IsMade, IsOnPath, Itself, Follows, AtBase, Next, first_history}
use Rattle.pool_history.specs.Images.{StoredPool, IsStoredPool, HasShard, Holds, peers_of, info_of, said_of}
use Rattle.pool_history.specs.Layouts.{Layout, geometry_of, shard_at}
use Rattle.pool_history.specs.Consistency.{Agrees}
use Rattle.pool_history.specs.Laws.{IsFirst}
use Rattle.pool_history.proofs.TreeLemmas.{chain}
use Rattle.map_model.proofs.LastLemmas.{some_same, none_some}
use Rattle.pool_history.proofs.ImageLemmas.{alive_is_kept, kept_is_alive, one_alive}
use Rattle.pool_history.proofs.LogLemmas.{known_cases}
use Rattle.pool_history.proofs.MoveLemmas.{consistent_from}
use Rattle.pool_history.proofs.ShardLemmas.{Parts}
use Rattle.std.specs.FinMap as fin

-- ---- the versions of an epoch are one chain

pub one_chain : (layout : Layout) (image : StoredPool) (history : History) (one other : PoolChange) → IsStoredPool layout image → Agrees layout image history
    → IsMade history.changes one → IsMade history.changes other → one.version.epoch ≡ other.version.epoch
    → IsOnPath history.changes one.version other.version ⊎ IsOnPath history.changes other.version one.version
one_chain layout image history one other stored agrees a b same =
    let changes = history.changes in
    let epoch = other.version.epoch in
    let first = agrees.consistent.made_active one a in
    let second = agrees.consistent.made_active other b in
    let bases = (one_alive image.map.n image.map.state stored.map epoch first.joined second.joined first.base second.base
    (subst (λ n. WentAlive image.map.state.intervals n first.joined first.base) same first.alive) second.alive).1 in
    let f : Follows changes epoch second.base one.version =
    Next one a same (subst (λ n. Follows changes epoch n one.prior) bases (subst (λ n. Follows changes n first.base one.prior) same first.follows)) in
    let g : Follows changes epoch second.base other.version = Next other b refl second.follows in
    elim (cases_lt other.version.seq one.version.seq) [
      | inr le ↦ inl (chain changes agrees.is_history.tree epoch second.base one.version other.version f g le)
      | inl lt ↦ inr (chain changes agrees.is_history.tree epoch second.base other.version one.version g f (omega (arith, lt)))
    ]

-- ---- all slots

pub all_sufficient : (layout : Layout) (image : StoredPool) (history : History) (up : ℕ) → IsStoredPool layout image → Agrees layout image history → up < 2 ^ 16
    → ((p : ℕ) → p < layout.code.n → HasPosition up p × ((s : Replay) × HasShard image p s)) → IsSufficient layout.code (peers_of image up)
all_sufficient layout image history up stored agrees few all =
    let there = some_survey (peers_of image up) few in
    record {
      survey = there.0;
      surveyed = there.1;
      decided = λ epoch joined base w late.
          let decides = (agrees.consistent.well_begun epoch joined base (kept_is_alive image.map.state epoch joined base w)).decides in
          λ p lt. record {
            agree = λ a b is_a is_b same. (decides p lt).agree a b is_a is_b (λ q lq has.
                same q lq ((has_both joined there.0.eligible q).1 (has, (there.1.eligible q).1 (counts q lq))));
          };
    }
  where
    counts : (q : ℕ) → q < layout.code.n → (info : Info) × IsEligible (peers_of image up) q info
    counts q lq =
        let slot = all q lq in
        let s = slot.1.0 in
        let three = agrees.consistent.heads_follow_bases q s slot.1.1 in
        let clean = agrees.consistent.clean_was_started q s slot.1.1 in (
          info_of s,
          record {
            up = slot.0;
            says = ap said_of slot.1.1.there;
            whole = slot.1.1.whole;
            joined = three.joined;
            base = three.base;
            started = alive_is_kept image.map.state s.les three.joined three.base three.alive clean;
          },
        )

-- ---- a new pool

empty_shard : (layout : Layout) (p : ℕ) → fin.empty ≡ shard_at layout p fin.empty
empty_shard layout p = same_named fin.empty (shard_at layout p fin.empty) (λ q.
    fin.get-empty _ q ∙ sym (get-shard_of layout.code layout.unit p fin.empty q ∙ ap (position_if layout.code layout.unit p) (fin.get-empty _ q)))

-- what is said of the one interval
record IsOnly (own epoch joined : ℕ) (base : Version) : Type 0 where
  dated : 1 ≡ epoch
  members : own ≡ joined
  based : zero_version ≡ base

only : (up own : ℕ) (epoch joined : ℕ) (base : Version) → WentAlive (record { epoch = 1; up = up; alive = Some (own, zero_version) } ∷ []) epoch joined base → IsOnly own epoch joined base
only up own epoch joined base a = first a.place a.interval a.there a.dated a.alive where
  first : (i : ℕ) (interval : Interval) → slice_get (record { epoch = 1; up = up; alive = Some (own, zero_version) } ∷ []) i ≡ Some interval → interval.epoch ≡ epoch
      → interval.alive ≡ Some (joined, base) → IsOnly own epoch joined base
  first zero interval there dated alive =
      let same = some_same (record { epoch = 1; up = up; alive = Some (own, zero_version) }) interval there in
      let pair : (own, zero_version) ≡ (joined, base) = some_same (own, zero_version) (joined, base) (ap (λ i. i.alive) same ∙ alive) in
      record { dated = ap (λ i. i.epoch) same ∙ dated; members = ap (λ q. q.0) pair; based = ap (λ q. q.1) pair }
  first (suc i) interval there dated alive = absurd (none_some interval there)

module _ (layout : Layout) (image : StoredPool) (new : IsFirst layout image) where
  alive_is : (epoch joined : ℕ) (base : Version) → WentAlive image.map.state.intervals epoch joined base → IsOnly new.joined epoch joined base
  alive_is epoch joined base a = only new.up new.joined epoch joined base (subst (λ is. WentAlive is epoch joined base) new.intervals a)

  first_alive : WentAlive image.map.state.intervals 1 new.joined zero_version
  first_alive = subst (λ is. WentAlive is 1 new.joined zero_version) (sym new.intervals) (record {
    place = 0;
    interval = record { epoch = 1; up = new.up; alive = Some (new.joined, zero_version) };
    there = refl;
    dated = refl;
    alive = refl;
  })

  abbrev created : Replay
  created = replay_after (geometry_of layout) fresh_replay (Control (Started 1))

  only_root : (v : Version) → Holds layout created v → zero_version ≡ v
  only_root v held =
      let t = state_of (geometry_of layout) created in
      elim (known_cases t v (and_parts (is_known t v) (is_up_to zero_version v) held).0) [
        | inl e ↦ e
        | inr more ↦ absurd (false≢true more)
      ]

  created_parts : (p : ℕ) → Parts layout image.map.state.intervals image.map.state.clean first_history p created
  created_parts p =
      let clean = new.clean in
      record {
        kept = record {
          one = record { known = inl refl; path = refl; objects = empty_shard layout p };
          two = record { each = λ v held. empty_shard layout p };
          eight = record { ordered = refl; tail_on_head = Itself; firm_on_head = Itself; committed = Itself };
        };
        three = record { joined = new.joined; base = zero_version; alive = first_alive; follows = AtBase };
        five = record { each = λ epoch joined base a member early. let is = (alive_is epoch joined base a).dated in absurd (omega (arith, is, early)) };
        six = record { each = λ epoch joined base active a member. let is = (alive_is epoch joined base a).dated in omega (arith, is) };
        seven = record { on_head = λ late. Itself };
        nine = omega (arith, clean);
      }

  pub new_pool : Agrees layout image first_history
  new_pool = record {
    is_history = record { tree = tt; some = inl refl; kept = inl refl };
    consistent = consistent_from layout image first_history
        (record {
          well_begun = λ epoch joined base a.
              let is = alive_is epoch joined base a in
              record {
                based = inl (sym is.based);
                decides = λ p lt. record { agree = λ one other is_a is_b same. same p lt (subst (λ j. HasPosition j p) is.members (new.all p lt)) };
              };
          made_active = λ change made. absurd made;
          active_are_alive = λ epoch active. elim active [
            | inl e ↦ record { joined = new.joined; base = zero_version; alive = subst (λ n. WentAlive image.map.state.intervals n new.joined zero_version) e first_alive }
            | inr none ↦ absurd none
          ];
          committed_on_bases = record {
            joined = new.joined;
            base = zero_version;
            alive = first_alive;
            follows = AtBase;
            later = λ epoch joined base a late. let is = (alive_is epoch joined base a).dated in absurd (omega (arith, is, late));
          };
          clean_is_joined = record {
            active = inl (sym new.clean);
            joined = new.joined;
            base = zero_version;
            alive = subst (λ n. WentAlive image.map.state.intervals n new.joined zero_version) (sym new.clean) first_alive;
            all = new.all;
          };
        })
        (λ p s has. subst (Parts layout image.map.state.intervals image.map.state.clean first_history p) (some_same created s (new.shards p s has.there)) (created_parts p));
  }

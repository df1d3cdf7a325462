-- What the slots that are up let a pool do.
use Rattle.std.proofs.Common.{◌≡◌, ◌<◌, ◌≤◌, ◌↔◌, ℕ, Bool, Option, Some, IsTrue, true, refl, sym, ap, subst, ◌∙◌, arith}
use Rattle.std.specs.Option.{option_map}
use Rattle.std.proofs.lemmas.Bool.Decides.{nat_tests}
use Rattle.ec_model.specs.Codes.{CodeRows, HasPosition}
use Rattle.ec_model.specs.Versions.{Version}
use Rattle.ec_words.specs.Intervals.{Interval}
use Rattle.auth_log.specs.Choice.{Info, WentAlive}
use Rattle.auth_log.specs.States.{Active}
use Rattle.map_model.specs.Sound.{IsSound}
use Rattle.map_model.specs.States.{begun, is_inside, kept, last_epoch, last_of, may_join}
use Rattle.map_model.proofs.PositionLemmas.{inside_by}
use Rattle.shard_model.specs.Shards.{Shard}
use Rattle.shard_model.specs.States.{holds}
use Rattle.shard_store.specs.Shelved.{Shelved}
use Rattle.shard_store.specs.Shelves.{store_at}
use Rattle.shard_store.specs.Stored.{told_in}
use Rattle.shard_store.specs.declared.store.Store.{Store}
use Rattle.pool_map.specs.Maps.{PoolImage}
use Rattle.pool_moves.specs.Choosing.{ComeTo, StoreHolds, MayServe, store_info}
use Rattle.pool_moves.proofs.MaskLemmas.{some_counted}
use Rattle.pool_moves.proofs.NewestLemmas.{older_kept}

some_same : {X : Type 0} (a b : X) → ◌≡◌ {A = Option X} (Some a) (Some b) → a ≡ b
some_same a b e = cc

-- whether a store's shard holds a version is told by its state
pub holds_exactly : (shelf : Shelved) (p : ℕ) (v : Version) (store : Store) (shard : Shard) (answer : Bool) → p < 16 → store_at shelf p ≡ Some store
    → shard ≡ (told_in store).shard → answer ≡ holds shard.state v → IsTrue answer ↔ StoreHolds shelf p v
holds_exactly shelf p v store shard answer below there is found = (
  λ yes. record { below = below; store = store; there = there; held = ap (λ (s : Shard). holds s.state v) (sym is) ∙ sym found ∙ yes },
  λ h. found ∙ ap (λ (s : Shard). holds s.state v) is
      ∙ ap (λ (s : Store). holds (told_in s).shard.state v) (some_same store h.store (sym there ∙ h.there)) ∙ h.held,
)

begun_joins : (epoch up joined : ℕ) → is_inside joined up ≡ true → 0 < joined → may_join epoch joined (Some (begun epoch up)) ≡ true
begun_joins epoch up joined inside some = grind (arith, nat_tests, inside, some)

-- if the slots that are up come to a state in which the pool serves, those that joined may
module _ (code : CodeRows) (m : PoolImage) (shelf : Shelved) (up min holding joined : ℕ) (version : Version) (sound : IsSound m.n m.state)
    (is : last_of m.state.intervals ≡ Some (begun (last_epoch m.state.intervals) up)) (some : 1 ≤ min)
    (c : ComeTo code (kept m.state) shelf up min version holding (Active joined)) where
  abbrev last : Interval
  last = begun (last_epoch m.state.intervals) up

  member_up : (p : ℕ) → HasPosition joined p → HasPosition up p
  member_up p member = subst (λ (u : ℕ). HasPosition u p) c.are_said.up_is ((c.state_is.0.joined_set p).0 member).1.1.up

  member_older : (p : ℕ) (store : Store) (info : Info) (its : ℕ) (base : Version) → store_info store ≡ info → WentAlive c.peers.kept info.les its base
      → (told_in store).shard.state.les < last_epoch m.state.intervals
  member_older p store info its base same started =
      let old : info.les < last_epoch m.state.intervals = older_kept m.n m.state last sound is refl info.les its base (subst (λ ivs. WentAlive ivs info.les its base) c.are_said.kept started) in
      subst (λ x. x < last_epoch m.state.intervals) (sym (ap (λ (i : Info). i.les) same)) old

  pub may_serve : MayServe code m shelf up joined version
  may_serve = record {
    choose = record {
      peers = c.peers;
      are_said = c.are_said;
      epoch = c.survey.epoch;
      chosen = record { sufficient = c.state_is.0.sufficient; survey = c.survey; surveyed = c.surveyed; started = refl; headed = c.version_is };
      members = λ p. (
        λ member. let both = (c.state_is.0.joined_set p).0 member in (both.1, (c.are_holding p).0 both.0),
        λ both. (c.state_is.0.joined_set p).1 ((c.are_holding p).1 both.1, both.0),
      );
    };
    fit = ap (may_join (last_epoch m.state.intervals) joined) is
        ∙ begun_joins (last_epoch m.state.intervals) up joined ((inside_by joined up).1 member_up) (some_counted joined code.n (omega (arith, some, c.state_is.1)));
    may = λ p member.
        let both = (c.state_is.0.joined_set p).0 member in
        let h = (c.are_holding p).0 both.0 in
        let e = both.1 in
        let info_is : store_info h.store ≡ e.0 =
        some_same (store_info h.store) e.0 (sym (ap (option_map store_info) h.there) ∙ sym (c.are_said.said p (member_up p member)) ∙ e.1.says) in
        record {
          store = h.store;
          there = h.there;
          whole = ap (λ (i : Info). i.partial) info_is ∙ e.1.whole;
          held = h.held;
          older = member_older p h.store e.0 e.1.joined e.1.base info_is e.1.started;
        };
  }

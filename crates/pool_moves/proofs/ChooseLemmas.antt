-- What the stores choose is what each image of now chooses.
use Rattle.std.proofs.Common.{◌≡◌, ◌<◌, ◌*◌, ℕ, List, Option, Some, None, true, is_some, refl, sym, ap, subst, ◌∙◌, arith}
use Rattle.std.specs.Option.{option_map}
use Rattle.ec_model.specs.Codes.{CodeRows, HasPosition}
use Rattle.ec_model.specs.Versions.{Version}
use Rattle.rig_disk.specs.Disk.{Image}
use Rattle.shard_model.specs.Replays.{Replay, state_of}
use Rattle.shard_model.specs.Shards.{Shard}
use Rattle.shard_model.specs.States.{holds}
use Rattle.shard_store.specs.Laws.{TextsHaveOneStory}
use Rattle.shard_store.specs.Shelved.{Shelved}
use Rattle.shard_store.specs.Shelves.{store_at}
use Rattle.shard_store.specs.Stored.{told_in}
use Rattle.shard_store.specs.declared.store.Store.{Store}
use Rattle.pool_map.specs.Laws.{TextsHaveOneMap}
use Rattle.pool_map.specs.Maps.{PoolImage}
use Rattle.pool_map.specs.Pool.{map_of}
use Rattle.pool_map.specs.declared.map.PoolMap.{PoolMap}
use Rattle.pool_slots.specs.Ready.{AreHeld, HasStarted}
use Rattle.pool_moves.specs.Choosing.{AreUp, StoresChoose, store_info}
use Rattle.pool_moves.specs.Contents.{Layout, Contents, HasContents}
use Rattle.map_model.specs.States.{kept}
use Rattle.pool_history.specs.Images.{IsLastAlive, said_of}
use Rattle.pool_moves.specs.Moves.{Chooses}
use Rattle.pool_moves.specs.Ready.{AreOwn, IsHeldMap}
use Rattle.pool_moves.specs.Turns.{IsComplete}
use Rattle.pool_moves.proofs.RecordLemmas.{contents_at}
use Rattle.pool_moves.proofs.SlotLemmas.{map_is}

some_same : {X : Type 0} (a b : X) → ◌≡◌ {A = Option X} (Some a) (Some b) → a ≡ b
some_same a b e = cc

-- what is there
pub the_one : {X : Type 0} (o : Option X) → is_some o ≡ true → (x : X) × (o ≡ Some x)
the_one None e = absurd cc
the_one (Some x) e = (x, refl)

module _ (readings : TextsHaveOneStory) (maps : TextsHaveOneMap) (code : CodeRows) (l : Layout) (positive : 0 < l.geometry.k * l.geometry.unit) (few : l.n < 17)
    (reads : ℕ → ℕ → Option (List ℕ)) (images : Image → List ℕ → Type 0) (map : PoolMap) (held_map : IsHeldMap reads images map) (shelf : Shelved) (own : AreOwn l shelf)
    (held : AreHeld reads images shelf) (image : Image) (said : List ℕ) (c : Contents) (now : images image said) (has : HasContents l image c) where
  -- the shard of a slot with a store
  pub at_store : (p : ℕ) (store : Store) → store_at shelf p ≡ Some store
      → (r : Replay) × (c.shards p ≡ Some r) × ((told_in store).shard ≡ record { geometry = l.geometry; state = state_of l.geometry r })
  at_store p store there =
      let h = held.each p store there in
      contents_at l positive few readings reads images p store (own.each p store there) h.text h.flushed h.stored image said c now has

  said_same : (p : ℕ) (store : Store) → store_at shelf p ≡ Some store → option_map store_info (store_at shelf p) ≡ said_of (c.shards p)
  said_same p store there =
      let r = at_store p store there in
      ap (option_map store_info) there
      ∙ ap (λ (s : Shard). Some (record { les = s.state.les; head = s.state.head; partial = s.state.partial })) r.2
      ∙ sym (ap said_of r.1)

  pub contents_choose : (up joined : ℕ) (base : Version) → AreUp shelf up → StoresChoose code (kept (map_of map).state) shelf up joined base → Chooses code l c up joined base
  contents_choose up joined base are_up s = record {
    peers = s.peers;
    says = record {
      kept = s.are_said.kept ∙ ap (λ (m : PoolImage). kept m.state) (sym (map_is maps reads images map held_map l image said c now has));
      up_is = s.are_said.up_is;
      said = λ p member.
          let store = the_one (store_at shelf p) ((are_up p).0 member).1 in
          s.are_said.said p member ∙ said_same p store.0 store.1;
    };
    epoch = s.epoch;
    chosen = s.chosen;
    members = λ p. (
      λ member.
          let both = (s.members p).0 member in
          let r = at_store p both.1.store both.1.there in
          (both.0, record { replay = r.0; there = r.1; held = ap (λ (x : Shard). holds x.state base) (sym r.2) ∙ both.1.held }),
      λ both.
          let e = both.0.1 in
          let up_p : HasPosition up p = subst (λ (u : ℕ). HasPosition u p) s.are_said.up_is e.up in
          let store = the_one (store_at shelf p) ((are_up p).0 up_p).1 in
          let r = at_store p store.0 store.1 in
          let same : r.0 ≡ both.1.replay = some_same r.0 both.1.replay (sym r.1 ∙ both.1.there) in
          (s.members p).1 (
            both.0,
            record {
              below = ((are_up p).0 up_p).0;
              store = store.0;
              there = store.1;
              held = ap (λ (x : Shard). holds x.state base) r.2 ∙ ap (λ (x : Replay). holds (state_of l.geometry x) base) same ∙ both.1.held;
            },
          ),
    );
  }

  -- if each store of the joined set has started the newest epoch, so has each shard of the image
  pub contents_complete : (epoch joined : ℕ) (base : Version) → IsLastAlive (map_of map).state.intervals epoch joined base
      → ((p : ℕ) → p < l.n → HasPosition joined p → HasStarted shelf epoch p) → IsComplete l c epoch joined base
  contents_complete epoch joined base newest started = record {
    newest = subst (λ (m : PoolImage). IsLastAlive m.state.intervals epoch joined base) (sym (map_is maps reads images map held_map l image said c now has)) newest;
    members = λ p below member.
        let s = started p below member in
        let r = at_store p s.store s.there in
        record {
          replay = r.0;
          there = r.1;
          whole = sym (ap (λ (x : Shard). x.state.partial) r.2) ∙ s.whole;
          reached = omega (arith, s.started, ap (λ (x : Shard). x.state.les) r.2);
        };
  }

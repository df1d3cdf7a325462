-- What stays over a call that changes no image, such as the reading of a slot.
use Rattle.std.proofs.Common.{◌≡◌, ◌≢◌, ◌<◌, ◌+◌, ◌↔◌, ℕ, List, [], Option, Some, None, refl, sym, subst, ◌∙◌, arith}
use Rattle.rig_disk.specs.Disk.{Image}
use Rattle.rig_disk.specs.During.{During}
use Rattle.rig_disk.proofs.Moments.{started, goes_on, at_end}
use Rattle.slot_journal.specs.InUse.{told_text}
use Rattle.shard_model.specs.Objects.{Geometry}
use Rattle.shard_store.specs.Laws.{StoresStayOver}
use Rattle.shard_store.specs.Shelved.{Shelved}
use Rattle.shard_store.specs.Shelves.{store_at, KeepsStores}
use Rattle.shard_store.specs.Stored.{slot_in, IsNew, IsAtRest}
use Rattle.shard_store.specs.declared.store.Store.{Store}
use Rattle.pool_map.specs.Laws.{MapsStayOver}
use Rattle.pool_map.specs.declared.map.PoolMap.{PoolMap}
use Rattle.pool_slots.specs.Ready.{IsReadyStore, IsHeldStore}
use Rattle.pool_moves.specs.Contents.{Layout}
use Rattle.pool_moves.specs.Opening.{AreLoaded}
use Rattle.pool_moves.specs.Ready.{IsOwn, AreOwn, IsReady, IsHeld}
use Rattle.pool_moves.proofs.ContentLemmas.{same_told}
use Rattle.pool_moves.proofs.ReadyLemmas.{each_on, never_none}

some_same : {X : Type 0} (a b : X) → ◌≡◌ {A = Option X} (Some a) (Some b) → a ≡ b
some_same a b e = cc

-- a store that was made or loaded may be worked with
pub new_ready : (is_here : ℕ → Type 0) (reads : ℕ → ℕ → Option (List ℕ)) (images : Image → List ℕ → Type 0) (p : ℕ) (g : Geometry) (n : ℕ) (store : Store)
    → is_here p → IsNew store p g n → IsAtRest reads images store → IsReadyStore is_here reads images p store
new_ready is_here reads images p g n store here new rest = record {
  slot_is = new.slot_is;
  here = here;
  idle = record { accepted = new.accepted; flushed = new.flushed; unspent = new.unspent };
  at_rest = rest;
}

-- a call that changes no image, after which all slots but one read as before
module _ {R : Type 0} (is_here : R → ℕ → Type 0) (reads_of : R → ℕ → ℕ → Option (List ℕ)) (clock_of : R → ℕ) (images_of : R → ℕ → Image → List ℕ → Type 0) (old new : R) (slot : ℕ)
    (here : (s : ℕ) → is_here old s → is_here new s) (same : (s a : ℕ) → s ≢ slot → reads_of new s a ≡ reads_of old s a)
    (run : During clock_of images_of old new (λ image said. images_of old (clock_of old) image said)) (stores : StoresStayOver reads_of clock_of images_of) where
  abbrev Now : R → Image → List ℕ → Type 0
  Now rig image said = images_of rig (clock_of rig) image said

  store_ready_over : (q : ℕ) (store : Store) → q ≢ slot → IsReadyStore (is_here old) (reads_of old) (Now old) q store → IsReadyStore (is_here new) (reads_of new) (Now new) q store
  store_ready_over q store other r = record {
    slot_is = r.slot_is;
    here = here q r.here;
    idle = r.idle;
    at_rest = (stores old new store (λ a. same (slot_in store) a (λ e. other (sym r.slot_is ∙ e))) run).1 r.at_rest;
  }

  store_held_over : (store : Store) → slot_in store ≢ slot → IsHeldStore (reads_of old) (Now old) store → IsHeldStore (reads_of new) (Now new) store
  store_held_over store apart h = record {
    text = h.text;
    flushed = h.flushed;
    stored = (stores old new store (λ a. same (slot_in store) a apart) run).0 h.text h.flushed [] h.stored;
  }

  module _ (law : MapsStayOver reads_of clock_of images_of) (not_map : 16 ≢ slot) (l : Layout) (map : PoolMap) (shelf later : Shelved) (keeps : KeepsStores shelf later slot) where
    ready_over : IsReady l (is_here old) (reads_of old) (Now old) map shelf
        → ((store : Store) → store_at later slot ≡ Some store → IsOwn l slot store × IsReadyStore (is_here new) (reads_of new) (Now new) slot store)
        → IsReady l (is_here new) (reads_of new) (Now new) map later
    ready_over r own = record {
      few = r.few;
      positive = r.positive;
      own = record { each = each_on (IsOwn l) (IsOwn l) shelf later slot keeps r.own.each (λ p store other is. is) (λ store there. (own store there).0) };
      stores = record {
        each = each_on (IsReadyStore (is_here old) (reads_of old) (Now old)) (IsReadyStore (is_here new) (reads_of new) (Now new)) shelf later slot keeps r.stores.each
            store_ready_over (λ store there. (own store there).1);
      };
      ready_map = record {
        same_n = r.ready_map.same_n;
        ready = record {
          here = here 16 r.ready_map.ready.here;
          unspent = r.ready_map.ready.unspent;
          settled = (law old new (λ a. same 16 a not_map) run map).1 r.ready_map.ready.settled;
        };
      };
    }

    held_over : AreOwn l shelf → IsHeld (reads_of old) (Now old) map shelf → ((store : Store) → store_at later slot ≡ Some store → IsHeldStore (reads_of new) (Now new) store)
        → IsHeld (reads_of new) (Now new) map later
    held_over are_own h own = record {
      held_map = record { text = h.held_map.text; holds_map = (law old new (λ a. same 16 a not_map) run map).0 h.held_map.text h.held_map.holds_map };
      stores = record {
        each = each_on (λ p store. IsOwn l p store × IsHeldStore (reads_of old) (Now old) store) (λ p store. IsHeldStore (reads_of new) (Now new) store) shelf later slot keeps
            (λ p store there. (are_own.each p store there, h.stores.each p store there))
            (λ p store other both. store_held_over store (λ e. other (sym both.0.slot_is ∙ e)) both.1) own;
      };
    }

    -- the slot gets a store that was loaded
    pub loaded_ready : slot < l.n → is_here new slot → (store : Store) → IsNew store slot l.geometry l.n → IsAtRest (reads_of new) (Now new) store
        → store_at later slot ≡ Some store → IsReady l (is_here old) (reads_of old) (Now old) map shelf → IsReady l (is_here new) (reads_of new) (Now new) map later
    loaded_ready below is_in store fresh rest there r = ready_over r (λ other at.
        let same_store : store ≡ other = some_same store other (sym there ∙ at) in
        subst (λ (x : Store). IsOwn l slot x × IsReadyStore (is_here new) (reads_of new) (Now new) slot x) same_store (
          record { below = below; slot_is = fresh.slot_is; geometry_is = fresh.geometry_is; n_is = fresh.n_is },
          new_ready (is_here new) (reads_of new) (Now new) slot l.geometry l.n store is_in fresh rest,
        ))

    pub loaded_held : (store : Store) → IsHeldStore (reads_of new) (Now new) store → store_at later slot ≡ Some store → AreOwn l shelf
        → IsHeld (reads_of old) (Now old) map shelf → IsHeld (reads_of new) (Now new) map later
    loaded_held store is there own h = held_over own h (λ other at. subst (λ (x : Store). IsHeldStore (reads_of new) (Now new) x) (some_same store other (sym there ∙ at)) is)

    -- it has none
    pub dropped_ready : store_at later slot ≡ None → IsReady l (is_here old) (reads_of old) (Now old) map shelf → IsReady l (is_here new) (reads_of new) (Now new) map later
    dropped_ready gone r = ready_over r (λ store at. absurd (never_none store (sym gone ∙ at)))

    pub dropped_held : store_at later slot ≡ None → AreOwn l shelf → IsHeld (reads_of old) (Now old) map shelf → IsHeld (reads_of new) (Now new) map later
    dropped_held gone own h = held_over own h (λ store at. absurd (never_none store (sym gone ∙ at)))

-- ---- one slot after another

module _ {R : Type 0} (l : Layout) (is_here : R → ℕ → Type 0) (reads_of : R → ℕ → ℕ → Option (List ℕ)) (clock_of : R → ℕ) (images_of : R → ℕ → Image → List ℕ → Type 0)
    (old : R) (map : PoolMap) (shelf : Shelved) where
  abbrev Loaded : R → Shelved → ℕ → Type 0
  Loaded now shelf_now p = AreLoaded l is_here reads_of clock_of images_of old now map shelf shelf_now p

  pub loaded_none : IsReady l (is_here old) (reads_of old) (images_of old (clock_of old)) map shelf → Loaded old shelf 0
  loaded_none ready = record {
    ready = ready;
    here = λ s. (λ h. h, λ h. h);
    reads = λ s a from. refl;
    held = λ told h. h;
    moments = started clock_of images_of old (λ image said. images_of old (clock_of old) image said) (λ image said now. now);
  }

  -- a slot that is passed over
  pub loaded_past : (now : R) (shelf_now : Shelved) (p : ℕ) → Loaded now shelf_now p → Loaded now shelf_now (p + 1)
  loaded_past now shelf_now p f = record {
    ready = f.ready;
    here = f.here;
    reads = λ s a from. f.reads s a (omega (arith, from));
    held = f.held;
    moments = f.moments;
  }

  module _ (now next : R) (shelf_now later : Shelved) (k : Layout) (near far : PoolMap) (same_l : k ≡ l) (same_map : near ≡ map) (same_far : far ≡ map) (slot : ℕ) (below : slot < l.n)
      (in_now : is_here now slot) (f : Loaded now shelf_now slot) where
    pub loaded_run : During clock_of images_of now next (λ image said. images_of now (clock_of now) image said)
        → During clock_of images_of old next (λ image said. images_of old (clock_of old) image said)
    loaded_run run = goes_on clock_of images_of old now next (λ image said. images_of old (clock_of old) image said) (λ image said. images_of now (clock_of now) image said) f.moments run
        (λ image said was. at_end clock_of images_of old now (λ image said. images_of old (clock_of old) image said) f.moments image said was)

    pub loaded_on : ((s : ℕ) → is_here now s ↔ is_here next s) → ((s a : ℕ) → s ≢ slot → reads_of next s a ≡ reads_of now s a)
        → IsReady k (is_here next) (reads_of next) (images_of next (clock_of next)) far later
        → ((text : List ℕ) → told_text slot (reads_of now slot) ≡ Some text → IsHeld (reads_of now) (images_of now (clock_of now)) near shelf_now
        → IsHeld (reads_of next) (images_of next (clock_of next)) far later)
        → During clock_of images_of now next (λ image said. images_of now (clock_of now) image said)
        → Loaded next later (slot + 1)
    loaded_on here reads ready held run = record {
      ready = subst (λ (x : Layout). IsReady x (is_here next) (reads_of next) (images_of next (clock_of next)) map later) same_l
          (subst (λ (m : PoolMap). IsReady k (is_here next) (reads_of next) (images_of next (clock_of next)) m later) same_far ready);
      here = λ s. (λ h. (f.here s).0 ((here s).1 h), λ h. (here s).0 ((f.here s).1 h));
      reads = λ s a from. reads s a (λ e. omega (arith, e, from)) ∙ f.reads s a (omega (arith, from));
      held = λ told h.
          let text = told slot below ((f.here slot).0 in_now) in
          let before = subst (λ (m : PoolMap). IsHeld (reads_of now) (images_of now (clock_of now)) m shelf_now) (sym same_map) (f.held told h) in
          subst (λ (m : PoolMap). IsHeld (reads_of next) (images_of next (clock_of next)) m later) same_far
          (held text.0 (same_told slot (reads_of now slot) (reads_of old slot) (λ a. f.reads slot a (omega arith)) ∙ text.1) before);
      moments = loaded_run run;
    }

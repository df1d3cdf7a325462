-- What stays over a call on one slot.
use Rattle.std.proofs.Common.{◌≡◌, ◌≢◌, ◌==◌, ℕ, true, false, List, Option, Some, None, refl, sym, subst, ◌∙◌, eq-eqb}
use Rattle.std.proofs.lemmas.Bool.{eqb-true, false≢true}
use Rattle.rig_disk.specs.Disk.{Image}
use Rattle.rig_disk.specs.During.{During}
use Rattle.rig_disk.proofs.Moments.{weaker}
use Rattle.slot_journal.specs.InUse.{Areas}
use Rattle.slot_journal.specs.Journal.{InSlot, slot_of}
use Rattle.slot_journal.proofs.CallerLemmas.{holds_elsewhere, settled_elsewhere}
use Rattle.shard_store.specs.Shelved.{Shelved}
use Rattle.shard_store.specs.Shelves.{store_at, KeepsStores}
use Rattle.shard_store.specs.Stored.{slot_in, head_in}
use Rattle.shard_store.specs.declared.store.Store.{Store}
use Rattle.pool_map.specs.Laws.{AnyStep, MapsStayElsewhere}
use Rattle.pool_map.specs.declared.map.PoolMap.{PoolMap}
use Rattle.pool_slots.specs.Ready.{IsReadyStore, IsHeldStore}
use Rattle.pool_moves.specs.Contents.{Layout}
use Rattle.pool_moves.specs.Ready.{IsOwn, AreOwn, IsReadyMap, IsHeldMap, IsReady, IsHeld}

-- what holds of each store of a shelf holds of each of another, if one slot has another store or none
pub each_on : (P Q : ℕ → Store → Type 0) (shelf later : Shelved) (slot : ℕ) → KeepsStores shelf later slot
    → ((p : ℕ) (store : Store) → store_at shelf p ≡ Some store → P p store) → ((p : ℕ) (store : Store) → p ≢ slot → P p store → Q p store)
    → ((store : Store) → store_at later slot ≡ Some store → Q slot store) → (p : ℕ) (store : Store) → store_at later p ≡ Some store → Q p store
each_on P Q shelf later slot keeps each on own p store there =
    elim (p == slot) as (λ b. (p == slot) ≡ b → Q p store) [
      | true ↦ λ is. subst (λ q. Q q store) (sym (eqb-true p slot is)) (own store (subst (λ q. store_at later q ≡ Some store) (eqb-true p slot is) there))
      | false ↦ λ is.
          let other : p ≢ slot = λ e. false≢true (sym is ∙ eq-eqb p slot e) in
          on p store other (each p store (sym (keeps.stores p other) ∙ there))
    ] refl

pub never_none : {X : Type 0} (x : X) → ◌≡◌ {A = Option X} None (Some x) → ⊥
never_none x e = absurd cc

module _ {R : Type 0} (is_here : R → ℕ → Type 0) (reads_of : R → ℕ → ℕ → Option (List ℕ)) (clock_of : R → ℕ) (images_of : R → ℕ → Image → List ℕ → Type 0) (old new : R) (slot : ℕ)
    (step : Areas → Areas → Type 0) (here : (s : ℕ) → is_here old s → is_here new s) (same : (s a : ℕ) → s ≢ slot → reads_of new s a ≡ reads_of old s a)
    (run : During clock_of images_of old new (InSlot (images_of old (clock_of old)) slot step)) where
  abbrev Now : R → Image → List ℕ → Type 0
  Now rig image said = images_of rig (clock_of rig) image said

  pub store_ready_on : (q : ℕ) (store : Store) → q ≢ slot → IsReadyStore (is_here old) (reads_of old) (Now old) q store → IsReadyStore (is_here new) (reads_of new) (Now new) q store
  store_ready_on q store other r =
      let apart : slot_of store.journal ≢ slot = λ e. other (sym r.slot_is ∙ e) in
      record {
        slot_is = r.slot_is;
        here = here q r.here;
        idle = r.idle;
        at_rest = settled_elsewhere reads_of clock_of images_of old new store.journal (λ a. same (slot_of store.journal) a apart) slot step apart run r.at_rest;
      }

  pub store_held_on : (store : Store) → slot_in store ≢ slot → IsHeldStore (reads_of old) (Now old) store → IsHeldStore (reads_of new) (Now new) store
  store_held_on store apart h = record {
    text = h.text;
    flushed = h.flushed;
    stored = record {
      bodies = h.stored.bodies;
      holds = holds_elsewhere reads_of clock_of images_of old new store.journal (λ a. same (slot_of store.journal) a apart) slot step (head_in store) h.stored.bodies h.text apart run h.stored.holds;
      spelled = h.stored.spelled;
      told = h.stored.told;
    };
  }

  any_step : During clock_of images_of old new (InSlot (Now old) slot AnyStep)
  any_step = weaker clock_of images_of old new (InSlot (Now old) slot step) (InSlot (Now old) slot AnyStep) run
      (λ image said one. record { source = one.source; was = one.was; others = one.others; stepped = tt })

  module _ (law : MapsStayElsewhere reads_of clock_of images_of) (apart : 16 ≢ slot) where
    pub map_ready_on : (l : Layout) (map : PoolMap) → IsReadyMap l (is_here old) (reads_of old) (Now old) map → IsReadyMap l (is_here new) (reads_of new) (Now new) map
    map_ready_on l map r = record {
      same_n = r.same_n;
      ready = record {
        here = here 16 r.ready.here;
        unspent = r.ready.unspent;
        settled = (law old new slot apart (λ a. same 16 a apart) any_step map).1 r.ready.settled;
      };
    }

    pub map_held_on : (map : PoolMap) → IsHeldMap (reads_of old) (Now old) map → IsHeldMap (reads_of new) (Now new) map
    map_held_on map h = record { text = h.text; holds_map = (law old new slot apart (λ a. same 16 a apart) any_step map).0 h.text h.holds_map }

    -- a pool of which one slot has another store, or none any more
    pub ready_on : (l : Layout) (map : PoolMap) (shelf later : Shelved) → KeepsStores shelf later slot → IsReady l (is_here old) (reads_of old) (Now old) map shelf
        → ((store : Store) → store_at later slot ≡ Some store → IsOwn l slot store × IsReadyStore (is_here new) (reads_of new) (Now new) slot store)
        → IsReady l (is_here new) (reads_of new) (Now new) map later
    ready_on l map shelf later keeps r own = record {
      few = r.few;
      positive = r.positive;
      own = record { each = each_on (IsOwn l) (IsOwn l) shelf later slot keeps r.own.each (λ p store other is. is) (λ store there. (own store there).0) };
      stores = record {
        each = each_on (IsReadyStore (is_here old) (reads_of old) (Now old)) (IsReadyStore (is_here new) (reads_of new) (Now new)) shelf later slot keeps r.stores.each store_ready_on (λ store there. (own store there).1);
      };
      ready_map = map_ready_on l map r.ready_map;
    }

    pub held_on : (l : Layout) (map : PoolMap) (shelf later : Shelved) → KeepsStores shelf later slot → AreOwn l shelf → IsHeld (reads_of old) (Now old) map shelf
        → ((store : Store) → store_at later slot ≡ Some store → IsHeldStore (reads_of new) (Now new) store)
        → IsHeld (reads_of new) (Now new) map later
    held_on l map shelf later keeps are_own h own = record {
      held_map = map_held_on map h.held_map;
      stores = record {
        each = each_on (λ p store. IsOwn l p store × IsHeldStore (reads_of old) (Now old) store) (λ p store. IsHeldStore (reads_of new) (Now new) store) shelf later slot keeps
            (λ p store there. (are_own.each p store there, h.stores.each p store there))
            (λ p store other both. store_held_on store (λ e. other (sym both.0.slot_is ∙ e)) both.1) own;
      };
    }

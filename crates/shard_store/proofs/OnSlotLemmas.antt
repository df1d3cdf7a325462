-- A shelf after a call on the store of one slot.
use Rattle.std.proofs.Common.{◌≡◌, inl, inr, ℕ, List, length, slice_index_or, slice_set, Option, Some, None, is_some, sym, ap, subst, ◌∙◌}
use Rattle.std.specs.Prelude.{IfSome}
use Rattle.std.proofs.lemmas.Bool.{cases_eq, cases_lt, false≢true}
use Rattle.std.proofs.lemmas.List.{get_or-set_same, get_or_past}
use Rattle.rig_disk.specs.Disk.{Image}
use Rattle.rig_disk.specs.During.{During}
use Rattle.slot_journal.specs.Journal.{InSlot}
use Rattle.shard_store.specs.OnSlot.{AreOwn, ChangesAt, FlushesAt, MayFlush}
use Rattle.shard_store.specs.Shelved.{Shelved}
use Rattle.shard_store.specs.Shelves.{store_at, KeepsStores}
use Rattle.shard_store.specs.Stored.{slot_in, Flushes}
use Rattle.shard_store.specs.declared.store.Store.{Store}

-- a shelf with another store of the slot, or with no store, in a place
pub own_put : (old new : Shelved) (slot : ℕ) (o : Option Store) → KeepsStores old new slot → store_at new slot ≡ o → IfSome o (λ store. slot_in store ≡ slot) → AreOwn old → AreOwn new
own_put old new slot o keeps is of_slot own s = elim (cases_eq s slot) [
  | inl e ↦ subst (λ q. IfSome (store_at new q) (λ store. slot_in store ≡ q)) (sym e) (subst (λ (x : Option Store). IfSome x (λ store. slot_in store ≡ slot)) (sym is) of_slot)
  | inr ne ↦ subst (λ (x : Option Store). IfSome x (λ store. slot_in store ≡ s)) (sym (keeps.stores s ne)) (own s)
]

-- a place that has a store has the store that is put there
pub store_set : (stores : List (Option Store)) (slot : ℕ) (old new : Store) → Some old ≡ slice_index_or stores slot None → slice_index_or (slice_set stores slot (Some new)) slot None ≡ Some new
store_set stores slot old new was = elim (cases_lt slot (length stores)) [
  | inl lt ↦ get_or-set_same stores slot (Some new) None lt
  | inr past ↦ absurd (false≢true (sym (ap is_some (was ∙ get_or_past stores slot None past))))
]

-- the change of a store, as that of its slot
pub changed_at : (change : Store → Store → Type 0) (before after : Option Store) (old new : Store) → Some old ≡ before → Some new ≡ after → change old new → ChangesAt change before after
changed_at change before after old new was is made = subst (λ o. ChangesAt change o after) was (subst (λ o. ChangesAt change (Some old) o) is made)

pub flushes_at : {R : Type 0} (clock : R → ℕ) (images : R → ℕ → Image → List ℕ → Type 0) (old new : R) (is_here : ℕ → Type 0) (reads : ℕ → ℕ → Option (List ℕ)) (slot : ℕ) (o : Option Store) (store : Store)
    → Some store ≡ o → IfSome o (MayFlush is_here reads (images old (clock old)) slot)
    → During clock images old new (InSlot (images old (clock old)) (slot_in store) (Flushes reads (images old (clock old)) store))
    → During clock images old new (InSlot (images old (clock old)) slot (FlushesAt reads (images old (clock old)) o))
flushes_at clock images old new is_here reads slot o store is ready run =
    let may = subst (λ x. IfSome x (MayFlush is_here reads (images old (clock old)) slot)) (sym is) ready in
    subst (λ x. During clock images old new (InSlot (images old (clock old)) slot (FlushesAt reads (images old (clock old)) x))) is
    (subst (λ s. During clock images old new (InSlot (images old (clock old)) s (FlushesAt reads (images old (clock old)) (Some store)))) may.own run)

-- Slots that lose their stores, over calls one after another.
use Rattle.std.proofs.Common.{◌≡◌, ◌≢◌, ◌⊎◌, ◌≤◌, ◌+◌, ◌-◌, ◌^◌, ◌==◌, inl, inr, ⊎_elim, ℕ, Bool, true, false, is_some, Option, min, refl, sym, ap, subst, ◌∙◌, arith, eq-eqb}
use Rattle.std.proofs.lemmas.Bool.{eqb-true, false≢true}
use Rattle.rig_disk.specs.Faults.{Rose}
use Rattle.shard_store.specs.Shelved.{Shelved}
use Rattle.shard_store.specs.Shelves.{store_at, KeepsStores}
use Rattle.shard_store.specs.declared.store.Store.{Store}
use Rattle.pool_moves.specs.Losing.{HaveSameSlots, LosesFailed}

abbrev Grew : ℕ → ℕ → Type 0
Grew before now = (now ≡ before) ⊎ Rose before now

rises : (limit a b c : ℕ) → min (a + 1) limit ≤ b → min (b + 1) limit ≤ c → min (a + 1) limit ≤ c
rises limit a b c one more = omega (arith, one, more)

rose_on : (a b c : ℕ) → Rose a b → Grew b c → Rose a c
rose_on a b c one more = ⊎_elim (λ same. subst (λ x. Rose a x) (sym same) one) (λ rose. rises (2 ^ 64 - 1) a b c one rose) more

rose_after : (a b c : ℕ) → Grew a b → Rose b c → Rose a c
rose_after a b c one more = ⊎_elim (λ same. subst (λ x. Rose x c) same more) (λ rose. rises (2 ^ 64 - 1) a b c rose more) one

grew_on : (a b c : ℕ) → Grew a b → Grew b c → Grew a c
grew_on a b c one more = ⊎_elim (λ same. ⊎_elim (λ still. inl (still ∙ same)) (λ rose. inr (rose_after a b c one rose)) more) (λ rose. inr (rose_on a b c rose more)) one

pub loses_none : (before : ℕ → ℕ) (shelf : Shelved) → LosesFailed before before shelf shelf
loses_none before shelf = record { counts = λ p few. inl refl; lost = λ p few had. inl had }

pub loses_on : (first mid last : ℕ → ℕ) (shelf near later : Shelved) → LosesFailed first mid shelf near → LosesFailed mid last near later → LosesFailed first last shelf later
loses_on first mid last shelf near later one more = record {
  counts = λ p few. grew_on (first p) (mid p) (last p) (one.counts p few) (more.counts p few);
  lost = λ p few had. ⊎_elim
      (λ there. ⊎_elim (λ still. inl still) (λ rose. inr (rose_after (first p) (mid p) (last p) (one.counts p few) rose)) (more.lost p few there))
      (λ rose. inr (rose_on (first p) (mid p) (last p) rose (more.counts p few)))
      (one.lost p few had);
}

-- a call on the map's slot alone
pub loses_still : (before now : ℕ → ℕ) (shelf later : Shelved) → later ≡ shelf → ((s : ℕ) → s ≢ 16 → now s ≡ before s) → LosesFailed before now shelf later
loses_still before now shelf later same others = record {
  counts = λ p few. inl (others p (λ e. omega (arith, e, few)));
  lost = λ p few had. inl (subst (λ (x : Shelved). is_some (store_at x p) ≡ true) (sym same) had);
}

-- a call on one slot alone
pub loses_slot : (before now : ℕ → ℕ) (shelf later : Shelved) (slot : ℕ) → KeepsStores shelf later slot → ((s : ℕ) → s ≢ slot → now s ≡ before s)
    → Grew (before slot) (now slot) → (is_some (store_at later slot) ≡ true) ⊎ Rose (before slot) (now slot) → LosesFailed before now shelf later
loses_slot before now shelf later slot keeps others count lost = record { counts = λ p few. at_count p (p == slot) refl; lost = λ p few had. at_lost p had (p == slot) refl }
  where
    at_count : (p : ℕ) (b : Bool) → (p == slot) ≡ b → Grew (before p) (now p)
    at_count p true is = subst (λ m. Grew (before m) (now m)) (sym (eqb-true p slot is)) count
    at_count p false is = inl (others p (λ e. false≢true (sym is ∙ eq-eqb p slot e)))

    at_lost : (p : ℕ) → is_some (store_at shelf p) ≡ true → (b : Bool) → (p == slot) ≡ b → (is_some (store_at later p) ≡ true) ⊎ Rose (before p) (now p)
    at_lost p had true is = subst (λ m. (is_some (store_at later m) ≡ true) ⊎ Rose (before m) (now m)) (sym (eqb-true p slot is)) lost
    at_lost p had false is = inl (ap (λ (o : Option Store). is_some o) (keeps.stores p (λ e. false≢true (sym is ∙ eq-eqb p slot e))) ∙ had)

-- a slot's store is another, and no slot lost one
pub same_slots : (shelf later : Shelved) (slot : ℕ) → KeepsStores shelf later slot → is_some (store_at later slot) ≡ is_some (store_at shelf slot) → HaveSameSlots shelf later
same_slots shelf later slot keeps same = λ p. at p (p == slot) refl
  where
    at : (p : ℕ) (b : Bool) → (p == slot) ≡ b → is_some (store_at later p) ≡ is_some (store_at shelf p)
    at p true is = subst (λ m. is_some (store_at later m) ≡ is_some (store_at shelf m)) (sym (eqb-true p slot is)) same
    at p false is = ap (λ (o : Option Store). is_some o) (keeps.stores p (λ e. false≢true (sym is ∙ eq-eqb p slot e)))

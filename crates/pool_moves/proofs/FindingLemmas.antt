-- One slot more is read as a pool is opened, or none.
use Rattle.std.proofs.Common.{◌≡◌, ◌≢◌, ◌⊎◌, ◌<◌, ◌+◌, ◌==◌, inl, inr, ⊎_elim, ℕ, Bool, true, false, is_some, List, Option, Some, None, refl, sym, subst, ◌∙◌, arith, eq-eqb}
use Rattle.std.proofs.lemmas.Bool.{eqb-true, false≢true}
use Rattle.ec_model.specs.Codes.{HasPosition}
use Rattle.rig_disk.specs.Faults.{Rose}
use Rattle.slot_journal.specs.InUse.{told_text}
use Rattle.shard_store.specs.Shelved.{Shelved}
use Rattle.shard_store.specs.Shelves.{store_at, KeepsStores}
use Rattle.shard_store.specs.declared.store.Store.{Store}
use Rattle.shard_store.specs.Stories.{shard_head}
use Rattle.pool_moves.specs.Contents.{Layout, IsShardOf}
use Rattle.pool_moves.specs.Finding.{AreFound, IsLost}
use Rattle.pool_moves.proofs.ContentLemmas.{same_told}
use Rattle.pool_moves.proofs.ReadyLemmas.{never_none}

-- a slot that is lost by what it reads now, which is what it read before
pub lost_over : (l k : Layout) (reads_now reads : ℕ → ℕ → Option (List ℕ)) (before now : ℕ → ℕ) (p : ℕ) → k ≡ l → ((a : ℕ) → reads_now p a ≡ reads p a)
    → IsLost k reads_now before now p → IsLost l reads before now p
lost_over l k reads_now reads before now p same_l same lost = subst (λ (x : Layout). IsLost x reads before now p) same_l
    (⊎_elim (λ rose. inl rose) (λ none. inr (λ text told. none text (same_told p (reads_now p) (reads p) same ∙ told))) lost)

module _ (l : Layout) (marks : ℕ) (is_here : ℕ → Type 0) (reads : ℕ → ℕ → Option (List ℕ)) (before : ℕ → ℕ) where
  pub found_none : (shelf : Shelved) → ((s : ℕ) → store_at shelf s ≡ None) → AreFound l marks is_here reads before before shelf 0
  found_none shelf empty = record {
    counts = λ s from. refl;
    found = λ s under. absurd (omega (arith, under));
    none = λ s store there. absurd (never_none store (sym (empty s) ∙ there));
  }

  -- a slot that is passed over: it is not here, or marked
  pub found_past : (now : ℕ → ℕ) (shelf : Shelved) (p : ℕ) → (is_here p → (HasPosition marks p → ⊥) → ⊥) → AreFound l marks is_here reads before now shelf p
      → AreFound l marks is_here reads before now shelf (p + 1)
  found_past now shelf p out f = record {
    counts = λ s from. f.counts s (omega (arith, from));
    found = λ s under here free. f.found s (less s under (λ e. out (subst is_here e here) (λ marked. free (subst (λ m. HasPosition marks m) (sym e) marked)))) here free;
    none = λ s store there. let was = f.none s store there in (grows s was.0, was.1);
  }
    where
      less : (s : ℕ) → s < p + 1 → (s ≡ p → ⊥) → s < p
      less s under other = omega (arith, under, other)

      grows : (s : ℕ) → s < p → s < p + 1
      grows s under = omega (arith, under)

  -- a slot that is read
  pub found_on : (now next : ℕ → ℕ) (shelf later : Shelved) (p : ℕ) → is_here p → (HasPosition marks p → ⊥) → KeepsStores shelf later p
      → ((s : ℕ) → s ≢ p → next s ≡ now s) → (is_some (store_at later p) ≡ true) ⊎ IsLost l reads now next p → AreFound l marks is_here reads before now shelf p
      → AreFound l marks is_here reads before next later (p + 1)
  found_on now next shelf later p here free keeps others one f = record {
    counts = λ s from. others s (λ e. omega (arith, e, from)) ∙ f.counts s (omega (arith, from));
    found = λ s under in_now unmarked. at s under in_now unmarked (s == p) refl;
    none = λ s store there. which s store there (s == p) refl;
  }
    where
      own : (is_some (store_at later p) ≡ true) ⊎ IsLost l reads before next p
      own = subst (λ n. (is_some (store_at later p) ≡ true) ⊎ (Rose n (next p) ⊎ ((text : List ℕ) → told_text p (reads p) ≡ Some text → IsShardOf l.geometry (shard_head p l.geometry l.n) text None)))
          (f.counts p (omega arith)) one

      at : (s : ℕ) → s < p + 1 → is_here s → (HasPosition marks s → ⊥) → (b : Bool) → (s == p) ≡ b → (is_some (store_at later s) ≡ true) ⊎ IsLost l reads before next s
      at s under in_now unmarked true is = subst (λ m. (is_some (store_at later m) ≡ true) ⊎ IsLost l reads before next m) (sym (eqb-true s p is)) own
      at s under in_now unmarked false is =
          let other : s ≢ p = λ e. false≢true (sym is ∙ eq-eqb s p e) in
          let was = f.found s (omega (arith, under, other)) in_now unmarked in
          subst (λ n. (is_some (store_at later s) ≡ true) ⊎ (Rose (before s) n ⊎ ((text : List ℕ) → told_text s (reads s) ≡ Some text → IsShardOf l.geometry (shard_head s l.geometry l.n) text None)))
          (sym (others s other))
          (subst (λ (o : Option Store). (is_some o ≡ true) ⊎ IsLost l reads before now s) (sym (keeps.stores s other)) was)

      which : (s : ℕ) (store : Store) → store_at later s ≡ Some store → (b : Bool) → (s == p) ≡ b → (s < p + 1) × (is_here s × (HasPosition marks s → ⊥))
      which s store there true is =
          let same : s ≡ p = eqb-true s p is in
          (omega (arith, same), (subst is_here (sym same) here, λ marked. free (subst (λ m. HasPosition marks m) same marked)))
      which s store there false is =
          let other : s ≢ p = λ e. false≢true (sym is ∙ eq-eqb s p e) in
          let was = f.none s store (sym (keeps.stores s other) ∙ there) in
          (omega (arith, was.0), was.1)

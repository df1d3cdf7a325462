-- Calls on one slot after another.
use Rattle.std.proofs.Common.{◌≡◌, ℕ, ◌+◌, ◌<◌, ◌≤◌, refl, sym, ap, ◌∙◌, arith, subst, Option, Some, None, inl, inr}
use Rattle.std.proofs.lemmas.Bool.{cases_lt, cases_eq}
use Rattle.ec_model.specs.Codes.{HasPosition}
use Rattle.shard_store.specs.Shelved.{Shelved}
use Rattle.shard_store.specs.Shelves.{store_at, KeepsStores}
use Rattle.shard_store.specs.Stored.{Becomes, told_in}
use Rattle.shard_store.specs.Told.{Told, IsAccepted, with_step, none_staged}
use Rattle.shard_store.specs.declared.store.Store.{Store}
use Rattle.std.specs.Int.{bit_at}
use Rattle.std.specs.Prelude.{IfSome, OnErr}
use Rattle.std.proofs.Common.{Result, Ok, Err}
use Rattle.shard_model.specs.Steps.{Step}
use Rattle.ec_pipeline.specs.Shelving.{BecomesAt, AreTold, AreSame}

-- nothing was told yet
pub none_told : (f : ℕ → Told → Told) (set : ℕ) (shelf : Shelved) → AreTold f set 0 shelf shelf
none_told f set shelf = record { inside = λ s lt has. absurd (omega (arith, lt)); outside = λ s out. refl; fetched = λ s. refl }

-- one slot more was told, which is of the set
pub one_told : (f : ℕ → Told → Told) (set bound : ℕ) (old mid new : Shelved) → AreTold f set bound old mid
    → BecomesAt (f bound) (store_at mid bound) (store_at new bound) → KeepsStores mid new bound → HasPosition set bound → AreTold f set (bound + 1) old new
one_told f set bound old mid new so_far told keeps has = record {
  inside = λ s lt there. elim (cases_eq s bound) [
    | inl e ↦ subst (λ q. BecomesAt (f q) (store_at old q) (store_at new q)) (sym e)
        (subst (λ x. BecomesAt (f bound) x (store_at new bound)) (so_far.outside bound (λ lt _. omega (arith, lt))) told)
    | inr ne ↦ subst (λ x. BecomesAt (f s) (store_at old s) x) (sym (keeps.stores s ne)) (so_far.inside s (omega (arith, lt, ne)) there)
  ];
  outside = λ s out. elim (cases_eq s bound) [
    | inl e ↦ absurd (out (omega (arith, e)) (subst (HasPosition set) (sym e) has))
    | inr ne ↦ keeps.stores s ne ∙ so_far.outside s (λ lt there. out (omega (arith, lt)) there)
  ];
  fetched = λ s. keeps.fetched s ∙ so_far.fetched s;
}

-- one slot more was looked at, which is not of the set
pub none_more : (f : ℕ → Told → Told) (set bound : ℕ) (old new : Shelved) → AreTold f set bound old new → (HasPosition set bound → ⊥) → AreTold f set (bound + 1) old new
none_more f set bound old new so_far lacks = record {
  inside = λ s lt there. elim (cases_eq s bound) [
    | inl e ↦ absurd (lacks (subst (HasPosition set) e there))
    | inr ne ↦ so_far.inside s (omega (arith, lt, ne)) there
  ];
  outside = λ s out. so_far.outside s (λ lt there. out (omega (arith, lt)) there);
  fetched = so_far.fetched;
}

-- a slot that a call left as it was is told nothing
pub same_told : (f : ℕ → Told → Told) (set bound : ℕ) (old mid new : Shelved) → AreTold f set bound old mid
    → store_at new bound ≡ store_at mid bound → KeepsStores mid new bound → AreTold f set bound old new
same_told f set bound old mid new so_far same keeps = record {
  inside = λ s lt has. subst (BecomesAt (f s) (store_at old s)) (sym (kept s)) (so_far.inside s lt has);
  outside = λ s out. kept s ∙ so_far.outside s out;
  fetched = λ s. keeps.fetched s ∙ so_far.fetched s;
}
  where
    kept : (s : ℕ) → store_at new s ≡ store_at mid s
    kept s = elim (cases_eq s bound) [
      | inl e ↦ ap (store_at new) e ∙ same ∙ ap (store_at mid) (sym e)
      | inr ne ↦ keeps.stores s ne
    ]

-- a fact that holds holds after Err
pub on_err : {T E A : Type 0} → (answer : Result T E) → A → OnErr answer A
on_err (Ok done) a = tt
on_err (Err why) a = a

-- a round that stops at a slot
pub stopped : (f : ℕ → Told → Told) (set bound : ℕ) (old mid new : Shelved) → bound ≤ 16 → AreTold f set bound old mid
    → store_at new bound ≡ store_at mid bound → KeepsStores mid new bound → (b : ℕ) × (b ≤ 16) × AreTold f set b old new
stopped f set bound old mid new few so_far same keeps = (bound, few, same_told f set bound old mid new so_far same keeps)

-- ---- one after another

pub becomes_then : (old mid new : Store) (f g : Told → Told) → Becomes old mid (f (told_in old)) → Becomes mid new (g (told_in mid)) → Becomes old new (g (f (told_in old)))
becomes_then old mid new f g one two =
    record { journal = two.journal ∙ one.journal; n = two.n ∙ one.n; story = two.story ∙ ap g one.story }

pub told_then : (f g : Told → Told) (old mid new : Option Store) → BecomesAt f old mid → BecomesAt g mid new → BecomesAt (λ t. g (f t)) old new
told_then f g None mid new one two = subst (λ m. BecomesAt g m new) one two
told_then f g (Some old) None new one two = absurd one
told_then f g (Some old) (Some mid) None one two = absurd two
told_then f g (Some old) (Some mid) (Some new) one two = becomes_then old mid new f g one two

pub stays : (old : Option Store) → BecomesAt (λ t. t) old old
stays None = refl
stays (Some old) = record { journal = refl; n = refl; story = refl }

-- two rounds over a set
pub rounds : (f g : ℕ → Told → Told) (set : ℕ) (old mid new : Shelved) → AreTold f set 16 old mid → AreTold g set 16 mid new → AreTold (λ s t. g s (f s t)) set 16 old new
rounds f g set old mid new one two = record {
  inside = λ s lt has. told_then (f s) (g s) (store_at old s) (store_at mid s) (store_at new s) (one.inside s lt has) (two.inside s lt has);
  outside = λ s out. two.outside s out ∙ one.outside s out;
  fetched = λ s. two.fetched s ∙ one.fetched s;
}

-- what was staged on some and is forgotten on all leaves each store as it was
forgotten_at : (step : Step) (old new : Option Store) → IfSome old (λ store. IsAccepted (told_in store)) → BecomesAt (λ t. none_staged (with_step t step)) old new → BecomesAt (λ t. t) old new
forgotten_at step None new accepted told = told
forgotten_at step (Some old) None accepted told = told
forgotten_at step (Some old) (Some new) accepted told = record { journal = told.journal; n = told.n; story = told.story ∙ unstaged_is (told_in old) accepted }
  where
    unstaged_is : (t : Told) → IsAccepted t → none_staged t ≡ t
    unstaged_is t e = λ i. record t { staged = sym e i }

untouched_at : (old new : Option Store) → IfSome old (λ store. IsAccepted (told_in store)) → BecomesAt none_staged old new → BecomesAt (λ t. t) old new
untouched_at None new accepted told = told
untouched_at (Some old) None accepted told = told
untouched_at (Some old) (Some new) accepted told = record { journal = told.journal; n = told.n; story = told.story ∙ unstaged_is (told_in old) accepted }
  where
    unstaged_is : (t : Told) → IsAccepted t → none_staged t ≡ t
    unstaged_is t e = λ i. record t { staged = sym e i }

pub forgotten : (step : ℕ → Step) (set bound : ℕ) (old mid new : Shelved) → bound ≤ 16 → ((s : ℕ) → HasPosition set s → IfSome (store_at old s) (λ store. IsAccepted (told_in store)))
    → AreTold (λ s t. with_step t (step s)) set bound old mid → AreTold (λ _. none_staged) set 16 mid new → AreSame old new
forgotten step set bound old mid new few accepted some all = record {
  stores = λ s. elim (cases_lt s 16) [
    | inr past ↦ untouched s (λ lt _. omega (arith, lt, past)) (λ lt _. omega (arith, lt, few, past))
    | inl below ↦ elim (cases_eq (bit_at set s) 1) [
      | inr lacks ↦ untouched s (λ _ has. lacks has) (λ _ has. lacks has)
      | inl has ↦ elim (cases_lt s bound) [
        | inl lt ↦ forgotten_at (step s) (store_at old s) (store_at new s) (accepted s has)
            (told_then (λ t. with_step t (step s)) none_staged (store_at old s) (store_at mid s) (store_at new s) (some.inside s lt has) (all.inside s below has))
        | inr behind ↦ untouched_at (store_at old s) (store_at new s) (accepted s has)
            (subst (λ m. BecomesAt none_staged m (store_at new s)) (some.outside s (λ lt _. omega (arith, lt, behind))) (all.inside s below has))
      ]
    ]
  ];
  fetched = λ s. all.fetched s ∙ some.fetched s;
}
  where
    untouched : (s : ℕ) → (s < 16 → HasPosition set s → ⊥) → (s < bound → HasPosition set s → ⊥) → BecomesAt (λ t. t) (store_at old s) (store_at new s)
    untouched s out also = subst (BecomesAt (λ t. t) (store_at old s)) (sym (all.outside s out ∙ some.outside s also)) (stays (store_at old s))

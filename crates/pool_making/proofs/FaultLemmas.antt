-- Answers that are Ok or a fault.
use Rattle.std.proofs.Common.{◌≡◌, ◌≢◌, ◌⊎◌, ◌<◌, inl, inr, ℕ, refl, sym, ap, subst, ◌∙◌, arith}
use Rattle.std.specs.Prelude.{Result, Ok, Err, OnOk}
use Rattle.rig_disk.specs.Faults.{Rose}
use Rattle.pool_map.specs.Faults.{HasMapCause}
use Rattle.pool_map.specs.declared.fault.MapFault.{MapFault}
use Rattle.pool_map.specs.declared.fault.MapFault.TheVariants as map
use Rattle.pool_map.specs.declared.map.PoolMap.{PoolMap}
use Rattle.pool_moves.proofs.MakingLemmas.{same_counts}
use Rattle.pool_making.specs.Faults.{HasMakeCause, Names}
use Rattle.pool_making.specs.declared.fault.MakeFault.{MakeFault}
use Rattle.pool_making.specs.declared.fault.MakeFault.TheVariants.{MapFailed, NoMemory, SlotFailed}

-- an answer is not both
pub ok_err : {T E : Type 0} (x : T) (fault : E) → ◌≡◌ {A = Result T E} (Ok x) (Err fault) → ⊥
ok_err x fault e = cc

-- what is said after Ok may be weakened
pub on_ok : {T E P Q : Type 0} (answer : Result T E) → (P → Q) → OnOk answer P → OnOk answer Q
on_ok (Ok x) f holds = f holds
on_ok (Err fault) f holds = tt

-- an answer that is one of two faults is not Ok
pub not_ok : {T E : Type 0} {one other : E} (answer : Result T E) (x : T) → answer ≡ Ok x → (answer ≡ Err one) ⊎ (answer ≡ Err other) → ⊥
not_ok answer x is (inl e) = cc
not_ok answer x is (inr e) = cc

abbrev err_of : {T : Type 0} → ℕ → Result T MakeFault
err_of s = Err (SlotFailed s)

-- a call on this slot failed
pub failed_on : {T : Type 0} (n p : ℕ) (before now : ℕ → ℕ) → (p < n) × (p < 16) → Rose (before p) (now p) → ((s : ℕ) → s ≢ p → now s ≡ before s)
    → HasMakeCause {T = T} n before now (Err (SlotFailed p))
failed_on {T = T} n p before now below rose same = record {
  below = λ slot is. rw (sym (its slot is)) below;
  named = λ slot names. elim names [
    | inl is ↦ rw (sym (its slot is)) rose
    | inr map ↦ absurd (other map.1)
  ];
  others = λ slot free. same slot (λ e. free (inl (ap (err_of {T = T}) (sym e))));
}
  where
    its : (slot : ℕ) → ◌≡◌ {A = Result T MakeFault} (Err (SlotFailed p)) (Err (SlotFailed slot)) → p ≡ slot
    its slot is = cc

    other : ◌≡◌ {A = Result T MakeFault} (Err (SlotFailed p)) (Err MapFailed) → ⊥
    other is = cc

-- a call on the map's slot failed
pub failed_on_map : {T : Type 0} (n : ℕ) (before now : ℕ → ℕ) → Rose (before 16) (now 16) → ((s : ℕ) → s ≢ 16 → now s ≡ before s)
    → HasMakeCause {T = T} n before now (Err MapFailed)
failed_on_map {T = T} n before now rose same = record {
  below = λ slot is. absurd (other slot is);
  named = λ slot names. elim names [
    | inl is ↦ absurd (other slot is)
    | inr map ↦ rw map.0 rose
  ];
  others = λ slot free. same slot (λ e. free (inr (e, refl)));
}
  where
    other : (slot : ℕ) → ◌≡◌ {A = Result T MakeFault} (Err MapFailed) (Err (SlotFailed slot)) → ⊥
    other slot is = cc

-- no call failed
pub none_failed : {T : Type 0} (n : ℕ) (before now : ℕ → ℕ) (result : Result T MakeFault) → ((s : ℕ) → result ≡ Err (SlotFailed s) → ⊥) → (result ≡ Err MapFailed → ⊥)
    → ((s : ℕ) → now s ≡ before s) → HasMakeCause n before now result
none_failed n before now result no_slot no_map same = record {
  below = λ slot is. absurd (no_slot slot is);
  named = λ slot names. elim names [
    | inl is ↦ absurd (no_slot slot is)
    | inr map ↦ absurd (no_map map.1)
  ];
  others = λ slot free. same slot;
}

-- after calls that did not fail
pub cause_after : {T : Type 0} (n : ℕ) (old before now : ℕ → ℕ) (result : Result T MakeFault) → ((s : ℕ) → before s ≡ old s) → HasMakeCause n before now result
    → HasMakeCause n old now result
cause_after n old before now result same cause = record {
  below = cause.below;
  named = λ slot names. subst (λ (c : ℕ). Rose c (now slot)) (same slot) (cause.named slot names);
  others = λ slot free. cause.others slot free ∙ same slot;
}

-- the map was not made
pub map_cause : {T : Type 0} (n : ℕ) (before now : ℕ → ℕ) (made : Result PoolMap MapFault) (fault : MapFault) (answer : MakeFault) → made ≡ Err fault
    → HasMapCause (before 16) (now 16) made → ((s : ℕ) → s ≢ 16 → now s ≡ before s)
    → ((fault ≡ map.Failed) × (answer ≡ MapFailed)) ⊎ ((fault ≡ map.NoMemory) × (answer ≡ NoMemory)) → HasMakeCause {T = T} n before now (Err answer)
map_cause {T = T} n before now made fault answer is cause same (inl failed) =
    rw failed.1 (failed_on_map {T = T} n before now (cause.failed (is ∙ ap Err failed.0)) same)
map_cause {T = T} n before now made fault answer is cause same (inr none_left) =
    rw none_left.1 (none_failed {T = T} n before now (Err NoMemory) (λ s e. no_slot s e) no_map (same_counts now before 16 (cause.quiet (λ e. other (sym (is ∙ ap Err none_left.0) ∙ e))) same))
  where
    no_slot : (s : ℕ) → ◌≡◌ {A = Result T MakeFault} (Err NoMemory) (Err (SlotFailed s)) → ⊥
    no_slot s e = cc

    no_map : ◌≡◌ {A = Result T MakeFault} (Err NoMemory) (Err MapFailed) → ⊥
    no_map e = cc

    other : ◌≡◌ {A = Result PoolMap MapFault} (Err map.NoMemory) (Err map.Failed) → ⊥
    other e = cc

-- what callers of the making of a pool cite: the output's count of faults stays
pub voice_stays : {T : Type 0} (n : ℕ) (before now : ℕ → ℕ) (result : Result T MakeFault) → HasMakeCause n before now result → now 17 ≡ before 17
voice_stays n before now result cause = cause.others 17 named
  where
    named : Names result 17 → ⊥
    named (inl is) = omega (arith, (cause.below 17 is).1)
    named (inr map) = omega (arith, map.0)

-- and after Ok every count does
pub all_stay : {T : Type 0} (x : T) (n : ℕ) (before now : ℕ → ℕ) → HasMakeCause n before now (Ok x) → (slot : ℕ) → now slot ≡ before slot
all_stay x n before now cause slot = cause.others slot named
  where
    named : Names (Ok x) slot → ⊥
    named (inl is) = cc
    named (inr map) = let is = map.1 in cc

-- What a fault of a turn says.
use Rattle.std.proofs.Common.{◌≡◌, ◌⊎◌, ⊎_elim, ℕ, Result, Ok, Err, sym, ap, subst, ◌∙◌}
use Rattle.std.specs.Prelude.{OnOk}
use Rattle.rig_disk.specs.Faults.{Rose}
use Rattle.pool_map.specs.Faults.{HasMapCause}
use Rattle.pool_map.specs.declared.fault.MapFault.{MapFault}
use Rattle.pool_map.specs.declared.fault.MapFault.TheVariants as map
use Rattle.pool_core.specs.Faults.{HasTurnCause, pool_fault}
use Rattle.pool_core.specs.declared.fault.PoolFault.{PoolFault}
use Rattle.pool_core.specs.declared.fault.PoolFault.TheVariants.{MapFailed, Worn, NoMemory}

pub err_same : {S : Type 0} (fault other : PoolFault) → ◌≡◌ {A = Result S PoolFault} (Err fault) (Err other) → fault ≡ other
err_same {S} fault other e = cc

-- the count stands still unless the map's slot failed
pub still : {T : Type 0} (before now : ℕ) (result : Result T PoolFault) → (result ≡ Err MapFailed → ⊥) → now ≡ before
    → HasTurnCause before now result
still before now result apart same = record { failed = λ e. absurd (apart e); quiet = λ free. same }

worn_apart : {T : Type 0} → ◌≡◌ {A = Result T PoolFault} (Err Worn) (Err MapFailed) → ⊥
worn_apart {T} e = cc

memory_apart : {T : Type 0} → ◌≡◌ {A = Result T PoolFault} (Err NoMemory) (Err MapFailed) → ⊥
memory_apart {T} e = cc

pub ok_apart : {T : Type 0} (x : T) → ◌≡◌ {A = Result T PoolFault} (Ok x) (Err MapFailed) → ⊥
ok_apart {T} x e = cc

pub still_ok : {T : Type 0} (before now : ℕ) (x : T) → now ≡ before → HasTurnCause before now (Ok x)
still_ok {T} before now x same = still before now (Ok x) (ok_apart x) same

pub still_worn : {T : Type 0} (before now : ℕ) → now ≡ before → HasTurnCause {T = T} before now (Err Worn)
still_worn {T} before now same = still before now (Err Worn) worn_apart same

pub still_memory : {T : Type 0} (before now : ℕ) → now ≡ before → HasTurnCause {T = T} before now (Err NoMemory)
still_memory {T} before now same = still before now (Err NoMemory) memory_apart same

map_failed : {T : Type 0} (fault : MapFault) → fault ≡ map.Failed → ◌≡◌ {A = Result T MapFault} (Err fault) (Err map.Failed)
map_failed fault is = ap Err is

map_worn : {T : Type 0} (fault : MapFault) → fault ≡ map.Worn → ◌≡◌ {A = Result T MapFault} (Err fault) (Err map.Failed) → ⊥
map_worn {T} fault is e = let same : fault ≡ map.Failed = cc in let no_one : map.Worn ≡ map.Failed = sym is ∙ same in cc

map_memory : {T : Type 0} (fault : MapFault) → fault ≡ map.NoMemory → ◌≡◌ {A = Result T MapFault} (Err fault) (Err map.Failed) → ⊥
map_memory {T} fault is e = let same : fault ≡ map.Failed = cc in let no_one : map.NoMemory ≡ map.Failed = sym is ∙ same in cc

-- a step of the map that failed so
pub map_cause : {S T : Type 0} (before now : ℕ) (fault : MapFault) → ((fault ≡ map.Failed) ⊎ ((fault ≡ map.Worn) ⊎ (fault ≡ map.NoMemory)))
    → HasMapCause {T = S} before now (Err fault) → HasTurnCause {T = T} before now (Err (pool_fault fault))
map_cause {S} {T} before now fault which cause = ⊎_elim
    (λ failed. record {
      failed = λ e. cause.failed (map_failed fault failed);
      quiet = λ free. absurd (free (ap (λ (f : MapFault). Err (pool_fault f)) failed));
    })
    (λ rest. ⊎_elim
    (λ worn. subst (λ (f : PoolFault). HasTurnCause {T = T} before now (Err f)) (sym (ap pool_fault worn)) (still_worn before now (cause.quiet (map_worn fault worn))))
    (λ memory. subst (λ (f : PoolFault). HasTurnCause {T = T} before now (Err f)) (sym (ap pool_fault memory)) (still_memory before now (cause.quiet (map_memory fault memory))))
    rest)
    which

-- the same of an answer of another kind, from an equal count on
pub cause_as : {S T : Type 0} (before mid now : ℕ) (fault : PoolFault) → mid ≡ before → HasTurnCause {T = S} mid now (Err fault) → HasTurnCause {T = T} before now (Err fault)
cause_as {S} {T} before mid now fault same cause = record {
  failed = λ e. subst (λ n. Rose n now) same (cause.failed (ap Err (err_same fault MapFailed e)));
  quiet = λ free. cause.quiet (λ e. free (ap Err (err_same fault MapFailed e))) ∙ same;
}

-- a step of the map that was worn
pub worn_fault : (fault : MapFault) → ((fault ≡ map.Failed) ⊎ ((fault ≡ map.Worn) ⊎ (fault ≡ map.NoMemory))) → pool_fault fault ≡ Worn → fault ≡ map.Worn
worn_fault fault which is = ⊎_elim
    (λ failed. absurd (failed_worn (sym (ap pool_fault failed) ∙ is)))
    (λ rest. ⊎_elim (λ worn. worn) (λ memory. absurd (memory_worn (sym (ap pool_fault memory) ∙ is))) rest)
    which
  where
    failed_worn : MapFailed ≡ Worn → ⊥
    failed_worn e = cc

    memory_worn : NoMemory ≡ Worn → ⊥
    memory_worn e = cc

-- what holds after Ok
pub on_ok : {T E P Q : Type 0} (answer : Result T E) → (P → Q) → OnOk answer P → OnOk answer Q
on_ok (Ok x) leads p = leads p
on_ok (Err fault) leads p = tt

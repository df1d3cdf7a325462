-- What a fault of a store says to the pool.
use Rattle.std.proofs.Common.{◌≡◌, ◌∙◌, Result, Ok, Err, sym}
use Rattle.shard_store.specs.declared.fault.StoreFault.{StoreFault}
use Rattle.shard_store.specs.declared.fault.StoreFault.TheVariants.{Failed, NoMemory}

pub ok_failed : {T : Type 0} (x : T) → ◌≡◌ {A = Result T StoreFault} (Ok x) (Err Failed) → ⊥
ok_failed x e = cc

pub memory_failed : {T : Type 0} (fault : StoreFault) → fault ≡ NoMemory → ◌≡◌ {A = Result T StoreFault} (Err fault) (Err Failed) → ⊥
memory_failed fault is e = let same : fault ≡ Failed = cc in let no_one : NoMemory ≡ Failed = sym is ∙ same in cc

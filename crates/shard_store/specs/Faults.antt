-- What the answers of a store's calls say. Source: this project.
use Rattle.std.specs.Prelude.{◌≡◌, ℕ, Result, IsErrOf}
use Rattle.rig_disk.specs.Faults.{Rose}
use Rattle.shard_store.specs.declared.shelf.FetchFault.{FetchFault}
use Rattle.shard_store.specs.declared.shelf.FetchFault.TheVariants as fetch
use Rattle.shard_store.specs.declared.fault.StoreFault.{StoreFault}
use Rattle.shard_store.specs.declared.fault.StoreFault.TheVariants.{Failed}

-- the slot's count of faults rose if the answer is `Failed`, and else it is as it was
pub record HasStoreCause {T : Type 0} (before now : ℕ) (result : Result T StoreFault) : Type 0 where
  pub failed : IsErrOf result Failed → Rose before now
  pub quiet : (IsErrOf result Failed → ⊥) → now ≡ before

-- the same of a fetch
pub record HasFetchCause {T : Type 0} (before now : ℕ) (result : Result T FetchFault) : Type 0 where
  pub failed : IsErrOf result fetch.Failed → Rose before now
  pub quiet : (IsErrOf result fetch.Failed → ⊥) → now ≡ before

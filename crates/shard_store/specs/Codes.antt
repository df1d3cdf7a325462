-- The view of a store as numbers and lists, by which two such values are told apart. Source: this project.
use Rattle.std.proofs.Common.{ℕ, List, refl}
use Rattle.std.specs.Coded.{Coded, code_by, coded×, coded_ℕ, coded_list}
use Rattle.shard_model.specs.Shards.{Shard, shard_code}
use Rattle.shard_model.specs.StepCodes.{coded_bytes, step_code}
use Rattle.shard_model.specs.Steps.{Step}
use Rattle.shard_store.specs.Told.{Told}

abbrev pub told_code : Coded Told
told_code =
    code_by (((ℕ × ℕ) × Shard) × (List ℕ × List Step)) (coded× (coded× (coded× coded_ℕ coded_ℕ) shard_code) (coded× coded_bytes (coded_list step_code)))
    (λ t. (((t.geometry.k, t.geometry.unit), t.shard), (t.pending, t.staged)))
    (λ p. record { geometry = record { k = p.0.0.0; unit = p.0.0.1 }; shard = p.0.1; pending = p.1.0; staged = p.1.1 }) (λ _. refl)

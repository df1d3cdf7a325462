-- What a contract sees of a store: the shard that the accepted steps lead to, those of them that are in no record yet, and the
-- staged steps. Source: this project.
use Rattle.std.specs.Prelude.{◌≡◌, ◌++◌, ◌∷◌, [], ℕ, List}
use Rattle.std.specs.List.{AllByRecursion}
use Rattle.shard_model.specs.Objects.{Geometry}
use Rattle.shard_model.specs.Shards.{Shard}
use Rattle.shard_model.specs.StepBytes.{steps_bytes, IsWritable, AreSteps}
use Rattle.shard_model.specs.Steps.{Step}
use Rattle.shard_store.specs.Stories.{fresh_shard, shard_after, AreFitting}

-- `shard` is after the accepted steps, `pending` has the bytes of those that are in no record, and `staged` are the others
pub record Told : Type 0 where
  pub geometry : Geometry
  pub shard : Shard
  pub pending : List ℕ
  pub staged : List Step

-- the shard that all steps lead to
abbrev pub staged_shard : Told → Shard
staged_shard t = shard_after t.shard t.staged

-- the bytes of all steps that are in no record
abbrev pub unflushed_bytes : Told → List ℕ
unflushed_bytes t = t.pending ++ steps_bytes t.staged

-- these steps stand in records, and these follow them in the pending bytes: each fits, and together they lead to the shard
pub record IsTold (t : Told) (flushed pending : List Step) : Type 0 where
  pub bytes : AreSteps t.pending pending
  pub fitting : AreFitting (fresh_shard t.geometry) (flushed ++ pending)
  pub shard : t.shard ≡ shard_after (fresh_shard t.geometry) (flushed ++ pending)

-- some steps that fit lead to a shard
pub record IsReplayed (g : Geometry) (shard : Shard) : Type 0 where
  pub steps : List Step
  pub fitting : AreFitting (fresh_shard g) steps
  pub led : shard ≡ shard_after (fresh_shard g) steps

-- what holds of all that is told: steps that fit lead to the shard, and each staged step fits and has its place in the bytes
pub record IsSound (t : Told) : Type 0 where
  pub replayed : IsReplayed t.geometry t.shard
  pub fitting : AreFitting t.shard t.staged
  pub writable : AllByRecursion IsWritable t.staged

-- nothing is staged
abbrev pub IsAccepted : Told → Type 0
IsAccepted t = t.staged ≡ []

-- a shard whose steps all stand in records
abbrev pub all_told : Geometry → Shard → Told
all_told g s = record { geometry = g; shard = s; pending = []; staged = [] }

-- one step more is staged
abbrev pub with_step : Told → Step → Told
with_step t step = record t { staged = t.staged ++ step ∷ [] }

abbrev pub all_accepted : Told → Told
all_accepted t = record { geometry = t.geometry; shard = staged_shard t; pending = unflushed_bytes t; staged = [] }

abbrev pub none_staged : Told → Told
none_staged t = record t { staged = [] }

abbrev pub all_flushed : Told → Told
all_flushed t = record t { pending = [] }

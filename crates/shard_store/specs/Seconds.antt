-- The second state of a story. Source: this project.
use Rattle.std.specs.Prelude.{◌≡◌, ◌⊎◌, [], List, Option, Some, None}
use Rattle.shard_model.specs.Shards.{Shard}
use Rattle.shard_model.specs.Steps.{Step}
use Rattle.shard_store.specs.Stories.{shard_after, AreFitting}

-- the second state with the steps that it lacks is the first with the staged ones; one of the two lists is empty
pub record IsSecond (state ahead : Shard) (behind staged : List Step) : Type 0 where
  pub fitting : AreFitting ahead behind
  pub meets : shard_after ahead behind ≡ shard_after state staged
  pub either : (behind ≡ []) ⊎ (staged ≡ [])

-- the same, if there is a second state. There is one whenever a step is staged
abbrev pub IsAhead : Shard → Option Shard → List Step → List Step → Type 0
IsAhead state None behind staged = staged ≡ []
IsAhead state (Some ahead) behind staged = IsSecond state ahead behind staged

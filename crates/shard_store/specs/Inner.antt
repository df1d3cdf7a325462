-- The view and the invariant of a story. Source: this project.
use Rattle.std.specs.Prelude.{◌≡◌, ◌≤◌, ◌++◌, List, length, take, map}
use Rattle.std.specs.List.{AllByRecursion}
use Rattle.shard_model.specs.Objects.{Geometry}
use Rattle.shard_model.specs.StepBytes.{steps_bytes, IsWritable}
use Rattle.shard_model.specs.Steps.{Step}
use Rattle.shard_steps.specs.StepMeanings.{step_of}
use Rattle.shard_store.specs.Stories.{AreFitting}
use Rattle.shard_store.specs.Told.{Told, IsReplayed}
use Rattle.shard_store.specs.Seconds.{IsAhead}
use Rattle.shard_store.specs.declared.story.Story.TheInside.{Inside}

abbrev pub geometry_of : Inside → Geometry
geometry_of s = record { k = s.geometry.k; unit = s.geometry.unit }

abbrev pub staged_of : Inside → List Step
staged_of s = map step_of s.staged.items

abbrev pub told_of : Inside → Told
told_of s = record { geometry = geometry_of s; shard = s.state; pending = take s.body_len s.body.items; staged = staged_of s }

-- `state` is after the accepted steps; `body` has the bytes of those that are in no record, and then those of the staged ones
pub record IsKept (s : Inside) : Type 0 where
  pub replayed : IsReplayed (geometry_of s) s.state
  pub fitting : AreFitting s.state (staged_of s)
  pub writable : AllByRecursion IsWritable (staged_of s)
  pub ahead : IsAhead s.state s.ahead (map step_of s.behind.items) (staged_of s)
  pub within : s.body_len ≤ length s.body.items
  pub body : s.body.items ≡ take s.body_len s.body.items ++ steps_bytes (staged_of s)

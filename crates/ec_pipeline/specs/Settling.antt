-- What the first update of a batch stages before itself. Source: this project.
use Rattle.std.specs.Prelude.{◌-◌, ◌++◌, ◌∷◌, [], nat_le, ℕ, List, length, get_or, if◌then◌else◌, Option, Some, None}
use Rattle.ec_model.specs.Versions.{Version, is_same, zero_version}
use Rattle.shard_model.specs.Changes.{OfWrite, Fresh}
use Rattle.shard_model.specs.Shards.{Shard}
use Rattle.shard_model.specs.States.{Logged}
use Rattle.shard_model.specs.Steps.{Step, Control, Firm, Trim}
use Rattle.shard_steps.specs.StepMeanings.{step_of}
use Rattle.shard_steps.specs.declared.step.Step as plain
use Rattle.shard_store.specs.Told.{Told}

-- the entries that stay in a log
abbrev pub kept_entries : ℕ
kept_entries = 512

-- an entry that counts for nothing, past the log's end
abbrev pub no_entry : Logged
no_entry = record { version = zero_version; prior = zero_version; name = []; kind = OfWrite; undo = Fresh }

-- the committed version is made firm, if another is
abbrev pub firming : Version → Shard → List Step
firming v s = if is_same s.state.firm v then [] else Control (Firm v) ∷ []

-- the newest entries stay, if the log has more
abbrev pub trimming : Shard → List Step
trimming s =
    if nat_le (length s.state.log) kept_entries then []
    else Control (Trim (get_or s.state.log (length s.state.log - kept_entries - 1) no_entry).version) ∷ []

abbrev pub settling : Version → Shard → List Step
settling v s = firming v s ++ trimming s

-- some steps more are staged
abbrev pub with_steps : Told → List Step → Told
with_steps t steps = record t { staged = t.staged ++ steps }

-- a step, or none
abbrev pub steps_if : Option plain.Step → List Step
steps_if None = []
steps_if (Some step) = step_of step ∷ []

use Rattle.std.proofs.Common.{◌≡◌, map, drop}
use Rattle.shard_steps.specs.StepMeanings.{step_of}
use Rattle.shard_store.specs.Stories.{shard_after, AreFitting}
use Rattle.shard_store.proofs.story.catch_up.Given as goal

-- the steps left fit, and lead where all lead
abbrev pub invariant-loop-i : goal.invariant-loop-i
invariant-loop-i l =
    AreFitting l.level (map step_of (drop l.i l.steps)) × (shard_after l.level (map step_of (drop l.i l.steps)) ≡ shard_after l.fn.ahead (map step_of l.steps))

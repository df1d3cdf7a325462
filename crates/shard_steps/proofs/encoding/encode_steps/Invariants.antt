use Rattle.std.proofs.Common.{◌≡◌, ◌++◌, map, drop}
use Rattle.std.specs.List.{AllByRecursion}
use Rattle.shard_model.specs.StepBytes.{steps_bytes, HasShortLists}
use Rattle.shard_steps.specs.StepMeanings.{step_of}
use Rattle.shard_steps.proofs.encoding.encode_steps.Given as goal

-- what is out, and what is still to come, are all
abbrev pub invariant-loop-i : goal.invariant-loop-i
invariant-loop-i l = record {
  out : l.out ++ steps_bytes (map step_of (drop l.i l.steps)) ≡ steps_bytes (map step_of l.steps);
  short : AllByRecursion HasShortLists (map step_of (drop l.i l.steps));
}

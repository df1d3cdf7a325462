use Rattle.std.proofs.Common.{map}
use Rattle.shard_steps.specs.StepMeanings.{step_of}
use Rattle.shard_store.proofs.LoadLemmas.{IsDoing}
use Rattle.shard_store.proofs.loading.do_steps.Given as goal

-- the steps left lead on where all lead
abbrev pub invariant-loop-step : goal.invariant-loop-step
invariant-loop-step l = IsDoing l.state l.fn.state (map step_of l.step-iterator.rest.items) (map step_of l.fn.steps.items)

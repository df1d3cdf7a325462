use Rattle.std.proofs.Common.{◌≡◌, ◌-◌, ◌≤◌}
use Rattle.shard_model.specs.StepReading.{read_pairs}
use Rattle.shard_steps.proofs.PairLemmas.{after_front}
use Rattle.shard_steps.proofs.reading.StepReader.attrs.Given as goal

-- what was read, and what is left to read, are all
abbrev pub invariant-loop : goal.invariant-loop
invariant-loop l = (l.counter ≤ l.count) × (read_pairs l.count l.initial.self ≡ after_front l.list.items (read_pairs (l.count - l.counter) l.self))

use Rattle.std.proofs.Common.{◌≡◌, drop, take, ◌++◌}
use Rattle.shard_model.specs.Fronts.{up_to, after}
use Rattle.shard_model.specs.States.{version_of}
use Rattle.shard_state.specs.Records.{log_of}
use Rattle.shard_state.proofs.log.front_len.Given as goal

-- the entries so far are not above the version
abbrev pub invariant-loop-i : goal.invariant-loop-i
invariant-loop-i l = record {
  front : take l.i (log_of l.log.items) ++ up_to version_of l.fn.version (drop l.i (log_of l.log.items)) ≡ up_to version_of l.fn.version (log_of l.log.items);
  rest : after version_of l.fn.version (drop l.i (log_of l.log.items)) ≡ after version_of l.fn.version (log_of l.log.items);
}

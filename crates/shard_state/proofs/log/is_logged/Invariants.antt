use Rattle.std.proofs.Common.{◌≡◌, drop}
use Rattle.std.specs.List.{list_any}
use Rattle.ec_model.specs.Versions.{is_same}
use Rattle.shard_state.specs.Records.{log_of}
use Rattle.shard_state.proofs.log.is_logged.Given as goal

-- none of the entries so far has the version
abbrev pub invariant-loop-i : goal.invariant-loop-i
invariant-loop-i l = list_any (λ n. is_same n.version l.fn.version) (log_of (drop l.i l.log.items)) ≡ list_any (λ n. is_same n.version l.fn.version) (log_of l.log.items)

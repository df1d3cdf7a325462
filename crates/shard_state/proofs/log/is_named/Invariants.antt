use Rattle.std.proofs.Common.{◌≡◌, bytes_eq, drop, map}
use Rattle.std.specs.List.{list_any}
use Rattle.shard_state.specs.Records.{recorded}
use Rattle.shard_state.proofs.log.is_named.Given as goal

-- none of the entries so far has the name
abbrev pub invariant-loop-i : goal.invariant-loop-i
invariant-loop-i l = list_any (λ r. bytes_eq r.logged.name l.fn.name) (map recorded (drop l.i l.log.items)) ≡ list_any (λ r. bytes_eq r.logged.name l.fn.name) (map recorded (drop l.fn.from l.log.items))

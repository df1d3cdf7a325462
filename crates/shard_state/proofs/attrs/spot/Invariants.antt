use Rattle.shard_state.proofs.SpotLemmas.{IsPast}
use Rattle.shard_state.proofs.attrs.spot.Given as goal

-- the name is above each attribute so far
abbrev pub invariant-loop-i : goal.invariant-loop-i
invariant-loop-i l = IsPast l.name l.list.items l.i

use Rattle.shard_store.proofs.LoadLemmas.{IsReplaying}
use Rattle.shard_store.proofs.loading.replay_bodies.Given as goal

-- the steps of the bodies so far are done
abbrev pub invariant-loop-body : goal.invariant-loop-body
invariant-loop-body l = IsReplaying (record { k = l.fn.g.k; unit = l.fn.g.unit }) l.state l.body-iterator.rest.items l.fn.bodies.items l.at

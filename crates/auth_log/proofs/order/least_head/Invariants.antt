use Rattle.auth_log.specs.Choice.{said_in}
use Rattle.auth_log.specs.Inner.{IsSaidBelow, IsLeastSoFar}
use Rattle.auth_log.proofs.order.least_head.Given as goal

abbrev pub invariant-loop-p : goal.invariant-loop-p
invariant-loop-p l = IsLeastSoFar (IsSaidBelow (said_in l.infos) l.set.0 l.p) l.epoch l.least

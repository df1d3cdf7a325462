use Rattle.auth_log.specs.Choice.{IsGreatestEpoch, said_in}
use Rattle.auth_log.specs.Inner.{IsSaidBelow}
use Rattle.auth_log.proofs.order.greatest_epoch.Given as goal

abbrev pub invariant-loop-p : goal.invariant-loop-p
invariant-loop-p l = IsGreatestEpoch (IsSaidBelow (said_in l.infos) l.set.0 l.p) l.epoch

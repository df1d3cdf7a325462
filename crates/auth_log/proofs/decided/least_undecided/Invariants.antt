use Rattle.auth_log.specs.Inner.{IsLeastUndecided}
use Rattle.auth_log.proofs.decided.least_undecided.Given as goal

abbrev pub invariant-loop-interval : goal.invariant-loop-interval
invariant-loop-interval g l = IsLeastUndecided ((goal.Code-dyn g l.code.now).meaning l.code.now.1) l.eligible.0 l.epoch l.intervals l.interval-index l.least

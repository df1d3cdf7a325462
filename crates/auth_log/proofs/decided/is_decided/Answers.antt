use Rattle.std.proofs.Common.{rules, ◌≡◌, ◌≤◌, Some}
use Rattle.auth_log.proofs.DecidedLemmas.{decided_exactly}
use Rattle.auth_log.proofs.decided.is_decided.Goals as goal

pub returns-else-interval-epoch : goal.returns-else-interval-epoch
returns-else-interval-epoch g c =
    let alive : c.args.interval.now.alive ≡ Some (c.in-Some.joined.0, c.in-Some.field-0-1) = search rules in
    let late : c.args.epoch ≤ c.args.interval.now.epoch = rw (← c.interval.view_is) c.if-interval-epoch.false in
    decided_exactly ((goal.Code-dyn g c.args.code.now).meaning c.args.code.now.1) c.args.eligible.0 c.args.epoch c.in-Some.joined.0 c.in-Some.field-0-1 c.args.interval.now c.decides_all.result alive late c.decides_all.ensures

use Rattle.shard_store.specs.Stored.{told_in}
use Rattle.pool_slots.specs.Slots.{start_steps}
use Rattle.pool_slots.proofs.StartLemmas.{same_two, told_two, has_record, add_moments}
use Rattle.pool_slots.proofs.starting.start_epoch.Goals as goal

pub returns-clause-ok : goal.returns-clause-ok
returns-clause-ok g c =
    let s = c.args.store.now in
    let steps = start_steps c.args.epoch c.args.base.now (told_in s).shard.state.head in
    has_record s c.stage_start.new.store c.accept.new.self steps c.requires.idle c.in-Ok.ensures.ok c.accept.ensures.value c.accept.ensures.told c.flush.new.self
    (g.R.Rig.reads c.args.rig.now) (g.R.Rig.reads c.flush.new.rig) (g.R.Rig.images c.args.rig.now (g.R.Rig.clock c.args.rig.now)) (g.R.Rig.images c.flush.new.rig (g.R.Rig.clock c.flush.new.rig))
    c.in_ok-flush.ensures.ok c.in_ok-flush.ensures.settled c.in_ok-flush.ensures.after.unspent c.in_ok-flush.ensures.after.flushed

pub returns-clause-any_moment : goal.returns-clause-any_moment
returns-clause-any_moment g c =
    let s = c.args.store.now in
    let steps = start_steps c.args.epoch c.args.base.now (told_in s).shard.state.head in
    add_moments s c.accept.new.self steps (same_two s c.stage_start.new.store c.accept.new.self steps c.requires.idle c.in-Ok.ensures.ok c.accept.ensures.value c.accept.ensures.told)
    g.R.Rig.clock g.R.Rig.images c.args.rig.now c.flush.new.rig (g.R.Rig.reads c.args.rig.now)
    (told_two s c.stage_start.new.store c.accept.new.self steps c.requires.idle c.in-Ok.ensures.ok c.accept.ensures.value c.accept.ensures.told) c.flush.ensures.any_moment

pub returns-in_err-flush-clause-any_moment : goal.returns-in_err-flush-clause-any_moment
returns-in_err-flush-clause-any_moment g c =
    let s = c.args.store.now in
    let steps = start_steps c.args.epoch c.args.base.now (told_in s).shard.state.head in
    add_moments s c.accept.new.self steps (same_two s c.stage_start.new.store c.accept.new.self steps c.requires.idle c.in-Ok.ensures.ok c.accept.ensures.value c.accept.ensures.told)
    g.R.Rig.clock g.R.Rig.images c.args.rig.now c.flush.new.rig (g.R.Rig.reads c.args.rig.now)
    (told_two s c.stage_start.new.store c.accept.new.self steps c.requires.idle c.in-Ok.ensures.ok c.accept.ensures.value c.accept.ensures.told) c.flush.ensures.any_moment

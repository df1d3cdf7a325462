use Rattle.std.proofs.Common.{arith}
use Rattle.pool_slots.proofs.StartLemmas.{none_waiting, back_short, started_short, back_waiting, same_room}
use Rattle.pool_slots.proofs.starting.stage_start.Goals as goal

pub stage-requires-2-clause-short : goal.stage-requires-2-clause-short
stage-requires-2-clause-short c = omega (arith, none_waiting c.args.store.now c.requires.idle, back_short c.args.base.now)

pub stage-requires-2-clause-room : goal.stage-requires-2-clause-room
stage-requires-2-clause-room c = omega (arith, none_waiting c.args.store.now c.requires.idle, back_short c.args.base.now, c.requires.room)

pub stage-requires-3-clause-short : goal.stage-requires-3-clause-short
stage-requires-3-clause-short c =
    omega (arith, back_waiting c.args.store.now c.stage-2.new.self c.args.base.now c.requires.idle c.in_ok-stage.ensures.ok, started_short c.args.epoch)

pub stage-requires-3-clause-room : goal.stage-requires-3-clause-room
stage-requires-3-clause-room c =
    omega (
      arith,
      back_waiting c.args.store.now c.stage-2.new.self c.args.base.now c.requires.idle c.in_ok-stage.ensures.ok,
      started_short c.args.epoch,
      same_room c.args.store.now c.stage-2.new.self _ c.in_ok-stage.ensures.ok,
      c.requires.room,
    )

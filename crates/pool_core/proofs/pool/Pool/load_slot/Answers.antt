use Rattle.std.proofs.Common.{◌≢◌, inl, inr, Option, Err, is_some, ap, arith}
use Rattle.shard_store.specs.Stories.{shard_head}
use Rattle.shard_store.specs.declared.store.Store.{Store}
use Rattle.pool_moves.proofs.OverLemmas.{loaded_ready, loaded_held, dropped_ready, dropped_held}
use Rattle.pool_core.specs.Pools.{layout_of}
use Rattle.pool_core.proofs.pool.Pool.load_slot.Goals as goal

pub returns-in-Ok-clause-ready : goal.returns-in-Ok-clause-ready
returns-in-Ok-clause-ready g c =
    let kept = c.load.ensures.kept.kept in
    let apart : 16 ≢ c.args.slot = λ e. omega (arith, e, c.requires.slot, c.args.self.now.few) in
    loaded_ready g.R.Rig.is_here g.R.Rig.reads g.R.Rig.clock g.R.Rig.images c.args.rig.now c.load.new.rig c.args.slot (λ s h. (kept.here s).0 h) kept.reads c.load.ensures.kept.any_moment
    c.stores_stay_stored.ensures.over c.maps_stay_held.ensures.over apart (layout_of c.args.self.now) c.args.self.now.map c.args.self.now.shelf c.put.new.self c.put.ensures.others
    c.requires.slot ((kept.here c.args.slot).0 c.requires.here) c.in-Ok.store c.in-Ok.ensures.fresh c.in-Ok.ensures.settled c.put.ensures.value c.requires.ready

pub returns-in-Ok-clause-held : goal.returns-in-Ok-clause-held
returns-in-Ok-clause-held g c text told held =
    let kept = c.load.ensures.kept.kept in
    let apart : 16 ≢ c.args.slot = λ e. omega (arith, e, c.requires.slot, c.args.self.now.few) in
    let stored = c.in-Ok.ensures.ok text told in
    loaded_held g.R.Rig.is_here g.R.Rig.reads g.R.Rig.clock g.R.Rig.images c.args.rig.now c.load.new.rig c.args.slot (λ s h. (kept.here s).0 h) kept.reads c.load.ensures.kept.any_moment
    c.stores_stay_stored.ensures.over c.maps_stay_held.ensures.over apart (layout_of c.args.self.now) c.args.self.now.map c.args.self.now.shelf c.put.new.self c.put.ensures.others
    c.in-Ok.store (record { text = text; flushed = stored.0; stored = stored.1 }) c.put.ensures.value c.requires.ready.own held

pub returns-in-Err-Failed-clause-ready : goal.returns-in-Err-Failed-clause-ready
returns-in-Err-Failed-clause-ready g c =
    let kept = c.load.ensures.kept.kept in
    let apart : 16 ≢ c.args.slot = λ e. omega (arith, e, c.requires.slot, c.args.self.now.few) in
    dropped_ready g.R.Rig.is_here g.R.Rig.reads g.R.Rig.clock g.R.Rig.images c.args.rig.now c.load.new.rig c.args.slot (λ s h. (kept.here s).0 h) kept.reads c.load.ensures.kept.any_moment
    c.stores_stay_stored.ensures.over c.maps_stay_held.ensures.over apart (layout_of c.args.self.now) c.args.self.now.map c.args.self.now.shelf c.drop_slot.new.self c.drop_slot.ensures.others
    c.drop_slot.ensures.value c.requires.ready

pub returns-in-Err-Failed-clause-held : goal.returns-in-Err-Failed-clause-held
returns-in-Err-Failed-clause-held g c text told held =
    let kept = c.load.ensures.kept.kept in
    let apart : 16 ≢ c.args.slot = λ e. omega (arith, e, c.requires.slot, c.args.self.now.few) in
    dropped_held g.R.Rig.is_here g.R.Rig.reads g.R.Rig.clock g.R.Rig.images c.args.rig.now c.load.new.rig c.args.slot (λ s h. (kept.here s).0 h) kept.reads c.load.ensures.kept.any_moment
    c.stores_stay_stored.ensures.over c.maps_stay_held.ensures.over apart (layout_of c.args.self.now) c.args.self.now.map c.args.self.now.shelf c.drop_slot.new.self c.drop_slot.ensures.others
    c.drop_slot.ensures.value c.requires.ready.own held

pub returns-in-Err-BadSlot-clause-ready : goal.returns-in-Err-BadSlot-clause-ready
returns-in-Err-BadSlot-clause-ready g c =
    let kept = c.load.ensures.kept.kept in
    let apart : 16 ≢ c.args.slot = λ e. omega (arith, e, c.requires.slot, c.args.self.now.few) in
    dropped_ready g.R.Rig.is_here g.R.Rig.reads g.R.Rig.clock g.R.Rig.images c.args.rig.now c.load.new.rig c.args.slot (λ s h. (kept.here s).0 h) kept.reads c.load.ensures.kept.any_moment
    c.stores_stay_stored.ensures.over c.maps_stay_held.ensures.over apart (layout_of c.args.self.now) c.args.self.now.map c.args.self.now.shelf c.drop_slot-in-Err-BadSlot.new.self c.drop_slot-in-Err-BadSlot.ensures.others
    c.drop_slot-in-Err-BadSlot.ensures.value c.requires.ready

pub returns-in-Err-BadSlot-clause-held : goal.returns-in-Err-BadSlot-clause-held
returns-in-Err-BadSlot-clause-held g c text told held =
    let kept = c.load.ensures.kept.kept in
    let apart : 16 ≢ c.args.slot = λ e. omega (arith, e, c.requires.slot, c.args.self.now.few) in
    dropped_held g.R.Rig.is_here g.R.Rig.reads g.R.Rig.clock g.R.Rig.images c.args.rig.now c.load.new.rig c.args.slot (λ s h. (kept.here s).0 h) kept.reads c.load.ensures.kept.any_moment
    c.stores_stay_stored.ensures.over c.maps_stay_held.ensures.over apart (layout_of c.args.self.now) c.args.self.now.map c.args.self.now.shelf c.drop_slot-in-Err-BadSlot.new.self c.drop_slot-in-Err-BadSlot.ensures.others
    c.drop_slot-in-Err-BadSlot.ensures.value c.requires.ready.own held

pub returns-in-Ok-clause-found : goal.returns-in-Ok-clause-found
returns-in-Ok-clause-found g c = inl (ap (λ (o : Option Store). is_some o) c.put.ensures.value)

pub returns-in-Err-Failed-clause-found : goal.returns-in-Err-Failed-clause-found
returns-in-Err-Failed-clause-found g c = inr (inl (c.in-Err-Failed.ensures.only_if_fault.failed (ap Err c.in-Err-Failed.field-0-is)))

pub returns-in-Err-BadSlot-clause-found : goal.returns-in-Err-BadSlot-clause-found
returns-in-Err-BadSlot-clause-found g c = inr (inr (λ text told.
    let l = layout_of c.args.self.now in
    c.bad_texts_have_no_story.ensures l.geometry (shard_head c.args.slot l.geometry l.n) text c.in-Err-BadSlot.field-0-0
    (c.in-Err-BadSlot.ensures.bad_slot c.in-Err-BadSlot.field-0-0 (ap Err c.in-Err-BadSlot.field-0-is) text told)))

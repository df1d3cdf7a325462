use Rattle.std.proofs.Common.{◌≢◌, ◌∙◌, inl, inr, ℕ, Option, Err, is_some, sym, ap, subst, arith}
use Rattle.shard_store.specs.Stored.{told_in}
use Rattle.shard_store.specs.declared.store.Store.{Store}
use Rattle.pool_slots.specs.Ready.{IsReadyStore, IsHeldStore}
use Rattle.pool_slots.specs.Slots.{AddsRecord, start_steps}
use Rattle.pool_moves.specs.Moves.{Starts}
use Rattle.pool_moves.specs.Ready.{IsOwn}
use Rattle.pool_moves.proofs.InstantLemmas.{runs_none}
use Rattle.pool_moves.proofs.LosingLemmas.{loses_none, loses_slot}
use Rattle.pool_moves.proofs.ReadyLemmas.{ready_on, held_on, never_none}
use Rattle.pool_moves.proofs.SlotLemmas.{start_moments, own_later, ready_later, held_later, started_later, some_same, keeps_on}
use Rattle.pool_core.specs.Pools.{layout_of}
use Rattle.pool_core.proofs.StoreLemmas.{ok_failed, memory_failed}
use Rattle.pool_core.proofs.pool.Pool.start_slot.Goals as goal

pub returns-then-not-has_room-clause-ready : goal.returns-then-not-has_room-clause-ready
returns-then-not-has_room-clause-ready g c fine = record { ready = c.requires.ready; held = λ held. held }

pub returns-then-not-has_room-clause-any_moment : goal.returns-then-not-has_room-clause-any_moment
returns-then-not-has_room-clause-any_moment g c joined held newest member =
    runs_none g.R.Rig.clock g.R.Rig.images (Starts (layout_of c.args.self.now) c.args.epoch joined c.args.base.now) (layout_of c.args.self.now) c.args.rig.now

pub returns-in-Ok-clause-any_moment : goal.returns-in-Ok-clause-any_moment
returns-in-Ok-clause-any_moment g c joined held newest member =
    let m = c.requires.may in
    let r = c.requires.ready in
    start_moments g.R.Rig.clock g.R.Rig.images c.args.rig.now c.start_stored.new.rig (g.R.Rig.reads c.args.rig.now) c.texts_have_one_story.ensures c.texts_have_one_map.ensures
    (layout_of c.args.self.now) r.positive r.few c.args.self.now.map held.held_map c.args.slot m.store (r.own.each c.args.slot m.store m.there) (held.stores.each c.args.slot m.store m.there)
    c.args.epoch joined c.args.base.now m.older member newest (c.start_stored.ensures.any_moment m.store m.there)

pub returns-in-Err-NoMemory-clause-any_moment : goal.returns-in-Err-NoMemory-clause-any_moment
returns-in-Err-NoMemory-clause-any_moment g c joined held newest member =
    let m = c.requires.may in
    let r = c.requires.ready in
    start_moments g.R.Rig.clock g.R.Rig.images c.args.rig.now c.start_stored.new.rig (g.R.Rig.reads c.args.rig.now) c.texts_have_one_story.ensures c.texts_have_one_map.ensures
    (layout_of c.args.self.now) r.positive r.few c.args.self.now.map held.held_map c.args.slot m.store (r.own.each c.args.slot m.store m.there) (held.stores.each c.args.slot m.store m.there)
    c.args.epoch joined c.args.base.now m.older member newest (c.start_stored.ensures.any_moment m.store m.there)

pub returns-in-Ok-clause-ready : goal.returns-in-Ok-clause-ready
returns-in-Ok-clause-ready g c fine =
    let m = c.requires.may in
    let r = c.requires.ready in
    let s = c.args.self.now in
    let l = layout_of s in
    let slot = c.args.slot in
    let old = c.args.rig.now in
    let new = c.start_stored.new.rig in
    let reads = g.R.Rig.reads old in
    let images = g.R.Rig.images old (g.R.Rig.clock old) in
    let reads_then = g.R.Rig.reads new in
    let images_then = g.R.Rig.images new (g.R.Rig.clock new) in
    let steps = start_steps c.args.epoch c.args.base.now (told_in m.store).shard.state.head in
    let kept = c.start_stored.ensures.kept in
    let lent = c.in-Ok.ensures.lent m.store m.there in
    let own = own_later l slot m.store lent.0 (r.own.each slot m.store m.there) lent.2 in
    let apart : 16 ≢ slot = λ e. omega (arith, e, c.requires.slot) in
    let here : (p : ℕ) → g.R.Rig.is_here old p → g.R.Rig.is_here new p = λ p is. (kept.here p).0 is in
    let run = c.start_stored.ensures.any_moment m.store m.there in
    let law = c.maps_stay_held.ensures.elsewhere in
    record {
      ready = ready_on g.R.Rig.is_here g.R.Rig.reads g.R.Rig.clock g.R.Rig.images old new slot (AddsRecord reads images m.store steps) here kept.reads run law apart
          l s.map s.shelf c.start_stored.new.shelf c.start_stored.ensures.others r
          (λ store there.
          subst (λ (x : Store). IsOwn l slot x × IsReadyStore (g.R.Rig.is_here new) reads_then images_then slot x) (some_same lent.0 store (sym lent.1 ∙ there)) (
            own,
            ready_later reads reads_then images images_then m.store lent.0 (g.R.Rig.is_here new) l slot steps
                (here slot (r.stores.each slot m.store m.there).here) own lent.3,
          ));
      held = λ held. held_on g.R.Rig.is_here g.R.Rig.reads g.R.Rig.clock g.R.Rig.images old new slot (AddsRecord reads images m.store steps) here kept.reads run law apart
          l s.map s.shelf c.start_stored.new.shelf c.start_stored.ensures.others r.own held
          (λ store there.
          subst (λ (x : Store). IsHeldStore reads_then images_then x) (some_same lent.0 store (sym lent.1 ∙ there))
          (held_later reads reads_then images images_then m.store lent.0 steps (held.stores.each slot m.store m.there) lent.3));
    }

pub returns-in-Ok-clause-started : goal.returns-in-Ok-clause-started
returns-in-Ok-clause-started g c =
    let m = c.requires.may in
    let lent = c.in-Ok.ensures.lent m.store m.there in
    started_later (g.R.Rig.reads c.args.rig.now) (g.R.Rig.reads c.start_stored.new.rig) (g.R.Rig.images c.args.rig.now (g.R.Rig.clock c.args.rig.now))
    (g.R.Rig.images c.start_stored.new.rig (g.R.Rig.clock c.start_stored.new.rig)) m.store lent.0 c.args.self.now.shelf c.start_stored.new.shelf c.args.epoch c.args.slot c.args.base.now m.whole lent.1 lent.3

pub returns-in-Ok-clause-map_faults : goal.returns-in-Ok-clause-map_faults
returns-in-Ok-clause-map_faults g c = c.start_stored.ensures.kept.counts.faults 16 (λ e. omega (arith, e, c.requires.slot))

pub returns-in-Err-NoMemory-clause-map_faults : goal.returns-in-Err-NoMemory-clause-map_faults
returns-in-Err-NoMemory-clause-map_faults g c = c.start_stored.ensures.kept.counts.faults 16 (λ e. omega (arith, e, c.requires.slot))

pub returns-in-Err-Failed-clause-map_faults : goal.returns-in-Err-Failed-clause-map_faults
returns-in-Err-Failed-clause-map_faults g c = c.start_stored.ensures.kept.counts.faults 16 (λ e. omega (arith, e, c.requires.slot))

pub returns-in-Err-Failed-clause-others : goal.returns-in-Err-Failed-clause-others
returns-in-Err-Failed-clause-others g c = keeps_on c.args.self.now.shelf c.start_stored.new.shelf c.drop_slot.new.self c.args.slot c.start_stored.ensures.others c.drop_slot.ensures.others

pub returns-in-Err-Failed-clause-ready : goal.returns-in-Err-Failed-clause-ready
returns-in-Err-Failed-clause-ready g c fine =
    let m = c.requires.may in
    let r = c.requires.ready in
    let s = c.args.self.now in
    let l = layout_of s in
    let slot = c.args.slot in
    let old = c.args.rig.now in
    let new = c.start_stored.new.rig in
    let reads = g.R.Rig.reads old in
    let images = g.R.Rig.images old (g.R.Rig.clock old) in
    let steps = start_steps c.args.epoch c.args.base.now (told_in m.store).shard.state.head in
    let kept = c.start_stored.ensures.kept in
    let apart : 16 ≢ slot = λ e. omega (arith, e, c.requires.slot) in
    let keeps = keeps_on s.shelf c.start_stored.new.shelf c.drop_slot.new.self slot c.start_stored.ensures.others c.drop_slot.ensures.others in
    let here : (p : ℕ) → g.R.Rig.is_here old p → g.R.Rig.is_here new p = λ p is. (kept.here p).0 is in
    let run = c.start_stored.ensures.any_moment m.store m.there in
    let law = c.maps_stay_held.ensures.elsewhere in
    record {
      ready = ready_on g.R.Rig.is_here g.R.Rig.reads g.R.Rig.clock g.R.Rig.images old new slot (AddsRecord reads images m.store steps) here kept.reads run law apart
          l s.map s.shelf c.drop_slot.new.self keeps r (λ store there. absurd (never_none store (sym c.drop_slot.ensures.value ∙ there)));
      held = λ held. held_on g.R.Rig.is_here g.R.Rig.reads g.R.Rig.clock g.R.Rig.images old new slot (AddsRecord reads images m.store steps) here kept.reads run law apart
          l s.map s.shelf c.drop_slot.new.self keeps r.own held (λ store there. absurd (never_none store (sym c.drop_slot.ensures.value ∙ there)));
    }

pub returns-in-Err-Failed-clause-any_moment : goal.returns-in-Err-Failed-clause-any_moment
returns-in-Err-Failed-clause-any_moment g c joined held newest member =
    let m = c.requires.may in
    let r = c.requires.ready in
    start_moments g.R.Rig.clock g.R.Rig.images c.args.rig.now c.start_stored.new.rig (g.R.Rig.reads c.args.rig.now) c.texts_have_one_story.ensures c.texts_have_one_map.ensures
    (layout_of c.args.self.now) r.positive r.few c.args.self.now.map held.held_map c.args.slot m.store (r.own.each c.args.slot m.store m.there) (held.stores.each c.args.slot m.store m.there)
    c.args.epoch joined c.args.base.now m.older member newest (c.start_stored.ensures.any_moment m.store m.there)

pub start_stored-requires-clause-ready : goal.start_stored-requires-clause-ready
start_stored-requires-clause-ready g c = λ store there. c.requires.ready.stores.each c.args.slot store there

pub returns-then-not-has_room-clause-worn : goal.returns-then-not-has_room-clause-worn
returns-then-not-has_room-clause-worn g c worn =
    let m = c.requires.may in
    record { p = c.args.slot; store = m.store; there = m.there; full = c.has_room.ensures.full c.if-not-has_room.true m.store m.there }

pub returns-then-not-has_room-clause-loses : goal.returns-then-not-has_room-clause-loses
returns-then-not-has_room-clause-loses g c = loses_none (g.R.Rig.faults c.args.rig.now) c.args.self.now.shelf

pub returns-in-Ok-clause-loses : goal.returns-in-Ok-clause-loses
returns-in-Ok-clause-loses g c =
    let m = c.requires.may in
    let lent = c.in-Ok.ensures.lent m.store m.there in
    loses_slot (g.R.Rig.faults c.args.rig.now) (g.R.Rig.faults c.start_stored.new.rig) c.args.self.now.shelf c.start_stored.new.shelf c.args.slot c.start_stored.ensures.others
    c.start_stored.ensures.kept.counts.faults (inl (c.in-Ok.ensures.only_if_fault.quiet (ok_failed c.in-Ok.field-0))) (inl (ap (λ (o : Option Store). is_some o) lent.1))

pub returns-in-Err-NoMemory-clause-loses : goal.returns-in-Err-NoMemory-clause-loses
returns-in-Err-NoMemory-clause-loses g c =
    let m = c.requires.may in
    let lent = c.start_stored.ensures.lent m.store m.there in
    loses_slot (g.R.Rig.faults c.args.rig.now) (g.R.Rig.faults c.start_stored.new.rig) c.args.self.now.shelf c.start_stored.new.shelf c.args.slot c.start_stored.ensures.others
    c.start_stored.ensures.kept.counts.faults (inl (c.in-Err-NoMemory.ensures.only_if_fault.quiet (memory_failed c.in-Err-NoMemory.field-0 c.in-Err-NoMemory.field-0-is)))
    (inl (ap (λ (o : Option Store). is_some o) lent.1))

pub returns-in-Err-Failed-clause-loses : goal.returns-in-Err-Failed-clause-loses
returns-in-Err-Failed-clause-loses g c =
    let rose = c.in-Err-Failed.ensures.only_if_fault.failed (ap Err c.in-Err-Failed.field-0-is) in
    loses_slot (g.R.Rig.faults c.args.rig.now) (g.R.Rig.faults c.start_stored.new.rig) c.args.self.now.shelf c.drop_slot.new.self c.args.slot
    (keeps_on c.args.self.now.shelf c.start_stored.new.shelf c.drop_slot.new.self c.args.slot c.start_stored.ensures.others c.drop_slot.ensures.others)
    c.start_stored.ensures.kept.counts.faults (inr rose) (inr rose)

use Rattle.std.proofs.Common.{◌∙◌, is_some, refl, sym, ap, subst, arith}
use Rattle.std.proofs.lemmas.Bool.{false≢true}
use Rattle.std.specs.declared.option.Option.{Option}
use Rattle.shard_store.specs.declared.store.Store.{Store}
use Rattle.pool_map.specs.declared.map.PoolMap.{PoolMap}
use Rattle.pool_moves.specs.Contents.{Layout}
use Rattle.pool_moves.specs.Ready.{IsReady, IsHeld}
use Rattle.pool_moves.proofs.LoopLemmas.{far_none, far_past, far_slot, slot_run, held_now, count_same, count_less, ok_err}
use Rattle.pool_moves.proofs.LosingLemmas.{loses_none, loses_on, same_slots}
use Rattle.pool_core.specs.Pools.{layout_of}
use Rattle.pool_core.specs.declared.activation.StartFault.TheVariants.{NoMemory}
use Rattle.pool_core.proofs.pool.Pool.start_joined.Goals as goal
use Rattle.pool_core.proofs.pool.Pool.start_joined.Goals.{then-has+in-Ok, else-has}

pub loop-p-init : goal.loop-p-init
loop-p-init g c = record {
  map = refl;
  layout = refl;
  least = refl;
  count = refl;
  slots = λ p. refl;
  loses = loses_none (g.R.Rig.faults c.args.rig.now) c.args.self.now.shelf;
  map_faults = refl;
  starting = far_none (layout_of c.args.self.now) g.R.Rig.is_here g.R.Rig.reads g.R.Rig.clock g.R.Rig.images c.args.rig.now c.args.self.now.map c.args.self.now.shelf c.args.joined.0 c.args.epoch c.args.base.now
      c.requires.ready c.requires.may;
}

pub start_slot-requires-clause-may : goal.start_slot-requires-clause-may
start_slot-requires-clause-may g c = c.loop-p.invariant.starting.waiting c.loop-p.p (omega arith) c.loop-p-test.true (c.has.ensures.0 c.if-has.true)

pub returns-clause-started : goal.returns-clause-started
returns-clause-started g c = λ p below member. c.loop-p.invariant.starting.started p (omega (arith, below, c.loop-p-test.false)) member

pub returns-clause-ready : goal.returns-clause-ready
returns-clause-ready g c fine =
    let v = c.loop-p.invariant in
    let s = c.loop-p.self in
    let rig = c.loop-p.rig in
    let reads = g.R.Rig.reads rig in
    let images = g.R.Rig.images rig (g.R.Rig.clock rig) in
    record {
      ready = subst (λ (m : PoolMap). IsReady (layout_of c.args.self.now) (g.R.Rig.is_here rig) reads images m s.shelf) (sym v.map) v.starting.ready;
      held = λ held. subst (λ (m : PoolMap). IsHeld reads images m s.shelf) (sym v.map) (v.starting.held held);
    }

pub loop-p-preserved : goal.loop-p-preserved
loop-p-preserved g c =
    let v = c.loop-p.invariant in
    let s = c.args.self.now in
    let p = c.loop-p.p in
    elim c.if-has.branch [
      | then-has+in-Ok w ↦
          let member = c.has.ensures.0 w.if-has.true in
          let fine = ok_err w.in-Ok.field-0 NoMemory in
          let m = v.starting.waiting p (omega arith) c.loop-p-test.true member in
          let started = w.in-Ok.ensures.started in
          let stays = w.in-Ok.ensures.ready fine in
          let same = w.start_slot.ensures.same.0 ∙ v.map in
          let still = ap (λ (o : Option Store). is_some o) started.there ∙ sym (ap (λ (o : Option Store). is_some o) m.there) in
          rw (w.self-is, w.rig-is) (record {
            map = same;
            layout = w.start_slot.ensures.same.1 ∙ v.layout;
            least = w.start_slot.ensures.same.2 ∙ v.least;
            count = count_same c.loop-p.self.shelf w.start_slot.new.self.shelf p 16 w.start_slot.ensures.others still ∙ v.count;
            slots = λ q. same_slots c.loop-p.self.shelf w.start_slot.new.self.shelf p w.start_slot.ensures.others still q ∙ v.slots q;
            loses = loses_on (g.R.Rig.faults c.args.rig.now) (g.R.Rig.faults c.loop-p.rig) (g.R.Rig.faults w.start_slot.new.rig) s.shelf c.loop-p.self.shelf w.start_slot.new.self.shelf
                v.loses w.start_slot.ensures.loses;
            map_faults = w.start_slot.ensures.map_faults ∙ v.map_faults;
            starting = far_slot (layout_of s) g.R.Rig.is_here g.R.Rig.reads g.R.Rig.clock g.R.Rig.images c.args.rig.now s.map s.shelf c.args.joined.0 c.args.epoch c.args.base.now
                c.loop-p.rig w.start_slot.new.rig c.loop-p.self.shelf w.start_slot.new.self.shelf (layout_of c.loop-p.self) c.loop-p.self.map v.layout v.map p v.starting
                (λ h n. w.start_slot.ensures.any_moment c.args.joined.0 h n member)
                w.start_slot.new.self.map same member w.start_slot.ensures.others stays.ready stays.held started;
          })
      | else-has w ↦
          rw (w.self-is, w.rig-is) (record {
            map = v.map;
            layout = v.layout;
            least = v.least;
            count = v.count;
            slots = v.slots;
            loses = v.loses;
            map_faults = v.map_faults;
            starting = far_past (layout_of s) g.R.Rig.is_here g.R.Rig.reads g.R.Rig.clock g.R.Rig.images c.args.rig.now s.map s.shelf c.args.joined.0 c.args.epoch c.args.base.now
                c.loop-p.rig c.loop-p.self.shelf p (λ m. false≢true (sym w.if-has.false ∙ c.has.ensures.1 m)) v.starting;
          })
    ]

pub returns-in-Err-clause-ready : goal.returns-in-Err-clause-ready
returns-in-Err-clause-ready g c fine =
    let v = c.loop-p.invariant in
    let s = c.args.self.now in
    let l = layout_of s in
    let rig = c.start_slot.new.rig in
    let stays = c.in-Err.ensures.ready fine in
    record {
      ready = subst (λ (x : Layout). IsReady x (g.R.Rig.is_here rig) (g.R.Rig.reads rig) (g.R.Rig.images rig (g.R.Rig.clock rig)) c.start_slot.new.self.map c.start_slot.new.self.shelf) v.layout stays.ready;
      held = λ held. stays.held (held_now l g.R.Rig.is_here g.R.Rig.reads g.R.Rig.clock g.R.Rig.images c.args.rig.now s.map s.shelf c.args.joined.0 c.args.epoch c.args.base.now
          c.loop-p.rig rig c.loop-p.self.shelf c.start_slot.new.self.shelf (layout_of c.loop-p.self) c.loop-p.self.map v.layout v.map c.loop-p.p v.starting
          (λ h newest. c.start_slot.ensures.any_moment c.args.joined.0 h newest (c.has.ensures.0 c.if-has.true)) held);
    }

pub returns-in-Err-clause-fewer : goal.returns-in-Err-clause-fewer
returns-in-Err-clause-fewer g c lost =
    let f = c.loop-p.invariant.starting in
    let m = f.waiting c.loop-p.p (omega arith) c.loop-p-test.true (c.has.ensures.0 c.if-has.true) in
    let less = count_less c.loop-p.self.shelf c.start_slot.new.self.shelf c.loop-p.p 16 (omega (arith, c.loop-p-test.true, c.args.self.now.few)) c.start_slot.ensures.others
    (ap (λ (o : Option Store). is_some o) m.there) (ap (λ (o : Option Store). is_some o) (c.in-Err.ensures.lost lost)) in
    omega (arith, less, c.loop-p.invariant.count)

pub returns-in-Err-clause-any_moment : goal.returns-in-Err-clause-any_moment
returns-in-Err-clause-any_moment g c held newest =
    let v = c.loop-p.invariant in
    let s = c.args.self.now in
    slot_run (layout_of s) g.R.Rig.is_here g.R.Rig.reads g.R.Rig.clock g.R.Rig.images c.args.rig.now s.map s.shelf c.args.joined.0 c.args.epoch c.args.base.now
    c.loop-p.rig c.start_slot.new.rig c.loop-p.self.shelf c.start_slot.new.self.shelf (layout_of c.loop-p.self) c.loop-p.self.map v.layout v.map c.loop-p.p v.starting
    (λ h n. c.start_slot.ensures.any_moment c.args.joined.0 h n (c.has.ensures.0 c.if-has.true)) held newest

pub returns-clause-slots : goal.returns-clause-slots
returns-clause-slots g c = c.loop-p.invariant.slots

pub returns-clause-loses : goal.returns-clause-loses
returns-clause-loses g c = c.loop-p.invariant.loses

pub returns-in-Err-clause-loses : goal.returns-in-Err-clause-loses
returns-in-Err-clause-loses g c =
    loses_on (g.R.Rig.faults c.args.rig.now) (g.R.Rig.faults c.loop-p.rig) (g.R.Rig.faults c.start_slot.new.rig) c.args.self.now.shelf c.loop-p.self.shelf c.start_slot.new.self.shelf
    c.loop-p.invariant.loses c.start_slot.ensures.loses

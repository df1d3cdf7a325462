use Rattle.std.proofs.Common.{rules, ◌∙◌, Option, Ok, Err, refl, subst, ap, arith}
use Rattle.pool_map.specs.Pool.{map_of}
use Rattle.pool_moves.specs.Contents.{Layout}
use Rattle.pool_moves.specs.Ready.{IsReady}
use Rattle.pool_moves.specs.Turns.{AreComplete}
use Rattle.pool_moves.proofs.LosingLemmas.{loses_none, loses_on}
use Rattle.pool_moves.proofs.RoundLemmas.{gone_none, gone_run, gone_on}
use Rattle.pool_core.specs.Pools.{layout_of}
use Rattle.pool_core.specs.States.{HasTurned}
use Rattle.pool_core.specs.declared.fault.PoolFault.TheVariants.{Worn}
use Rattle.pool_core.specs.declared.state.State.{State}
use Rattle.pool_core.specs.declared.state.State.TheVariants.{Active}
use Rattle.pool_core.proofs.FaultLemmas.{cause_as, still_ok, ok_apart, err_same}
use Rattle.pool_core.proofs.StateLemmas.{some_ok}
use Rattle.pool_core.proofs.pool.Pool.start.Goals as goal

pub loop-round-init : goal.loop-round-init
loop-round-init g c = record {
  layout = refl;
  least = refl;
  later = omega arith;
  loses = loses_none (g.R.Rig.faults c.args.rig.now) c.args.self.now.shelf;
  map_faults = refl;
  gone = gone_none ((goal.Code-dyn g c.args.code.now).meaning c.args.code.now.1) (layout_of c.args.self.now) g.R.Rig.is_here g.R.Rig.reads g.R.Rig.clock g.R.Rig.images
      c.args.rig.now c.args.self.now.map c.args.self.now.shelf c.requires.ready;
}

pub loop-round-preserved : goal.loop-round-preserved
loop-round-preserved g c =
    let s = c.loop-round.self in
    let v = c.loop-round.invariant in
    let stays = c.in-Ok-None.ensures.ready in
    record {
      layout = c.turn.ensures.same.0 ∙ v.layout;
      least = c.turn.ensures.same.1 ∙ v.least;
      later = let more = c.in-Ok-None.ensures.later in let was = v.later in omega (arith, was, more);
      loses = loses_on (g.R.Rig.faults c.args.rig.now) (g.R.Rig.faults c.loop-round.rig) (g.R.Rig.faults c.turn.new.rig) c.args.self.now.shelf s.shelf c.turn.new.self.shelf v.loses c.turn.ensures.loses;
      map_faults = c.in-Ok-None.ensures.only_if_fault.quiet (ok_apart _) ∙ v.map_faults;
      gone = gone_on ((goal.Code-dyn g c.args.code.now).meaning c.args.code.now.1) (layout_of c.args.self.now) g.R.Rig.is_here g.R.Rig.reads g.R.Rig.clock g.R.Rig.images
          c.args.rig.now c.args.self.now.map c.args.self.now.shelf c.loop-round.rig c.turn.new.rig s.map s.shelf c.loop-round.round (layout_of s)
          v.layout v.gone c.turn.ensures.any_moment
          c.turn.new.self.map c.turn.new.self.shelf (c.in-Ok-None.ensures.fewer (ap (λ (o : Option State). Ok o) c.in-Ok-None.field-0-is)) stays.ready stays.held;
    }

pub returns-in-Err-clause-any_moment : goal.returns-in-Err-clause-any_moment
returns-in-Err-clause-any_moment g c =
    let s = c.loop-round.self in
    gone_run ((goal.Code-dyn g c.args.code.now).meaning c.args.code.now.1) (layout_of c.args.self.now) g.R.Rig.is_here g.R.Rig.reads g.R.Rig.clock g.R.Rig.images
    c.args.rig.now c.args.self.now.map c.args.self.now.shelf c.loop-round.rig c.turn.new.rig s.map s.shelf c.loop-round.round (layout_of s)
    c.loop-round.invariant.layout c.loop-round.invariant.gone c.turn.ensures.any_moment

pub returns-in-Ok-Some-clause-any_moment : goal.returns-in-Ok-Some-clause-any_moment
returns-in-Ok-Some-clause-any_moment g c =
    let s = c.loop-round.self in
    gone_run ((goal.Code-dyn g c.args.code.now).meaning c.args.code.now.1) (layout_of c.args.self.now) g.R.Rig.is_here g.R.Rig.reads g.R.Rig.clock g.R.Rig.images
    c.args.rig.now c.args.self.now.map c.args.self.now.shelf c.loop-round.rig c.turn.new.rig s.map s.shelf c.loop-round.round (layout_of s)
    c.loop-round.invariant.layout c.loop-round.invariant.gone c.turn.ensures.any_moment

pub returns-in-Ok-Some-clause-ready : goal.returns-in-Ok-Some-clause-ready
returns-in-Ok-Some-clause-ready g c =
    let v = c.loop-round.invariant in
    let s = c.turn.new.self in
    let rig = c.turn.new.rig in
    let stays = c.in-Ok-Some.ensures.ready in
    record {
      ready = subst (λ (x : Layout). IsReady x (g.R.Rig.is_here rig) (g.R.Rig.reads rig) (g.R.Rig.images rig (g.R.Rig.clock rig)) s.map s.shelf) v.layout stays.ready;
      held = λ held. stays.held (v.gone.held held);
    }

pub returns-in-Ok-Some-clause-active : goal.returns-in-Ok-Some-clause-active
returns-in-Ok-Some-clause-active g c epoch joined is held =
    let rig = c.turn.new.rig in
    subst (λ (x : Layout). AreComplete x (g.R.Rig.images rig (g.R.Rig.clock rig)) epoch joined.0) c.loop-round.invariant.layout
    (c.in-Ok-Some.ensures.active epoch joined (ap (λ (o : Option State). Ok o) c.in-Ok-Some.field-0-is ∙ some_ok c.in-Ok-Some.state (Active epoch joined) is) (c.loop-round.invariant.gone.held held))

pub returns-in-Ok-Some-clause-turned : goal.returns-in-Ok-Some-clause-turned
returns-in-Ok-Some-clause-turned g c =
    let v = c.loop-round.invariant in
    let one = c.loop-round.self in
    let s = c.turn.new.self in
    let state = c.in-Ok-Some.state in
    let code = (goal.Code-dyn g c.args.code.now).meaning c.args.code.now.1 in
    record {
      m = map_of one.map;
      before = one.shelf;
      later = v.later;
      turned = subst (λ n. HasTurned code c.args.self.now.n (map_of one.map) (map_of s.map) one.shelf s.shelf n state) v.least
          (subst (λ (x : Layout). HasTurned code x.n (map_of one.map) (map_of s.map) one.shelf s.shelf one.min_size state) v.layout
          (c.in-Ok-Some.ensures.turned state (ap (λ (o : Option State). Ok o) c.in-Ok-Some.field-0-is)));
    }

pub returns-in-Ok-Some-clause-loses : goal.returns-in-Ok-Some-clause-loses
returns-in-Ok-Some-clause-loses g c =
    loses_on (g.R.Rig.faults c.args.rig.now) (g.R.Rig.faults c.loop-round.rig) (g.R.Rig.faults c.turn.new.rig) c.args.self.now.shelf c.loop-round.self.shelf c.turn.new.self.shelf
    c.loop-round.invariant.loses c.turn.ensures.loses

pub returns-in-Err-clause-loses : goal.returns-in-Err-clause-loses
returns-in-Err-clause-loses g c =
    loses_on (g.R.Rig.faults c.args.rig.now) (g.R.Rig.faults c.loop-round.rig) (g.R.Rig.faults c.turn.new.rig) c.args.self.now.shelf c.loop-round.self.shelf c.turn.new.self.shelf
    c.loop-round.invariant.loses c.turn.ensures.loses

pub returns-in-Ok-Some-clause-only_if_fault : goal.returns-in-Ok-Some-clause-only_if_fault
returns-in-Ok-Some-clause-only_if_fault g c = still_ok _ _ _ (c.in-Ok-Some.ensures.only_if_fault.quiet (ok_apart _) ∙ c.loop-round.invariant.map_faults)

pub returns-in-Err-clause-only_if_fault : goal.returns-in-Err-clause-only_if_fault
returns-in-Err-clause-only_if_fault g c = cause_as _ _ _ c.in-Err.fault c.loop-round.invariant.map_faults c.in-Err.ensures.only_if_fault

pub returns-in-Err-clause-worn : goal.returns-in-Err-clause-worn
returns-in-Err-clause-worn g c is = c.in-Err.ensures.worn (ap Err (err_same c.in-Err.fault Worn is))

pub unreachable-requires : goal.unreachable-requires
unreachable-requires g c = search rules

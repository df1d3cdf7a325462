use Rattle.std.proofs.Common.{◌≡◌, ◌<◌, ◌∙◌, inl, inr, ℕ, Result, Option, Ok, Err, refl, sym, ap, subst, arith}
use Rattle.rig_disk.specs.During.{During}
use Rattle.ec_words.specs.declared.mask.Mask.{Mask}
use Rattle.auth_log.specs.Meanings.{state_of}
use Rattle.map_model.specs.States.{kept}
use Rattle.shard_store.specs.Shelved.{Shelved}
use Rattle.pool_map.specs.Pool.{map_of}
use Rattle.pool_moves.specs.Choosing.{AreUp, ComeTo}
use Rattle.pool_moves.specs.Contents.{Layout}
use Rattle.pool_moves.specs.Instants.{MovedFrom}
use Rattle.pool_moves.specs.Moves.{Begins, Move}
use Rattle.pool_moves.specs.Ready.{IsReady, AreOwn}
use Rattle.pool_moves.specs.Turns.{AreComplete, stores_below}
use Rattle.pool_moves.proofs.DecideLemmas.{may_serve}
use Rattle.pool_moves.proofs.InstantLemmas.{runs_on, runs_wider}
use Rattle.pool_moves.proofs.LosingLemmas.{loses_on}
use Rattle.pool_moves.proofs.TurnLemmas.{up_is_below, epoch_is, has_begun_last, later_on}
use Rattle.pool_core.specs.Pools.{layout_of}
use Rattle.pool_core.specs.declared.fault.PoolFault.{PoolFault}
use Rattle.pool_core.specs.declared.state.State.{State}
use Rattle.pool_core.specs.declared.state.State.TheVariants.{Active, Short, Down}
use Rattle.pool_map.specs.declared.fault.MapFault.{MapFault}
use Rattle.pool_map.specs.declared.fault.MapFault.TheVariants as map
use Rattle.pool_core.specs.Faults.{HasTurnCause}
use Rattle.pool_core.specs.declared.fault.PoolFault.TheVariants.{Worn}
use Rattle.pool_core.proofs.FaultLemmas.{map_cause, still_ok, worn_fault, err_same, on_ok}
use Rattle.pool_core.specs.States.{HasTurned, meant_of, with_begun}
use Rattle.pool_core.proofs.StateLemmas.{come_over, served_over, same_some, err_some, same_active}
use Rattle.pool_core.proofs.pool.Pool.turn.Goals as goal

pub begin-requires-clause-below : goal.begin-requires-clause-below
begin-requires-clause-below g c = up_is_below (layout_of c.args.self.now) c.args.self.now.shelf c.up-up.result.0 c.requires.ready.own c.up-up.ensures

pub found-found-requires-clause-own : goal.found-found-requires-clause-own
found-found-requires-clause-own g c = subst (λ (x : Layout). AreOwn x c.begin.new.self.shelf) (sym c.begin.ensures.same.1) c.in-Ok.ensures.ready.ready.own

pub found-found-requires-clause-up : goal.found-found-requires-clause-up
found-found-requires-clause-up g c = subst (λ (x : Shelved). AreUp x c.up-up.result.0) (sym c.begin.ensures.same.0) c.up-up.ensures

pub found-found-requires-clause-accepted : goal.found-found-requires-clause-accepted
found-found-requires-clause-accepted g c p store there = (c.in-Ok.ensures.ready.ready.stores.each p store there).idle.accepted

pub serve-requires-clause-epoch : goal.serve-requires-clause-epoch
serve-requires-clause-epoch g c = c.in-Ok.ensures.epoch ∙ sym (epoch_is (map_of c.args.self.now.map) (map_of c.begin.new.self.map) c.up-up.result.0 c.in-Ok.ensures.step.0)

pub serve-requires-clause-may : goal.serve-requires-clause-may
serve-requires-clause-may g c =
    let s = c.begin.new.self in
    let m = map_of s.map in
    let code = (goal.Code-dyn g c.args.code.now).meaning c.args.code.now.1 in
    let found = c.found-found.result in
    let come_to = subst (λ x. ComeTo code (kept m.state) s.shelf c.up-up.result.0 s.min_size found.version c.found-found.ensures.0 (state_of x)) c.in-Active.is c.found-found.ensures.1 in (
      code,
      c.up-up.result.0,
      subst (λ (x : Shelved). AreUp x c.up-up.result.0) (sym c.begin.ensures.same.0) c.up-up.ensures,
      may_serve code m s.shelf c.up-up.result.0 s.min_size c.found-found.ensures.0 c.in-Active.joined.0 found.version s.map.sound
          (has_begun_last (map_of c.args.self.now.map) m c.up-up.result.0 c.in-Ok.ensures.step.0) s.some come_to,
    )

pub returns-in-Active-clause-ready : goal.returns-in-Active-clause-ready
returns-in-Active-clause-ready g c =
    let new = c.serve.new.rig in
    let s = c.serve.new.self in
    on_ok c.serve.result (λ stays. record {
      ready = subst (λ (x : Layout). IsReady x (g.R.Rig.is_here new) (g.R.Rig.reads new) (g.R.Rig.images new (g.R.Rig.clock new)) s.map s.shelf) c.begin.ensures.same.1 stays.ready;
      held = λ held. stays.held (c.in-Ok.ensures.ready.held held);
    }) c.serve.ensures.ready

pub returns-in-Active-clause-fewer : goal.returns-in-Active-clause-fewer
returns-in-Active-clause-fewer g c is =
    subst (λ (x : Shelved). stores_below c.serve.new.self.shelf 16 < stores_below x 16) c.begin.ensures.same.0 (c.serve.ensures.fewer is)

pub returns-in-Active-clause-active : goal.returns-in-Active-clause-active
returns-in-Active-clause-active g c epoch joined is held =
    let images = g.R.Rig.images c.serve.new.rig (g.R.Rig.clock c.serve.new.rig) in
    let both = c.serve.ensures.active (Active epoch joined) is in
    let same = same_active epoch c.in-Ok.epoch joined c.in-Active.joined both.0 in
    subst (λ (x : Layout). AreComplete x images epoch joined.0) c.begin.ensures.same.1
    (subst (λ e. AreComplete (layout_of c.begin.new.self) images e joined.0) (sym same.0)
    (subst (λ (m : Mask). AreComplete (layout_of c.begin.new.self) images c.in-Ok.epoch m.0) (sym same.1) (both.1 (c.in-Ok.ensures.ready.held held))))

pub returns-in-Err-clause-turned : goal.returns-in-Err-clause-turned
returns-in-Err-clause-turned g c state e = absurd (err_some c.of_map.result state e)

pub returns-in-Down-clause-turned : goal.returns-in-Down-clause-turned
returns-in-Down-clause-turned g c state e =
    let s = c.begin.new.self in
    let before = c.args.self.now in
    let m = map_of before.map in
    let code = (goal.Code-dyn g c.args.code.now).meaning c.args.code.now.1 in
    let found = c.found-found.result in
    let up = c.up-up.result.0 in
    let own = Down c.in-Down.epoch c.in-Down.up in
    subst (λ (x : State). HasTurned code before.n m (map_of s.map) before.shelf s.shelf before.min_size x) (same_some own state e) (record {
      up = up;
      are_up = c.up-up.ensures;
      version = found.version;
      holding = c.found-found.ensures.0;
      come_to = come_over code m (map_of s.map) before.shelf s.shelf up before.min_size s.min_size found.version c.found-found.ensures.0 (state_of found.state) (meant_of own)
          c.in-Ok.ensures.step.0 c.begin.ensures.same.0 c.begin.ensures.same.2 (ap state_of c.in-Down.is) c.found-found.ensures.1;
      followed = (c.in-Ok.ensures.step.0, c.begin.ensures.same.0);
    })

pub returns-in-Short-clause-turned : goal.returns-in-Short-clause-turned
returns-in-Short-clause-turned g c state e =
    let s = c.begin.new.self in
    let before = c.args.self.now in
    let m = map_of before.map in
    let code = (goal.Code-dyn g c.args.code.now).meaning c.args.code.now.1 in
    let found = c.found-found.result in
    let up = c.up-up.result.0 in
    let own = Short c.in-Short.joined c.in-Short.min in
    subst (λ (x : State). HasTurned code before.n m (map_of s.map) before.shelf s.shelf before.min_size x) (same_some own state e) (record {
      up = up;
      are_up = c.up-up.ensures;
      version = found.version;
      holding = c.found-found.ensures.0;
      come_to = come_over code m (map_of s.map) before.shelf s.shelf up before.min_size s.min_size found.version c.found-found.ensures.0 (state_of found.state) (meant_of own)
          c.in-Ok.ensures.step.0 c.begin.ensures.same.0 c.begin.ensures.same.2 (ap state_of c.in-Short.is) c.found-found.ensures.1;
      followed = (c.in-Ok.ensures.step.0, c.begin.ensures.same.0);
    })

pub returns-in-Active-clause-turned : goal.returns-in-Active-clause-turned
returns-in-Active-clause-turned g c state e =
    let s = c.begin.new.self in
    let before = c.args.self.now in
    let m = map_of before.map in
    let code = (goal.Code-dyn g c.args.code.now).meaning c.args.code.now.1 in
    let found = c.found-found.result in
    let up = c.up-up.result.0 in
    let own = Active c.in-Ok.epoch c.in-Active.joined in
    let both = c.serve.ensures.active state e in
    let last = c.serve.new.self in
    subst (λ (x : State). HasTurned code before.n m (map_of last.map) before.shelf last.shelf before.min_size x) (sym both.0) (record {
      up = up;
      are_up = c.up-up.ensures;
      version = found.version;
      holding = c.found-found.ensures.0;
      come_to = come_over code m (map_of s.map) before.shelf s.shelf up before.min_size s.min_size found.version c.found-found.ensures.0 (state_of found.state) (meant_of own)
          c.in-Ok.ensures.step.0 c.begin.ensures.same.0 c.begin.ensures.same.2 (ap state_of c.in-Active.is) c.found-found.ensures.1;
      followed = (
        c.in-Ok.ensures.epoch ∙ sym (epoch_is m (with_begun m up) up refl),
        served_over (with_begun m up) (map_of s.map) (map_of last.map) before.shelf s.shelf last.shelf before.n s.n c.in-Ok.epoch c.in-Active.joined.0 found.version
            c.in-Ok.ensures.step.0 c.begin.ensures.same.0 (ap (λ (x : Layout). x.n) c.begin.ensures.same.1) (c.serve.ensures.served state e),
      );
    })

pub returns-in-Down-clause-later : goal.returns-in-Down-clause-later
returns-in-Down-clause-later g c =
    let dated = epoch_is (map_of c.args.self.now.map) (map_of c.begin.new.self.map) c.up-up.result.0 c.in-Ok.ensures.step.0 in
    omega (arith, dated)

pub returns-in-Short-clause-later : goal.returns-in-Short-clause-later
returns-in-Short-clause-later g c =
    let dated = epoch_is (map_of c.args.self.now.map) (map_of c.begin.new.self.map) c.up-up.result.0 c.in-Ok.ensures.step.0 in
    omega (arith, dated)

pub returns-in-Active-clause-later : goal.returns-in-Active-clause-later
returns-in-Active-clause-later g c =
    let before = map_of c.args.self.now.map in
    let dated = epoch_is before (map_of c.begin.new.self.map) c.up-up.result.0 c.in-Ok.ensures.step.0 in
    on_ok c.serve.result (λ same. later_on before (map_of c.begin.new.self.map) (map_of c.serve.new.self.map) dated same) c.serve.ensures.dated

pub returns-in-Err-clause-loses : goal.returns-in-Err-clause-loses
returns-in-Err-clause-loses g c = c.begin.ensures.loses

pub returns-in-Down-clause-loses : goal.returns-in-Down-clause-loses
returns-in-Down-clause-loses g c = c.begin.ensures.loses

pub returns-in-Short-clause-loses : goal.returns-in-Short-clause-loses
returns-in-Short-clause-loses g c = c.begin.ensures.loses

pub returns-in-Active-clause-loses : goal.returns-in-Active-clause-loses
returns-in-Active-clause-loses g c =
    loses_on (g.R.Rig.faults c.args.rig.now) (g.R.Rig.faults c.begin.new.rig) (g.R.Rig.faults c.serve.new.rig) c.args.self.now.shelf c.begin.new.self.shelf c.serve.new.self.shelf
    c.begin.ensures.loses c.serve.ensures.loses

pub returns-in-Err-clause-worn : goal.returns-in-Err-clause-worn
returns-in-Err-clause-worn g c is =
    inl (c.in-Err.ensures.worn (ap Err (worn_fault c.in-Err.fault c.in-Err.ensures.faults (sym c.of_map.ensures ∙ err_same c.of_map.result Worn is))))

pub returns-in-Active-clause-worn : goal.returns-in-Active-clause-worn
returns-in-Active-clause-worn g c is = inr (c.serve.ensures.worn is)

pub returns-in-Err-clause-only_if_fault : goal.returns-in-Err-clause-only_if_fault
returns-in-Err-clause-only_if_fault g c =
    subst (λ (f : PoolFault). HasTurnCause {T = Option State} (g.R.Rig.faults c.args.rig.now 16) (g.R.Rig.faults c.begin.new.rig 16) (Err f)) (sym c.of_map.ensures)
    (map_cause (g.R.Rig.faults c.args.rig.now 16) (g.R.Rig.faults c.begin.new.rig 16) c.in-Err.fault c.in-Err.ensures.faults c.in-Err.ensures.only_if_fault)

map_ok : (x : ℕ) → ◌≡◌ {A = Result ℕ MapFault} (Ok x) (Err map.Failed) → ⊥
map_ok x e = cc

pub returns-in-Down-clause-only_if_fault : goal.returns-in-Down-clause-only_if_fault
returns-in-Down-clause-only_if_fault g c = still_ok _ _ _ (c.in-Ok.ensures.only_if_fault.quiet (map_ok c.in-Ok.epoch))

pub returns-in-Short-clause-only_if_fault : goal.returns-in-Short-clause-only_if_fault
returns-in-Short-clause-only_if_fault g c = still_ok _ _ _ (c.in-Ok.ensures.only_if_fault.quiet (map_ok c.in-Ok.epoch))

pub returns-in-Active-clause-only_if_fault : goal.returns-in-Active-clause-only_if_fault
returns-in-Active-clause-only_if_fault g c =
    subst (λ n. HasTurnCause n (g.R.Rig.faults c.serve.new.rig 16) c.serve.result) (c.in-Ok.ensures.only_if_fault.quiet (map_ok c.in-Ok.epoch)) c.serve.ensures.only_if_fault

pub returns-in-Err-clause-any_moment : goal.returns-in-Err-clause-any_moment
returns-in-Err-clause-any_moment g c held =
    let l = layout_of c.args.self.now in
    let code = (goal.Code-dyn g c.args.code.now).meaning c.args.code.now.1 in
    runs_wider g.R.Rig.clock g.R.Rig.images Begins (Move code l) l (λ before after x. inl x) c.args.rig.now c.begin.new.rig (c.begin.ensures.any_moment held)

pub returns-in-Down-clause-any_moment : goal.returns-in-Down-clause-any_moment
returns-in-Down-clause-any_moment g c held =
    let l = layout_of c.args.self.now in
    let code = (goal.Code-dyn g c.args.code.now).meaning c.args.code.now.1 in
    runs_wider g.R.Rig.clock g.R.Rig.images Begins (Move code l) l (λ before after x. inl x) c.args.rig.now c.begin.new.rig (c.begin.ensures.any_moment held)

pub returns-in-Short-clause-any_moment : goal.returns-in-Short-clause-any_moment
returns-in-Short-clause-any_moment g c held =
    let l = layout_of c.args.self.now in
    let code = (goal.Code-dyn g c.args.code.now).meaning c.args.code.now.1 in
    runs_wider g.R.Rig.clock g.R.Rig.images Begins (Move code l) l (λ before after x. inl x) c.args.rig.now c.begin.new.rig (c.begin.ensures.any_moment held)

pub returns-in-Active-clause-any_moment : goal.returns-in-Active-clause-any_moment
returns-in-Active-clause-any_moment g c held =
    let l = layout_of c.args.self.now in
    let s = c.begin.new.self in
    let m = map_of s.map in
    let code = (goal.Code-dyn g c.args.code.now).meaning c.args.code.now.1 in
    let found = c.found-found.result in
    let mid = c.begin.new.rig in
    let new = c.serve.new.rig in
    let come_to = subst (λ x. ComeTo code (kept m.state) s.shelf c.up-up.result.0 s.min_size found.version c.found-found.ensures.0 (state_of x)) c.in-Active.is c.found-found.ensures.1 in
    let may = may_serve code m s.shelf c.up-up.result.0 s.min_size c.found-found.ensures.0 c.in-Active.joined.0 found.version s.map.sound
    (has_begun_last (map_of c.args.self.now.map) m c.up-up.result.0 c.in-Ok.ensures.step.0) s.some come_to in
    let first = runs_wider g.R.Rig.clock g.R.Rig.images Begins (Move code l) l (λ before after x. inl x) c.args.rig.now mid (c.begin.ensures.any_moment held) in
    let second = subst (λ (x : Layout). During g.R.Rig.clock g.R.Rig.images mid new (MovedFrom (Move code x) x (g.R.Rig.images mid (g.R.Rig.clock mid)))) c.begin.ensures.same.1
    (c.serve.ensures.any_moment code c.up-up.result.0 (subst (λ (x : Shelved). AreUp x c.up-up.result.0) (sym c.begin.ensures.same.0) c.up-up.ensures)
    may (c.in-Ok.ensures.ready.held held)) in
    runs_on g.R.Rig.clock g.R.Rig.images (Move code l) l c.args.rig.now mid new first second

use Rattle.std.proofs.Common.{◌≡◌, ◌<◌, ◌∙◌, inl, inr, refl, is_some, Result, Option, Ok, Err, Some, sym, ap, subst}
use Rattle.rig_disk.specs.During.{During}
use Rattle.pool_history.specs.Images.{IsLastAlive}
use Rattle.shard_store.specs.Shelved.{Shelved}
use Rattle.shard_store.specs.Shelves.{store_at}
use Rattle.map_model.specs.States.{last_epoch}
use Rattle.map_model.specs.Steps.{Alive}
use Rattle.pool_map.specs.Pool.{map_of, map_after}
use Rattle.pool_map.specs.declared.map.PoolMap.{PoolMap}
use Rattle.pool_slots.specs.Ready.{MayStart}
use Rattle.pool_moves.specs.Contents.{Layout}
use Rattle.pool_moves.specs.Instants.{MovedFrom}
use Rattle.pool_moves.specs.Moves.{Move, Starts, GoesAlive}
use Rattle.pool_moves.specs.Ready.{IsReady}
use Rattle.pool_moves.proofs.ChooseLemmas.{contents_complete}
use Rattle.pool_moves.proofs.InstantLemmas.{runs_on, runs_wider}
use Rattle.pool_moves.proofs.LoopLemmas.{ok_err}
use Rattle.pool_moves.proofs.LosingLemmas.{loses_on}
use Rattle.pool_map.specs.declared.fault.MapFault.{MapFault}
use Rattle.pool_map.specs.declared.fault.MapFault.TheVariants as map
use Rattle.pool_core.specs.Pools.{layout_of}
use Rattle.pool_core.proofs.FaultLemmas.{still_ok, still_worn, still_memory}
use Rattle.pool_core.specs.declared.activation.StartFault.{StartFault}
use Rattle.pool_core.specs.declared.activation.StartFault.TheVariants.{Lost, NoMemory}
use Rattle.pool_core.specs.declared.state.State.{State}
use Rattle.pool_core.proofs.pool.Pool.serve.Goals as goal

pub start_joined-requires-clause-may : goal.start_joined-requires-clause-may
start_joined-requires-clause-may g c = λ p below member.
    let m = c.requires.may.3.may p member in
    subst (λ (x : Shelved). MayStart x c.args.epoch c.args.base.now p) (sym c.go_alive.ensures.same.0)
    (subst (λ e. MayStart c.args.self.now.shelf e c.args.base.now p) (sym c.requires.epoch) m)

pub returns-in-Err-clause-any_moment : goal.returns-in-Err-clause-any_moment
returns-in-Err-clause-any_moment g c code up are_up may held =
    let l = layout_of c.args.self.now in
    runs_wider g.R.Rig.clock g.R.Rig.images (GoesAlive code l) (Move code l) l (λ before after x. inr (inl x)) c.args.rig.now c.go_alive.new.rig
    (c.go_alive.ensures.any_moment code up are_up may.choose held)

pub returns-in-Ok-start_joined-clause-any_moment : goal.returns-in-Ok-start_joined-clause-any_moment
returns-in-Ok-start_joined-clause-any_moment g c code up are_up may held =
    let l = layout_of c.args.self.now in
    let old = c.args.rig.now in
    let mid = c.go_alive.new.rig in
    let new = c.start_joined.new.rig in
    let first = runs_wider g.R.Rig.clock g.R.Rig.images (GoesAlive code l) (Move code l) l (λ before after x. inr (inl x)) old mid
    (c.go_alive.ensures.any_moment code up are_up may.choose held) in
    let newest = subst (λ e. IsLastAlive (map_of c.go_alive.new.self.map).state.intervals e c.args.joined.0 c.args.base.now) (sym c.requires.epoch) c.in-Ok.ensures.newest in
    let run = subst (λ (x : Layout). During g.R.Rig.clock g.R.Rig.images mid new (MovedFrom (Starts x c.args.epoch c.args.joined.0 c.args.base.now) x (g.R.Rig.images mid (g.R.Rig.clock mid))))
    c.go_alive.ensures.same.1 (c.start_joined.ensures.any_moment (c.in-Ok.ensures.ready.held held) newest) in
    let second = runs_wider g.R.Rig.clock g.R.Rig.images (Starts l c.args.epoch c.args.joined.0 c.args.base.now) (Move code l) l
    (λ before after x. inr (inr (record { epoch = c.args.epoch; joined = c.args.joined.0; base = c.args.base.now; starts = x }))) mid new run in
    runs_on g.R.Rig.clock g.R.Rig.images (Move code l) l old mid new first second

pub returns-in-Err-Lost-clause-any_moment : goal.returns-in-Err-Lost-clause-any_moment
returns-in-Err-Lost-clause-any_moment g c code up are_up may held =
    let l = layout_of c.args.self.now in
    let old = c.args.rig.now in
    let mid = c.go_alive.new.rig in
    let new = c.start_joined.new.rig in
    let first = runs_wider g.R.Rig.clock g.R.Rig.images (GoesAlive code l) (Move code l) l (λ before after x. inr (inl x)) old mid
    (c.go_alive.ensures.any_moment code up are_up may.choose held) in
    let newest = subst (λ e. IsLastAlive (map_of c.go_alive.new.self.map).state.intervals e c.args.joined.0 c.args.base.now) (sym c.requires.epoch) c.in-Ok.ensures.newest in
    let run = subst (λ (x : Layout). During g.R.Rig.clock g.R.Rig.images mid new (MovedFrom (Starts x c.args.epoch c.args.joined.0 c.args.base.now) x (g.R.Rig.images mid (g.R.Rig.clock mid))))
    c.go_alive.ensures.same.1 (c.start_joined.ensures.any_moment (c.in-Ok.ensures.ready.held held) newest) in
    let second = runs_wider g.R.Rig.clock g.R.Rig.images (Starts l c.args.epoch c.args.joined.0 c.args.base.now) (Move code l) l
    (λ before after x. inr (inr (record { epoch = c.args.epoch; joined = c.args.joined.0; base = c.args.base.now; starts = x }))) mid new run in
    runs_on g.R.Rig.clock g.R.Rig.images (Move code l) l old mid new first second

pub returns-in-Err-Worn-clause-any_moment : goal.returns-in-Err-Worn-clause-any_moment
returns-in-Err-Worn-clause-any_moment g c code up are_up may held =
    let l = layout_of c.args.self.now in
    let old = c.args.rig.now in
    let mid = c.go_alive.new.rig in
    let new = c.start_joined.new.rig in
    let first = runs_wider g.R.Rig.clock g.R.Rig.images (GoesAlive code l) (Move code l) l (λ before after x. inr (inl x)) old mid
    (c.go_alive.ensures.any_moment code up are_up may.choose held) in
    let newest = subst (λ e. IsLastAlive (map_of c.go_alive.new.self.map).state.intervals e c.args.joined.0 c.args.base.now) (sym c.requires.epoch) c.in-Ok.ensures.newest in
    let run = subst (λ (x : Layout). During g.R.Rig.clock g.R.Rig.images mid new (MovedFrom (Starts x c.args.epoch c.args.joined.0 c.args.base.now) x (g.R.Rig.images mid (g.R.Rig.clock mid))))
    c.go_alive.ensures.same.1 (c.start_joined.ensures.any_moment (c.in-Ok.ensures.ready.held held) newest) in
    let second = runs_wider g.R.Rig.clock g.R.Rig.images (Starts l c.args.epoch c.args.joined.0 c.args.base.now) (Move code l) l
    (λ before after x. inr (inr (record { epoch = c.args.epoch; joined = c.args.joined.0; base = c.args.base.now; starts = x }))) mid new run in
    runs_on g.R.Rig.clock g.R.Rig.images (Move code l) l old mid new first second

pub returns-in-Err-NoMemory-clause-any_moment : goal.returns-in-Err-NoMemory-clause-any_moment
returns-in-Err-NoMemory-clause-any_moment g c code up are_up may held =
    let l = layout_of c.args.self.now in
    let old = c.args.rig.now in
    let mid = c.go_alive.new.rig in
    let new = c.start_joined.new.rig in
    let first = runs_wider g.R.Rig.clock g.R.Rig.images (GoesAlive code l) (Move code l) l (λ before after x. inr (inl x)) old mid
    (c.go_alive.ensures.any_moment code up are_up may.choose held) in
    let newest = subst (λ e. IsLastAlive (map_of c.go_alive.new.self.map).state.intervals e c.args.joined.0 c.args.base.now) (sym c.requires.epoch) c.in-Ok.ensures.newest in
    let run = subst (λ (x : Layout). During g.R.Rig.clock g.R.Rig.images mid new (MovedFrom (Starts x c.args.epoch c.args.joined.0 c.args.base.now) x (g.R.Rig.images mid (g.R.Rig.clock mid))))
    c.go_alive.ensures.same.1 (c.start_joined.ensures.any_moment (c.in-Ok.ensures.ready.held held) newest) in
    let second = runs_wider g.R.Rig.clock g.R.Rig.images (Starts l c.args.epoch c.args.joined.0 c.args.base.now) (Move code l) l
    (λ before after x. inr (inr (record { epoch = c.args.epoch; joined = c.args.joined.0; base = c.args.base.now; starts = x }))) mid new run in
    runs_on g.R.Rig.clock g.R.Rig.images (Move code l) l old mid new first second

lost_apart : {T : Type 0} → ◌≡◌ {A = Result T StartFault} (Err Lost) (Err NoMemory) → ⊥
lost_apart {T} e = cc

pub returns-in-Ok-start_joined-clause-ready : goal.returns-in-Ok-start_joined-clause-ready
returns-in-Ok-start_joined-clause-ready g c =
    let new = c.start_joined.new.rig in
    let s = c.start_joined.new.self in
    let stays = c.in-Ok-start_joined.ensures.ready (ok_err c.in-Ok-start_joined.field-0 NoMemory) in
    record {
      ready = subst (λ (x : Layout). IsReady x (g.R.Rig.is_here new) (g.R.Rig.reads new) (g.R.Rig.images new (g.R.Rig.clock new)) s.map s.shelf) c.go_alive.ensures.same.1 stays.ready;
      held = λ held. stays.held (c.in-Ok.ensures.ready.held held);
    }

pub returns-in-Err-Lost-clause-ready : goal.returns-in-Err-Lost-clause-ready
returns-in-Err-Lost-clause-ready g c =
    let new = c.start_joined.new.rig in
    let s = c.start_joined.new.self in
    let stays = c.in-Err-Lost.ensures.ready (λ e. lost_apart (rw c.in-Err-Lost.field-0-is at e)) in
    record {
      ready = subst (λ (x : Layout). IsReady x (g.R.Rig.is_here new) (g.R.Rig.reads new) (g.R.Rig.images new (g.R.Rig.clock new)) s.map s.shelf) c.go_alive.ensures.same.1 stays.ready;
      held = λ held. stays.held (c.in-Ok.ensures.ready.held held);
    }

quiet_map : {T : Type 0} (x : T) → ◌≡◌ {A = Result T MapFault} (Ok x) (Err map.Failed) → ⊥
quiet_map {T} x e = cc

pub returns-in-Err-clause-only_if_fault : goal.returns-in-Err-clause-only_if_fault
returns-in-Err-clause-only_if_fault g c = record {
  failed = λ e. c.in-Err.ensures.only_if_fault.failed (ap Err c.in-Err.ensures.faults);
  quiet = λ free. absurd (free refl);
}

pub returns-in-Ok-start_joined-clause-only_if_fault : goal.returns-in-Ok-start_joined-clause-only_if_fault
returns-in-Ok-start_joined-clause-only_if_fault g c = still_ok _ _ _ (c.start_joined.ensures.map_faults ∙ c.in-Ok.ensures.only_if_fault.quiet (quiet_map c.in-Ok.field-0))

pub returns-in-Err-Lost-clause-only_if_fault : goal.returns-in-Err-Lost-clause-only_if_fault
returns-in-Err-Lost-clause-only_if_fault g c = still_ok _ _ _ (c.start_joined.ensures.map_faults ∙ c.in-Ok.ensures.only_if_fault.quiet (quiet_map c.in-Ok.field-0))

pub returns-in-Err-Worn-clause-only_if_fault : goal.returns-in-Err-Worn-clause-only_if_fault
returns-in-Err-Worn-clause-only_if_fault g c = still_worn _ _ (c.start_joined.ensures.map_faults ∙ c.in-Ok.ensures.only_if_fault.quiet (quiet_map c.in-Ok.field-0))

pub returns-in-Err-NoMemory-clause-only_if_fault : goal.returns-in-Err-NoMemory-clause-only_if_fault
returns-in-Err-NoMemory-clause-only_if_fault g c = still_memory _ _ (c.start_joined.ensures.map_faults ∙ c.in-Ok.ensures.only_if_fault.quiet (quiet_map c.in-Ok.field-0))

said_state : {E : Type 0} (one other : State) → ◌≡◌ {A = Result (Option State) E} (Ok (Some one)) (Ok (Some other)) → one ≡ other
said_state one other e = cc

pub returns-in-Ok-start_joined-clause-active : goal.returns-in-Ok-start_joined-clause-active
returns-in-Ok-start_joined-clause-active g c state is = (
  sym (said_state _ state is),
  λ held.
      let l = layout_of c.args.self.now in
      let s = c.start_joined.new.self in
      let rig = c.start_joined.new.rig in
      let reads = g.R.Rig.reads rig in
      let images = g.R.Rig.images rig (g.R.Rig.clock rig) in
      let stays = c.in-Ok-start_joined.ensures.ready (ok_err c.in-Ok-start_joined.field-0 NoMemory) in
      let r = subst (λ (x : Layout). IsReady x (g.R.Rig.is_here rig) reads images s.map s.shelf) c.go_alive.ensures.same.1 stays.ready in
      let h = stays.held (c.in-Ok.ensures.ready.held held) in
      let newest = subst (λ (m : PoolMap). IsLastAlive (map_of m).state.intervals c.args.epoch c.args.joined.0 c.args.base.now) (sym c.start_joined.ensures.same.0)
      (subst (λ x. IsLastAlive (map_of c.go_alive.new.self.map).state.intervals x c.args.joined.0 c.args.base.now) (sym c.requires.epoch) c.in-Ok.ensures.newest) in
      record {
        base = c.args.base.now;
        below = λ p member. let m = c.requires.may.3.may p member in (c.requires.ready.own.each p m.store m.there).below;
        each = λ image said contents now has.
            contents_complete c.texts_have_one_story.ensures c.texts_have_one_map.ensures c.requires.may.0 l r.positive r.few reads images s.map h.held_map
            s.shelf r.own h.stores image said contents now has c.args.epoch c.args.joined.0 c.args.base.now newest
            (λ p below member. c.in-Ok-start_joined.ensures.started p (subst (λ (x : Layout). p < x.n) (sym c.go_alive.ensures.same.1) below) member);
      },
)

pub returns-in-Ok-start_joined-clause-loses : goal.returns-in-Ok-start_joined-clause-loses
returns-in-Ok-start_joined-clause-loses g c =
    loses_on (g.R.Rig.faults c.args.rig.now) (g.R.Rig.faults c.go_alive.new.rig) (g.R.Rig.faults c.start_joined.new.rig) c.args.self.now.shelf c.go_alive.new.self.shelf c.start_joined.new.self.shelf
    c.go_alive.ensures.loses c.start_joined.ensures.loses

pub returns-in-Err-Lost-clause-loses : goal.returns-in-Err-Lost-clause-loses
returns-in-Err-Lost-clause-loses g c =
    loses_on (g.R.Rig.faults c.args.rig.now) (g.R.Rig.faults c.go_alive.new.rig) (g.R.Rig.faults c.start_joined.new.rig) c.args.self.now.shelf c.go_alive.new.self.shelf c.start_joined.new.self.shelf
    c.go_alive.ensures.loses c.start_joined.ensures.loses

pub returns-in-Err-Worn-clause-loses : goal.returns-in-Err-Worn-clause-loses
returns-in-Err-Worn-clause-loses g c =
    loses_on (g.R.Rig.faults c.args.rig.now) (g.R.Rig.faults c.go_alive.new.rig) (g.R.Rig.faults c.start_joined.new.rig) c.args.self.now.shelf c.go_alive.new.self.shelf c.start_joined.new.self.shelf
    c.go_alive.ensures.loses c.start_joined.ensures.loses

pub returns-in-Err-NoMemory-clause-loses : goal.returns-in-Err-NoMemory-clause-loses
returns-in-Err-NoMemory-clause-loses g c =
    loses_on (g.R.Rig.faults c.args.rig.now) (g.R.Rig.faults c.go_alive.new.rig) (g.R.Rig.faults c.start_joined.new.rig) c.args.self.now.shelf c.go_alive.new.self.shelf c.start_joined.new.self.shelf
    c.go_alive.ensures.loses c.start_joined.ensures.loses

pub returns-in-Ok-start_joined-clause-dated : goal.returns-in-Ok-start_joined-clause-dated
returns-in-Ok-start_joined-clause-dated g c = ap (λ (m : PoolMap). last_epoch (map_of m).state.intervals) c.start_joined.ensures.same.0 ∙ c.in-Ok.ensures.dated

pub returns-in-Err-Lost-clause-dated : goal.returns-in-Err-Lost-clause-dated
returns-in-Err-Lost-clause-dated g c = ap (λ (m : PoolMap). last_epoch (map_of m).state.intervals) c.start_joined.ensures.same.0 ∙ c.in-Ok.ensures.dated

pub returns-in-Ok-start_joined-clause-served : goal.returns-in-Ok-start_joined-clause-served
returns-in-Ok-start_joined-clause-served g c state is =
    let m = map_of c.args.self.now.map in
    record {
      is = ap map_of c.start_joined.ensures.same.0 ∙ c.in-Ok.ensures.step ∙ ap (λ e. map_after m (Alive e c.args.joined.0 c.args.base.now)) (sym c.requires.epoch);
      started = λ p below member. c.in-Ok-start_joined.ensures.started p (subst (λ (x : Layout). p < x.n) (sym c.go_alive.ensures.same.1) below) member;
      slots = λ p. c.in-Ok-start_joined.ensures.slots p ∙ ap (λ (x : Shelved). is_some (store_at x p)) c.go_alive.ensures.same.0;
    }

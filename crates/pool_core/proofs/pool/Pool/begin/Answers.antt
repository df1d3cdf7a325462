use Rattle.std.proofs.Common.{◌≡◌, ◌<◌, ◌+◌, ◌^◌, ◌∙◌, refl, inl, ⊎_elim, ℕ, Result, Err, true, sym, ap, subst}
use Rattle.std.proofs.lemmas.Bool.{cases_lt}
use Rattle.rig_disk.specs.During.{During}
use Rattle.map_model.specs.States.{fits, last_epoch, epoch_limit}
use Rattle.map_model.specs.Steps.{Begin}
use Rattle.pool_map.specs.Maps.{PoolImage}
use Rattle.pool_map.specs.Pool.{journal_of, map_of, Steps}
use Rattle.pool_map.specs.declared.fault.MapFault.{MapFault}
use Rattle.pool_map.specs.declared.fault.MapFault.TheVariants.{Failed, Worn, NoMemory}
use Rattle.pool_moves.specs.Instants.{MovedFrom}
use Rattle.pool_moves.specs.Moves.{Begins}
use Rattle.pool_moves.proofs.InstantLemmas.{runs_none}
use Rattle.pool_moves.proofs.LoopLemmas.{ok_err}
use Rattle.pool_moves.proofs.LosingLemmas.{loses_still}
use Rattle.pool_moves.proofs.MapStepLemmas.{step_moments, shelf_ready, shelf_held, begin_fits}
use Rattle.pool_core.specs.Pools.{layout_of}
use Rattle.pool_core.proofs.pool.Pool.begin.Goals as goal

pub returns-in-Ok-clause-ready : goal.returns-in-Ok-clause-ready
returns-in-Ok-clause-ready g c =
    let r = c.requires.ready in
    let s = c.args.self.now in
    let m = map_of s.map in
    let reads = g.R.Rig.reads c.args.rig.now in
    let images = g.R.Rig.images c.args.rig.now (g.R.Rig.clock c.args.rig.now) in
    let step = Steps reads images (journal_of s.map) m (Begin (last_epoch m.state.intervals + 1) c.args.up.0) in
    let kept = c.begin.ensures.kept.on_slot.kept in
    let stepped = c.begin.ensures.stepped in
    let done = c.in-Ok.ensures.stepped in
    record {
      ready = record {
        few = r.few;
        positive = r.positive;
        own = r.own;
        stores = shelf_ready g.R.Rig.is_here g.R.Rig.reads g.R.Rig.clock g.R.Rig.images c.args.rig.now c.begin.new.rig step
            (λ s here. (kept.here s).0 here) kept.reads stepped.any_moment (layout_of s) r.few s.shelf r.own r.stores;
        ready_map = record {
          same_n = ap (λ (x : PoolImage). x.n) done.step ∙ r.ready_map.same_n;
          ready = record {
            here = (kept.here 16).0 r.ready_map.ready.here;
            unspent = done.unspent;
            settled = done.settled;
          };
        };
      };
      held = λ held.
          let h = done.ok held.held_map.text held.held_map.holds_map in
          record {
            held_map = record { text = h.0; holds_map = h.1 };
            stores = shelf_held g.R.Rig.is_here g.R.Rig.reads g.R.Rig.clock g.R.Rig.images c.args.rig.now c.begin.new.rig step
                (λ s here. (kept.here s).0 here) kept.reads stepped.any_moment (layout_of s) r.few s.shelf r.own held.stores;
          };
    }

pub returns-in-Ok-clause-any_moment : goal.returns-in-Ok-clause-any_moment
returns-in-Ok-clause-any_moment g c held =
    let r = c.requires.ready in
    let m = map_of c.args.self.now.map in
    let epoch = last_epoch m.state.intervals + 1 in
    let below : epoch < epoch_limit = ⊎_elim (λ lt. lt) (λ le. absurd (ok_err c.in-Ok.epoch Worn (c.in-Ok.ensures.worn.1 (inl le)))) (cases_lt epoch epoch_limit) in
    let inside = subst (λ n. c.args.up.0 < 2 ^ n) (sym r.ready_map.same_n) c.requires.below in
    let fit = begin_fits m.n m.state c.args.up.0 below inside in
    step_moments g.R.Rig.clock g.R.Rig.images c.args.rig.now c.begin.new.rig (g.R.Rig.reads c.args.rig.now) c.texts_have_one_map.ensures Begins (layout_of c.args.self.now) r.few c.args.self.now.map r.ready_map.same_n
    held.held_map (Begin epoch c.args.up.0)
    (λ before image said now has same. record {
      epoch = epoch;
      up = c.args.up.0;
      fit = subst (λ (x : PoolImage). fits x.n x.state (Begin epoch c.args.up.0) ≡ true) (sym same) fit;
      is = refl;
    })
    c.begin.ensures.stepped.any_moment

not_worn : (f other : MapFault) → f ≡ other → (other ≡ Worn → ⊥) → ◌≡◌ {A = Result ℕ MapFault} (Err f) (Err Worn) → ⊥
not_worn f other is apart e = let same : f ≡ Worn = cc in apart (sym is ∙ same)

failed_apart : Failed ≡ Worn → ⊥
failed_apart e = cc

memory_apart : NoMemory ≡ Worn → ⊥
memory_apart e = cc

worn_apart : Worn ≡ Failed → ⊥
worn_apart e = cc

pub returns-in-Err-clause-any_moment : goal.returns-in-Err-clause-any_moment
returns-in-Err-clause-any_moment g c held =
    let r = c.requires.ready in
    let m = map_of c.args.self.now.map in
    let l = layout_of c.args.self.now in
    let epoch = last_epoch m.state.intervals + 1 in
    let inside = subst (λ n. c.args.up.0 < 2 ^ n) (sym r.ready_map.same_n) c.requires.below in
    let goes = λ (free : ◌≡◌ {A = Result ℕ MapFault} (Err c.in-Err.fault) (Err Worn) → ⊥).
    let below : epoch < epoch_limit = ⊎_elim (λ lt. lt) (λ le. absurd (free (c.in-Err.ensures.worn.1 (inl le)))) (cases_lt epoch epoch_limit) in
    let fit = begin_fits m.n m.state c.args.up.0 below inside in
    step_moments g.R.Rig.clock g.R.Rig.images c.args.rig.now c.begin.new.rig (g.R.Rig.reads c.args.rig.now) c.texts_have_one_map.ensures Begins l r.few c.args.self.now.map r.ready_map.same_n
    held.held_map (Begin epoch c.args.up.0)
    (λ before image said now has same. record {
      epoch = epoch;
      up = c.args.up.0;
      fit = subst (λ (x : PoolImage). fits x.n x.state (Begin epoch c.args.up.0) ≡ true) (sym same) fit;
      is = refl;
    })
    c.begin.ensures.stepped.any_moment in
    ⊎_elim
    (λ failed. goes (not_worn c.in-Err.fault Failed failed failed_apart))
    (λ rest. ⊎_elim
    (λ worn. ⊎_elim
    (λ failed. absurd (worn_apart (sym worn ∙ failed)))
    (λ untouched. subst (λ rig. During g.R.Rig.clock g.R.Rig.images c.args.rig.now rig (MovedFrom Begins l (g.R.Rig.images c.args.rig.now (g.R.Rig.clock c.args.rig.now))))
    (sym untouched.rig) (runs_none g.R.Rig.clock g.R.Rig.images Begins l c.args.rig.now))
    c.in-Err.ensures.stepped.refused)
    (λ memory. goes (not_worn c.in-Err.fault NoMemory memory memory_apart)) rest)
    c.in-Err.ensures.faults

pub returns-in-Ok-clause-loses : goal.returns-in-Ok-clause-loses
returns-in-Ok-clause-loses g c =
    loses_still (g.R.Rig.faults c.args.rig.now) (g.R.Rig.faults c.begin.new.rig) c.args.self.now.shelf c.args.self.now.shelf refl c.begin.ensures.kept.on_slot.kept.counts.faults

pub returns-in-Err-clause-loses : goal.returns-in-Err-clause-loses
returns-in-Err-clause-loses g c =
    loses_still (g.R.Rig.faults c.args.rig.now) (g.R.Rig.faults c.begin.new.rig) c.args.self.now.shelf c.args.self.now.shelf refl c.begin.ensures.kept.on_slot.kept.counts.faults

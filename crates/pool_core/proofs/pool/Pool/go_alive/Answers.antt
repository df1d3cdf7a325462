use Rattle.std.proofs.Common.{◌≡◌, ◌∙◌, true, refl, sym, ap, subst}
use Rattle.map_model.specs.States.{fits, last_epoch}
use Rattle.map_model.specs.Steps.{Alive}
use Rattle.pool_history.specs.Images.{IsLastAlive}
use Rattle.pool_map.specs.Maps.{PoolImage}
use Rattle.pool_map.specs.Pool.{journal_of, map_of, map_after, Steps}
use Rattle.pool_moves.specs.Contents.{with_map}
use Rattle.pool_moves.specs.Moves.{GoesAlive}
use Rattle.pool_moves.proofs.ChooseLemmas.{contents_choose}
use Rattle.pool_moves.proofs.LosingLemmas.{loses_still}
use Rattle.pool_moves.proofs.MapStepLemmas.{step_moments, shelf_ready, shelf_held}
use Rattle.pool_moves.proofs.NewestLemmas.{is_last_alive}
use Rattle.pool_moves.proofs.TurnLemmas.{alive_epoch}
use Rattle.pool_core.specs.Pools.{layout_of}
use Rattle.pool_core.proofs.pool.Pool.go_alive.Goals as goal

pub returns-in-Ok-clause-ready : goal.returns-in-Ok-clause-ready
returns-in-Ok-clause-ready g c =
    let r = c.requires.ready in
    let s = c.args.self.now in
    let m = map_of s.map in
    let reads = g.R.Rig.reads c.args.rig.now in
    let images = g.R.Rig.images c.args.rig.now (g.R.Rig.clock c.args.rig.now) in
    let step = Steps reads images (journal_of s.map) m (Alive (last_epoch m.state.intervals) c.args.joined.0 c.args.base) in
    let kept = c.alive.ensures.kept.on_slot.kept in
    let stepped = c.alive.ensures.stepped in
    let done = c.in-Ok.ensures.stepped in
    record {
      ready = record {
        few = r.few;
        positive = r.positive;
        own = r.own;
        stores = shelf_ready g.R.Rig.is_here g.R.Rig.reads g.R.Rig.clock g.R.Rig.images c.args.rig.now c.alive.new.rig step
            (λ s here. (kept.here s).0 here) kept.reads stepped.any_moment (layout_of s) r.few s.shelf r.own r.stores;
        ready_map = record {
          same_n = ap (λ (x : PoolImage). x.n) done.step ∙ r.ready_map.same_n;
          ready = record {
            here = (kept.here 16).0 r.ready_map.ready.here;
            unspent = done.unspent;
            settled = done.settled;
          };
        };
      };
      held = λ held.
          let h = done.ok held.held_map.text held.held_map.holds_map in
          record {
            held_map = record { text = h.0; holds_map = h.1 };
            stores = shelf_held g.R.Rig.is_here g.R.Rig.reads g.R.Rig.clock g.R.Rig.images c.args.rig.now c.alive.new.rig step
                (λ s here. (kept.here s).0 here) kept.reads stepped.any_moment (layout_of s) r.few s.shelf r.own held.stores;
          };
    }

pub returns-in-Ok-clause-newest : goal.returns-in-Ok-clause-newest
returns-in-Ok-clause-newest g c =
    let m = map_of c.args.self.now.map in
    let epoch = last_epoch m.state.intervals in
    subst (λ (x : PoolImage). IsLastAlive x.state.intervals epoch c.args.joined.0 c.args.base) (sym c.in-Ok.ensures.stepped.step)
    (is_last_alive m.state epoch c.args.joined.0 c.args.base (c.the_newest_goes_alive.ensures m.n m.state epoch c.args.joined.0 c.args.base c.args.self.now.map.sound c.requires.fits))

pub returns-in-Ok-clause-any_moment : goal.returns-in-Ok-clause-any_moment
returns-in-Ok-clause-any_moment g c code up are_up choose held =
    let r = c.requires.ready in
    let s = c.args.self.now in
    let m = map_of s.map in
    let l = layout_of s in
    let reads = g.R.Rig.reads c.args.rig.now in
    let step = Alive (last_epoch m.state.intervals) c.args.joined.0 c.args.base in
    step_moments g.R.Rig.clock g.R.Rig.images c.args.rig.now c.alive.new.rig reads c.texts_have_one_map.ensures (GoesAlive code l) l r.few s.map r.ready_map.same_n held.held_map step
    (λ before image said now has same. record {
      joined = c.args.joined.0;
      base = c.args.base;
      up = up;
      fit = subst (λ (x : PoolImage). fits x.n x.state (Alive (last_epoch x.state.intervals) c.args.joined.0 c.args.base) ≡ true) (sym same) c.requires.fits;
      chooses = contents_choose c.texts_have_one_story.ensures c.texts_have_one_map.ensures code l r.positive r.few reads (g.R.Rig.images c.args.rig.now (g.R.Rig.clock c.args.rig.now))
          s.map held.held_map s.shelf r.own held.stores image said before now has up c.args.joined.0 c.args.base are_up choose;
      is = ap (λ (x : PoolImage). with_map before (map_after before.map (Alive (last_epoch x.state.intervals) c.args.joined.0 c.args.base))) (sym same);
    })
    c.alive.ensures.stepped.any_moment

pub returns-in-Err-clause-any_moment : goal.returns-in-Err-clause-any_moment
returns-in-Err-clause-any_moment g c code up are_up choose held =
    let r = c.requires.ready in
    let s = c.args.self.now in
    let m = map_of s.map in
    let l = layout_of s in
    let reads = g.R.Rig.reads c.args.rig.now in
    let step = Alive (last_epoch m.state.intervals) c.args.joined.0 c.args.base in
    step_moments g.R.Rig.clock g.R.Rig.images c.args.rig.now c.alive.new.rig reads c.texts_have_one_map.ensures (GoesAlive code l) l r.few s.map r.ready_map.same_n held.held_map step
    (λ before image said now has same. record {
      joined = c.args.joined.0;
      base = c.args.base;
      up = up;
      fit = subst (λ (x : PoolImage). fits x.n x.state (Alive (last_epoch x.state.intervals) c.args.joined.0 c.args.base) ≡ true) (sym same) c.requires.fits;
      chooses = contents_choose c.texts_have_one_story.ensures c.texts_have_one_map.ensures code l r.positive r.few reads (g.R.Rig.images c.args.rig.now (g.R.Rig.clock c.args.rig.now))
          s.map held.held_map s.shelf r.own held.stores image said before now has up c.args.joined.0 c.args.base are_up choose;
      is = ap (λ (x : PoolImage). with_map before (map_after before.map (Alive (last_epoch x.state.intervals) c.args.joined.0 c.args.base))) (sym same);
    })
    c.alive.ensures.stepped.any_moment

pub returns-in-Ok-clause-loses : goal.returns-in-Ok-clause-loses
returns-in-Ok-clause-loses g c =
    loses_still (g.R.Rig.faults c.args.rig.now) (g.R.Rig.faults c.alive.new.rig) c.args.self.now.shelf c.args.self.now.shelf refl c.alive.ensures.kept.on_slot.kept.counts.faults

pub returns-in-Err-clause-loses : goal.returns-in-Err-clause-loses
returns-in-Err-clause-loses g c =
    loses_still (g.R.Rig.faults c.args.rig.now) (g.R.Rig.faults c.alive.new.rig) c.args.self.now.shelf c.args.self.now.shelf refl c.alive.ensures.kept.on_slot.kept.counts.faults

pub returns-in-Ok-clause-dated : goal.returns-in-Ok-clause-dated
returns-in-Ok-clause-dated g c =
    let m = map_of c.args.self.now.map in
    let epoch = last_epoch m.state.intervals in
    let newest = c.the_newest_goes_alive.ensures m.n m.state epoch c.args.joined.0 c.args.base c.args.self.now.map.sound c.requires.fits in
    alive_epoch m (map_of c.alive.new.self) epoch c.args.joined.0 c.args.base newest.last newest.was c.in-Ok.ensures.stepped.step

use Rattle.std.proofs.Common.{◌≡◌, ◌∙◌, inl, inr, ⊎_elim, refl, sym, subst, arith}
use Rattle.std.proofs.lemmas.Bool.{false≢true}
use Rattle.ec_model.specs.Codes.{HasPosition}
use Rattle.pool_map.specs.Pool.{map_of}
use Rattle.pool_moves.specs.Finding.{AreFound}
use Rattle.pool_moves.proofs.FindingLemmas.{found_none, found_past, found_on, lost_over}
use Rattle.pool_moves.proofs.OverLemmas.{loaded_none, loaded_past, loaded_on, loaded_run}
use Rattle.pool_core.specs.Pools.{layout_of}
use Rattle.pool_core.proofs.pool.Pool.load_slots.Goals as goal
use Rattle.pool_core.proofs.pool.Pool.load_slots.Goals.{then-may_load+in-Ok, else-may_load}

pub loop-p-init : goal.loop-p-init
loop-p-init g c = record {
  map = refl;
  layout = refl;
  least = refl;
  loaded = loaded_none (layout_of c.args.self.now) g.R.Rig.is_here g.R.Rig.reads g.R.Rig.clock g.R.Rig.images c.args.rig.now c.args.self.now.map c.args.self.now.shelf c.requires.ready;
  found = found_none (layout_of c.args.self.now) (map_of c.args.self.now.map).state.marks (g.R.Rig.is_here c.args.rig.now) (g.R.Rig.reads c.args.rig.now) (g.R.Rig.faults c.args.rig.now)
      c.args.self.now.shelf c.requires.empty;
}

pub loop-p-preserved : goal.loop-p-preserved
loop-p-preserved g c =
    let v = c.loop-p.invariant in
    let s = c.args.self.now in
    let p = c.loop-p.p in
    let old = c.args.rig.now in
    let marks = (map_of s.map).state.marks in
    elim c.if-may_load.branch [
      | then-may_load+in-Ok w ↦
          let same = w.load_slot.ensures.same.0 ∙ v.map in
          rw (w.self-is, w.rig-is) (record {
            map = same;
            layout = w.load_slot.ensures.same.1 ∙ v.layout;
            least = w.load_slot.ensures.same.2 ∙ v.least;
            loaded = loaded_on (layout_of s) g.R.Rig.is_here g.R.Rig.reads g.R.Rig.clock g.R.Rig.images c.args.rig.now s.map s.shelf
                c.loop-p.rig w.load_slot.new.rig c.loop-p.self.shelf w.load_slot.new.self.shelf (layout_of c.loop-p.self) c.loop-p.self.map w.load_slot.new.self.map
                v.layout v.map same p c.loop-p-test.true (c.may_load.ensures.here w.if-may_load.true) v.loaded
                w.load_slot.ensures.here w.load_slot.ensures.reads w.in-Ok.ensures.ready w.in-Ok.ensures.held w.load_slot.ensures.any_moment;
            found = found_on (layout_of s) marks (g.R.Rig.is_here old) (g.R.Rig.reads old) (g.R.Rig.faults old) (g.R.Rig.faults c.loop-p.rig) (g.R.Rig.faults w.load_slot.new.rig)
                c.loop-p.self.shelf w.load_slot.new.self.shelf p ((v.loaded.here p).0 (c.may_load.ensures.here w.if-may_load.true))
                (λ marked. c.may_load.ensures.unmarked w.if-may_load.true (subst (λ n. HasPosition n p) (sym c.marked-marked.ensures.value) marked))
                w.load_slot.ensures.others w.load_slot.ensures.counts
                (⊎_elim (λ there. inl there) (λ lost. inr (lost_over (layout_of s) (layout_of c.loop-p.self) (g.R.Rig.reads c.loop-p.rig) (g.R.Rig.reads old)
                (g.R.Rig.faults c.loop-p.rig) (g.R.Rig.faults w.load_slot.new.rig) p v.layout (λ a. v.loaded.reads p a (omega arith)) lost)) w.in-Ok.ensures.found)
                v.found;
          })
      | else-may_load w ↦ rw (w.self-is, w.rig-is) (record {
        map = v.map;
        layout = v.layout;
        least = v.least;
        loaded = loaded_past (layout_of s) g.R.Rig.is_here g.R.Rig.reads g.R.Rig.clock g.R.Rig.images c.args.rig.now s.map s.shelf c.loop-p.rig c.loop-p.self.shelf p v.loaded;
        found = found_past (layout_of s) marks (g.R.Rig.is_here old) (g.R.Rig.reads old) (g.R.Rig.faults old) (g.R.Rig.faults c.loop-p.rig) c.loop-p.self.shelf p
            (λ here free. false≢true (sym w.if-may_load.false ∙ c.may_load.ensures.all ((v.loaded.here p).1 here)
            (λ marked. free (subst (λ n. HasPosition n p) c.marked-marked.ensures.value marked)))) v.found;
      })
    ]

pub returns-in-Err-clause-any_moment : goal.returns-in-Err-clause-any_moment
returns-in-Err-clause-any_moment g c =
    let v = c.loop-p.invariant in
    let s = c.args.self.now in
    loaded_run (layout_of s) g.R.Rig.is_here g.R.Rig.reads g.R.Rig.clock g.R.Rig.images c.args.rig.now s.map s.shelf
    c.loop-p.rig c.load_slot.new.rig c.loop-p.self.shelf c.load_slot.new.self.shelf (layout_of c.loop-p.self) c.loop-p.self.map c.load_slot.new.self.map
    v.layout v.map (c.load_slot.ensures.same.0 ∙ v.map) c.loop-p.p c.loop-p-test.true (c.may_load.ensures.here c.if-may_load.true) v.loaded c.load_slot.ensures.any_moment

pub returns-clause-found : goal.returns-clause-found
returns-clause-found g c =
    let s = c.args.self.now in
    let old = c.args.rig.now in
    let all : c.loop-p.p ≡ s.n = omega (arith, c.loop-p.auto.p-end, c.loop-p-test.false) in
    subst (λ p. AreFound (layout_of s) (map_of s.map).state.marks (g.R.Rig.is_here old) (g.R.Rig.reads old) (g.R.Rig.faults old) (g.R.Rig.faults c.loop-p.rig) c.loop-p.self.shelf p)
    all c.loop-p.invariant.found

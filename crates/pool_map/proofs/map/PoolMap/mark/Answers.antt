use Rattle.std.proofs.Common.{rules, inr, refl, ◌≡◌, ℕ, List, if◌then◌else◌, ap, sym, subst, ◌∙◌}
use Rattle.rig_disk.specs.During.{During}
use Rattle.slot_journal.specs.Journal.{InSlot}
use Rattle.pool_map.specs.Meanings.{state_of}
use Rattle.map_model.specs.Sound.{IsSound}
use Rattle.map_model.specs.States.{with_marks, with_mark}
use Rattle.pool_map.specs.Maps.{with_state}
use Rattle.pool_map.specs.Pool.{journal_of, map_of, HoldsMap, Steps}
use Rattle.map_model.specs.Steps.{Mark}
use Rattle.pool_map.specs.Steps.{step_bytes, IsWritable}
use Rattle.pool_map.proofs.WorkLemmas.{held_on, step_moments, unmoved, mark_fits}
use Rattle.map_model.proofs.SoundLemmas.{step_sound}
use Rattle.pool_map.proofs.map.PoolMap.mark.Goals as goal

pub returns-then-room-lt-MARK_ROOM-clause-stepped : goal.returns-then-room-lt-MARK_ROOM-clause-stepped
returns-then-room-lt-MARK_ROOM-clause-stepped g c = record {
  ok = tt;
  step = tt;
  settled = tt;
  unspent = tt;
  unchanged = search rules;
  refused = inr (record { rig = refl; journal = refl; began = refl });
  only_if_fault = search rules;
  any_moment = unmoved g.R.Rig.clock g.R.Rig.images (g.R.Rig.reads c.args.rig.now) c.args.self.now.journal c.args.self.now.own_slot (map_of c.args.self.now) (Mark c.args.slot (if c.args.down then 1 else 0)) c.args.rig.now;
}

pub returns-in_err-commit-clause-stepped : goal.returns-in_err-commit-clause-stepped
returns-in_err-commit-clause-stepped g c =
    let images = g.R.Rig.images c.args.rig.now (g.R.Rig.clock c.args.rig.now) in
    let m = map_of c.args.self.now in
    let s = Mark c.args.slot (if c.args.down then 1 else 0) in
    let body : c.mark_bytes.result ≡ step_bytes s = c.mark_bytes.ensures ∙ ap (λ d. step_bytes (Mark c.args.slot d)) c.down_byte-byte.ensures in
    let writable : IsWritable s = search rules in
    record {
      ok = search rules;
      step = search rules;
      settled = search rules;
      unspent = search rules;
      unchanged = search rules;
      refused = search rules;
      only_if_fault = search rules;
      any_moment = subst (λ slot. During g.R.Rig.clock g.R.Rig.images c.args.rig.now c.commit.new.rig (InSlot images slot (Steps (g.R.Rig.reads c.args.rig.now) images (journal_of c.args.self.now) m s)))
          c.args.self.now.own_slot
          (step_moments m s c.mark_bytes.result body writable (mark_fits m.n m.state c.args.slot c.args.down c.requires.slot) g.R.Rig.clock g.R.Rig.images (g.R.Rig.reads c.args.rig.now) c.args.self.now.journal _
          c.args.rig.now c.commit.new.rig c.commit.ensures.any_moment);
    }

pub returns-clause-stepped : goal.returns-clause-stepped
returns-clause-stepped g c =
    let images = g.R.Rig.images c.args.rig.now (g.R.Rig.clock c.args.rig.now) in
    let m = map_of c.args.self.now in
    let s = Mark c.args.slot (if c.args.down then 1 else 0) in
    let body : c.mark_bytes.result ≡ step_bytes s = c.mark_bytes.ensures ∙ ap (λ d. step_bytes (Mark c.args.slot d)) c.down_byte-byte.ensures in
    let writable : IsWritable s = search rules in
    record {
      ok = λ text held. subst (λ (x : ℕ). (after : List ℕ) × HoldsMap (g.R.Rig.reads c.commit.new.rig) (g.R.Rig.images c.commit.new.rig (g.R.Rig.clock c.commit.new.rig)) c.commit.new.self
          (with_state m (with_marks m.state x)) after)
          (ap (λ d. with_mark c.args.slot d c.args.self.now.state.marked.0) (sym c.down_byte-byte.ensures) ∙ sym c.with_mark-self.ensures)
          (held_on m s c.mark_bytes.result body writable (mark_fits m.n m.state c.args.slot c.args.down c.requires.slot) (g.R.Rig.reads c.args.rig.now) images c.args.self.now.journal
          (g.R.Rig.reads c.commit.new.rig) (g.R.Rig.images c.commit.new.rig (g.R.Rig.clock c.commit.new.rig)) c.commit.new.self c.in_ok-commit.ensures.ok.holds text held);
      step = search rules;
      settled = search rules;
      unspent = search rules;
      unchanged = tt;
      refused = tt;
      only_if_fault = search rules;
      any_moment = subst (λ slot. During g.R.Rig.clock g.R.Rig.images c.args.rig.now c.commit.new.rig (InSlot images slot (Steps (g.R.Rig.reads c.args.rig.now) images (journal_of c.args.self.now) m s)))
          c.args.self.now.own_slot
          (step_moments m s c.mark_bytes.result body writable (mark_fits m.n m.state c.args.slot c.args.down c.requires.slot) g.R.Rig.clock g.R.Rig.images (g.R.Rig.reads c.args.rig.now) c.args.self.now.journal _
          c.args.rig.now c.commit.new.rig c.commit.ensures.any_moment);
    }

pub invariant_of-self-3-clause-sound : goal.invariant_of-self-3-clause-sound
invariant_of-self-3-clause-sound g c =
    let state = c.args.self.now.state in
    subst (λ (x : ℕ). IsSound state.n (with_marks (state_of state) x))
    (ap (λ d. with_mark c.args.slot d state.marked.0) (sym c.down_byte-byte.ensures) ∙ sym c.with_mark-self.ensures)
    (step_sound state.n (state_of state) (Mark c.args.slot (if c.args.down then 1 else 0)) c.args.self.now.sound (mark_fits state.n (state_of state) c.args.slot c.args.down c.requires.slot))

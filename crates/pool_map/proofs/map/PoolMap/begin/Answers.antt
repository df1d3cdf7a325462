use Rattle.std.proofs.Common.{rules, inr, refl, ◌≡◌, ◌+◌, ◌<◌, ◌++◌, ◌∷◌, [], ℕ, List, arith, ap, sym, subst, ◌∙◌}
use Rattle.ec_words.specs.Intervals.{Interval}
use Rattle.rig_disk.specs.During.{During}
use Rattle.slot_journal.specs.Journal.{InSlot}
use Rattle.pool_map.specs.Meanings.{state_of}
use Rattle.map_model.specs.Sound.{IsSound}
use Rattle.map_model.specs.States.{with_intervals, begun, last_epoch, epoch_limit}
use Rattle.pool_map.specs.Maps.{with_state}
use Rattle.pool_map.specs.Pool.{journal_of, map_of, HoldsMap, Steps}
use Rattle.map_model.specs.Steps.{Begin}
use Rattle.pool_map.specs.Steps.{step_bytes, IsWritable}
use Rattle.pool_map.proofs.WorkLemmas.{held_on, step_moments, unmoved, begin_fits}
use Rattle.map_model.proofs.SoundLemmas.{step_sound}
use Rattle.pool_map.proofs.map.PoolMap.begin.Goals as goal

pub returns-then-is_worn-clause-stepped : goal.returns-then-is_worn-clause-stepped
returns-then-is_worn-clause-stepped g c = record {
  ok = tt;
  step = tt;
  settled = tt;
  unspent = tt;
  unchanged = search rules;
  refused = inr (record { rig = refl; journal = refl; began = refl });
  only_if_fault = search rules;
  any_moment = unmoved g.R.Rig.clock g.R.Rig.images (g.R.Rig.reads c.args.rig.now) c.args.self.now.journal c.args.self.now.own_slot (map_of c.args.self.now) (Begin (last_epoch c.args.self.now.state.intervals + 1) c.args.up.0) c.args.rig.now;
}

pub returns-in_err-push-clause-stepped : goal.returns-in_err-push-clause-stepped
returns-in_err-push-clause-stepped g c = record {
  ok = search rules;
  step = search rules;
  settled = search rules;
  unspent = search rules;
  unchanged = search rules;
  refused = search rules;
  only_if_fault = search rules;
  any_moment = unmoved g.R.Rig.clock g.R.Rig.images (g.R.Rig.reads c.args.rig.now) c.args.self.now.journal c.args.self.now.own_slot (map_of c.args.self.now) (Begin (last_epoch c.args.self.now.state.intervals + 1) c.args.up.0) c.args.rig.now;
}

pub returns-in-Ok-clause-stepped : goal.returns-in-Ok-clause-stepped
returns-in-Ok-clause-stepped g c =
    let images = g.R.Rig.images c.args.rig.now (g.R.Rig.clock c.args.rig.now) in
    let m = map_of c.args.self.now in
    let last : c.last_epoch-last.result ≡ last_epoch c.args.self.now.state.intervals = c.last_epoch-last.ensures ∙ ap last_epoch c.as_slice.ensures in
    let below : last_epoch c.args.self.now.state.intervals + 1 < epoch_limit = omega (arith, last, (c.is_worn.ensures.fine c.if-is_worn.false).0) in
    let s = Begin (last_epoch c.args.self.now.state.intervals + 1) c.args.up.0 in
    let body : c.begin_bytes.result ≡ step_bytes s = c.begin_bytes.ensures ∙ ap (λ e. step_bytes (Begin (e + 1) c.args.up.0)) last in
    let writable : IsWritable s = search rules in
    record {
      ok = λ text held. subst (λ (ivs : List Interval). (after : List ℕ) × HoldsMap (g.R.Rig.reads c.commit.new.rig) (g.R.Rig.images c.commit.new.rig (g.R.Rig.clock c.commit.new.rig)) c.commit.new.self
          (with_state m (with_intervals m.state ivs)) after)
          (ap (λ e. c.args.self.now.state.intervals ++ begun e c.args.up.0 ∷ []) (ap (λ e. e + 1) (sym last)) ∙ sym c.in_ok-push.ensures.ok)
          (held_on m s c.begin_bytes.result body writable (begin_fits m.n m.state c.args.up.0 below c.requires.below) (g.R.Rig.reads c.args.rig.now) images c.args.self.now.journal
          (g.R.Rig.reads c.commit.new.rig) (g.R.Rig.images c.commit.new.rig (g.R.Rig.clock c.commit.new.rig)) c.commit.new.self c.in-Ok.ensures.ok.holds text held);
      step = search rules;
      settled = search rules;
      unspent = search rules;
      unchanged = tt;
      refused = tt;
      only_if_fault = search rules;
      any_moment = subst (λ slot. During g.R.Rig.clock g.R.Rig.images c.args.rig.now c.commit.new.rig (InSlot images slot (Steps (g.R.Rig.reads c.args.rig.now) images (journal_of c.args.self.now) m s)))
          c.args.self.now.own_slot
          (step_moments m s c.begin_bytes.result body writable (begin_fits m.n m.state c.args.up.0 below c.requires.below) g.R.Rig.clock g.R.Rig.images (g.R.Rig.reads c.args.rig.now) c.args.self.now.journal _
          c.args.rig.now c.commit.new.rig c.commit.ensures.any_moment);
    }

pub returns-in-Err-clause-stepped : goal.returns-in-Err-clause-stepped
returns-in-Err-clause-stepped g c =
    let images = g.R.Rig.images c.args.rig.now (g.R.Rig.clock c.args.rig.now) in
    let m = map_of c.args.self.now in
    let last : c.last_epoch-last.result ≡ last_epoch c.args.self.now.state.intervals = c.last_epoch-last.ensures ∙ ap last_epoch c.as_slice.ensures in
    let below : last_epoch c.args.self.now.state.intervals + 1 < epoch_limit = omega (arith, last, (c.is_worn.ensures.fine c.if-is_worn.false).0) in
    let s = Begin (last_epoch c.args.self.now.state.intervals + 1) c.args.up.0 in
    let body : c.begin_bytes.result ≡ step_bytes s = c.begin_bytes.ensures ∙ ap (λ e. step_bytes (Begin (e + 1) c.args.up.0)) last in
    let writable : IsWritable s = search rules in
    record {
      ok = tt;
      step = tt;
      settled = tt;
      unspent = tt;
      unchanged = search rules;
      refused = search rules;
      only_if_fault = search rules;
      any_moment = subst (λ slot. During g.R.Rig.clock g.R.Rig.images c.args.rig.now c.commit.new.rig (InSlot images slot (Steps (g.R.Rig.reads c.args.rig.now) images (journal_of c.args.self.now) m s)))
          c.args.self.now.own_slot
          (step_moments m s c.begin_bytes.result body writable (begin_fits m.n m.state c.args.up.0 below c.requires.below) g.R.Rig.clock g.R.Rig.images (g.R.Rig.reads c.args.rig.now) c.args.self.now.journal _
          c.args.rig.now c.commit.new.rig c.commit.ensures.any_moment);
    }

pub invariant_of-self-in-Ok-clause-sound : goal.invariant_of-self-in-Ok-clause-sound
invariant_of-self-in-Ok-clause-sound g c =
    let state = c.args.self.now.state in
    let last : c.last_epoch-last.result ≡ last_epoch state.intervals = c.last_epoch-last.ensures ∙ ap last_epoch c.as_slice.ensures in
    let below : last_epoch state.intervals + 1 < epoch_limit = omega (arith, last, (c.is_worn.ensures.fine c.if-is_worn.false).0) in
    subst (λ (ivs : List Interval). IsSound state.n (with_intervals (state_of state) ivs))
    (ap (λ e. state.intervals ++ begun e c.args.up.0 ∷ []) (ap (λ e. e + 1) (sym last)) ∙ sym c.in_ok-push.ensures.ok)
    (step_sound state.n (state_of state) (Begin (last_epoch state.intervals + 1) c.args.up.0) c.args.self.now.sound (begin_fits state.n (state_of state) c.args.up.0 below c.requires.below))

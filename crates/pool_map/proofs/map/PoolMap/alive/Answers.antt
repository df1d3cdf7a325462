use Rattle.std.proofs.Common.{rules, true, ◌≡◌, ◌≤◌, ℕ, List, ap, sym, subst, ◌∙◌}
use Rattle.ec_words.specs.Intervals.{Interval}
use Rattle.rig_disk.specs.During.{During}
use Rattle.slot_journal.specs.Journal.{InSlot, room_of}
use Rattle.pool_map.specs.Meanings.{state_of}
use Rattle.map_model.specs.Sound.{IsSound}
use Rattle.map_model.specs.States.{with_intervals, last_of, last_epoch, awaits_alive}
use Rattle.pool_map.specs.Maps.{with_state}
use Rattle.pool_map.specs.Pool.{journal_of, map_of, HoldsMap, Steps}
use Rattle.map_model.specs.Steps.{Alive}
use Rattle.pool_map.specs.Steps.{step_bytes, IsWritable}
use Rattle.pool_map.proofs.WorkLemmas.{held_on, step_moments}
use Rattle.map_model.proofs.SoundLemmas.{step_sound, joins_awaited, alive_not_awaited}
use Rattle.pool_map.proofs.map.PoolMap.alive.Goals as goal

pub returns-in_err-commit-clause-stepped : goal.returns-in_err-commit-clause-stepped
returns-in_err-commit-clause-stepped g c =
    let images = g.R.Rig.images c.args.rig.now (g.R.Rig.clock c.args.rig.now) in
    let m = map_of c.args.self.now in
    let s = Alive (last_epoch c.args.self.now.state.intervals) c.args.joined.0 c.args.base in
    let body : c.alive_bytes.result ≡ step_bytes s = c.alive_bytes.ensures ∙ ap (λ e. step_bytes (Alive e c.args.joined.0 c.args.base)) (c.last_epoch-epoch.ensures ∙ ap last_epoch c.as_slice.ensures) in
    let writable : IsWritable s = search rules in
    record {
      ok = search rules;
      step = search rules;
      settled = search rules;
      unspent = search rules;
      unchanged = search rules;
      refused = search rules;
      only_if_fault = search rules;
      any_moment = subst (λ slot. During g.R.Rig.clock g.R.Rig.images c.args.rig.now c.commit.new.rig (InSlot images slot (Steps (g.R.Rig.reads c.args.rig.now) images (journal_of c.args.self.now) m s)))
          c.args.self.now.own_slot
          (step_moments m s c.alive_bytes.result body writable c.requires.fits g.R.Rig.clock g.R.Rig.images (g.R.Rig.reads c.args.rig.now) c.args.self.now.journal _
          c.args.rig.now c.commit.new.rig c.commit.ensures.any_moment);
    }

pub returns-clause-stepped : goal.returns-clause-stepped
returns-clause-stepped g c =
    let images = g.R.Rig.images c.args.rig.now (g.R.Rig.clock c.args.rig.now) in
    let m = map_of c.args.self.now in
    let s = Alive (last_epoch c.args.self.now.state.intervals) c.args.joined.0 c.args.base in
    let body : c.alive_bytes.result ≡ step_bytes s = c.alive_bytes.ensures ∙ ap (λ e. step_bytes (Alive e c.args.joined.0 c.args.base)) (c.last_epoch-epoch.ensures ∙ ap last_epoch c.as_slice.ensures) in
    let writable : IsWritable s = search rules in
    record {
      ok = λ text held. subst (λ (ivs : List Interval). (after : List ℕ) × HoldsMap (g.R.Rig.reads c.commit.new.rig) (g.R.Rig.images c.commit.new.rig (g.R.Rig.clock c.commit.new.rig)) c.commit.new.self
          (with_state m (with_intervals m.state ivs)) after)
          (sym c.set_last_alive.ensures)
          (held_on m s c.alive_bytes.result body writable c.requires.fits (g.R.Rig.reads c.args.rig.now) images c.args.self.now.journal
          (g.R.Rig.reads c.commit.new.rig) (g.R.Rig.images c.commit.new.rig (g.R.Rig.clock c.commit.new.rig)) c.commit.new.self c.in_ok-commit.ensures.ok.holds text held);
      step = search rules;
      settled = search rules;
      unspent = search rules;
      unchanged = tt;
      refused = tt;
      only_if_fault = search rules;
      any_moment = subst (λ slot. During g.R.Rig.clock g.R.Rig.images c.args.rig.now c.commit.new.rig (InSlot images slot (Steps (g.R.Rig.reads c.args.rig.now) images (journal_of c.args.self.now) m s)))
          c.args.self.now.own_slot
          (step_moments m s c.alive_bytes.result body writable c.requires.fits g.R.Rig.clock g.R.Rig.images (g.R.Rig.reads c.args.rig.now) c.args.self.now.journal _
          c.args.rig.now c.commit.new.rig c.commit.ensures.any_moment);
    }

pub commit-requires-clause-room : goal.commit-requires-clause-room
commit-requires-clause-room g c =
    let state = c.args.self.now.state in
    let room = c.args.self.now.has_room c.requires.began (joins_awaited (last_epoch state.intervals) c.args.joined.0 (last_of state.intervals) c.requires.fits) in
    search rules

pub invariant_of-self-2 : goal.invariant_of-self-2
invariant_of-self-2 g c =
    let state = c.args.self.now.state in
    let room : c.args.self.now.began ≡ true → awaits_alive (last_of c.set_last_alive.new.self) ≡ true → 64 ≤ room_of c.commit.new.self = λ began awaited.
    absurd (alive_not_awaited c.args.joined.0 c.args.base state.intervals
    (subst (λ (ivs : List Interval). awaits_alive (last_of ivs) ≡ true) c.set_last_alive.ensures awaited)) in
    let sound : IsSound state.n (with_intervals (state_of state) c.set_last_alive.new.self) = subst (λ (ivs : List Interval). IsSound state.n (with_intervals (state_of state) ivs)) (sym c.set_last_alive.ensures)
    (step_sound state.n (state_of state) (Alive (last_epoch state.intervals) c.args.joined.0 c.args.base) c.args.self.now.sound c.requires.fits) in
    ((state.few, tt), (c.in_ok-commit.ensures.after.slot_is ∙ c.args.self.now.own_slot, (room, (sound, tt))))

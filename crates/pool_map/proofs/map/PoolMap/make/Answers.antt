use Rattle.std.proofs.Common.{rules, ◌∷◌, [], ℕ, List, Some, ap, sym, subst, ◌∙◌}
use Rattle.ec_model.specs.Versions.{zero_version}
use Rattle.ec_words.specs.Intervals.{Interval}
use Rattle.ec_words.specs.Readers.{IsWord}
use Rattle.pool_map.specs.Maps.{IsMapOf, map_format}
use Rattle.map_model.specs.States.{new_state, with_intervals}
use Rattle.pool_map.specs.Pool.{new_map}
use Rattle.map_model.specs.Sound.{IsSound}
use Rattle.pool_map.proofs.SoundLemmas.{map_sound}
use Rattle.slot_journal.specs.Writing.{first_text}
use Rattle.pool_map.proofs.MadeLemmas.{map_with, made_held}
use Rattle.pool_map.proofs.WorkLemmas.{make_moments}
use Rattle.pool_map.proofs.map.PoolMap.make.Goals as goal

pub returns-in_err-journal-clause-any_moment : goal.returns-in_err-journal-clause-any_moment
returns-in_err-journal-clause-any_moment g c =
    let first = c.in_ok-first.first in
    let word : IsWord first.profile.stripe_unit = search rules in
    make_moments g.R.Rig.clock g.R.Rig.images (g.R.Rig.reads c.args.rig.now 16) c.args.rig.now c.make.new.rig c.args.profile.now first.profile c.args.shape.k c.args.shape.n first.profile.stripe_unit
    c.map_head-head.result c.as_slice.result.now word c.map_head-head.ensures c.in_ok-first.ensures.new
    (subst (λ b. IsMapOf c.args.shape.k first.profile.stripe_unit map_format (b ∷ []) (new_map first.profile c.args.shape.n)) (sym c.as_slice.ensures.value) c.in_ok-first.ensures.ok)
    c.make.ensures.any_moment

pub returns-clause-any_moment : goal.returns-clause-any_moment
returns-clause-any_moment g c =
    let first = c.in_ok-first.first in
    let word : IsWord first.profile.stripe_unit = search rules in
    make_moments g.R.Rig.clock g.R.Rig.images (g.R.Rig.reads c.args.rig.now 16) c.args.rig.now c.make.new.rig c.args.profile.now first.profile c.args.shape.k c.args.shape.n first.profile.stripe_unit
    c.map_head-head.result c.as_slice.result.now word c.map_head-head.ensures c.in_ok-first.ensures.new
    (subst (λ b. IsMapOf c.args.shape.k first.profile.stripe_unit map_format (b ∷ []) (new_map first.profile c.args.shape.n)) (sym c.as_slice.ensures.value) c.in_ok-first.ensures.ok)
    c.make.ensures.any_moment

pub invariant_of-result-2-clause-sound : goal.invariant_of-result-2-clause-sound
invariant_of-result-2-clause-sound g c =
    let n = c.args.shape.n in
    let alone : ℕ → List Interval = λ all. record { epoch = 1; up = all; alive = Some (all, zero_version) } ∷ [] in
    subst (λ (ivs : List Interval). IsSound n (with_intervals (new_state map_format) ivs)) (sym (c.in_ok-intervals.ensures ∙ ap alone c.all_of.ensures))
    (map_sound c.args.shape.k c.in_ok-first.first.profile.stripe_unit map_format (c.in_ok-first.first.body ∷ []) (new_map c.in_ok-first.first.profile n) c.in_ok-first.ensures.ok)

pub returns-clause-made : goal.returns-clause-made
returns-clause-made g c =
    let first = c.in_ok-first.first in
    let word : IsWord first.profile.stripe_unit = search rules in
    let alone : ℕ → List Interval = λ all. record { epoch = 1; up = all; alive = Some (all, zero_version) } ∷ [] in record {
      held = λ text told. (
        first_text c.map_head-head.result c.as_slice.result.now,
        made_held (g.R.Rig.reads c.make.new.rig) (g.R.Rig.images c.make.new.rig (g.R.Rig.clock c.make.new.rig)) c.in_ok-journal.journal first.profile c.args.shape.k c.args.shape.n first.profile.stripe_unit
            c.map_head-head.result c.as_slice.result.now (first_text c.map_head-head.result c.as_slice.result.now) c.in_ok-intervals.intervals (c.in_ok-intervals.ensures ∙ ap alone c.all_of.ensures) word c.map_head-head.ensures
            (subst (λ b. IsMapOf c.args.shape.k first.profile.stripe_unit map_format (b ∷ []) (new_map first.profile c.args.shape.n)) (sym c.as_slice.ensures.value) c.in_ok-first.ensures.ok)
            (c.in_ok-journal.ensures.ok.holds text told),
      );
      is_new = record {
        own = first.profile;
        read = c.in_ok-first.ensures.new;
        is = ap (λ (ivs : List Interval). map_with first.profile c.args.shape.n ivs) (c.in_ok-intervals.ensures ∙ ap alone c.all_of.ensures);
      };
      settled = search rules;
      unspent = search rules;
      unbegun = search rules;
    }

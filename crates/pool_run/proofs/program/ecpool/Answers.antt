use Rattle.std.proofs.Common.{List, ℕ, ⊎_elim, inl, inr, refl, sym, subst, ◌∙◌, arith, rules}
use Rattle.plugin_reg.specs.Opening.{GivesProfile, IsRefused}
use Rattle.pool_run.specs.Profiles.{SaysFault}
use Rattle.pool_run.proofs.StatusLemmas.{completed, long_script, not_2}
use Rattle.pool_run.proofs.RequestLemmas.{same_try, same_profile, same_create, not_both, try_not_create, profile_not_create, wrong_for, try_for, show_for, input_for, create_for, create_input_for, wrong_needs, try_needs, input_needs, create_needs}
use Rattle.pool_run.proofs.program.ecpool.Goals as goal

pub returns-in-Wrong-clause-tried : goal.returns-in-Wrong-clause-tried
returns-in-Wrong-clause-tried g c = λ profile script p ask gives told. absurd ((c.in-Wrong.ensures profile).0 ask)

pub returns-in-Wrong-clause-shown : goal.returns-in-Wrong-clause-shown
returns-in-Wrong-clause-shown g c = λ profile p asks gives. absurd (wrong_for c.args.words.now _ profile c.in-Wrong.ensures (inr (inl asks)))

pub returns-in-Wrong-clause-refused : goal.returns-in-Wrong-clause-refused
returns-in-Wrong-clause-refused g c = λ profile f asks is. absurd (wrong_for c.args.words.now _ profile c.in-Wrong.ensures asks)

pub returns-in-Wrong-clause-causes : goal.returns-in-Wrong-clause-causes
returns-in-Wrong-clause-causes g c = record {
  status_2 = search rules;
  status_3 = search rules;
  long_profile = λ input asks told. absurd (⊎_elim (λ ask. (c.in-Wrong.ensures _).1 ask) (λ ask. (c.in-Wrong.ensures _).2 ask) asks);
  too_long = search rules;
  making = λ e. absurd (grind (arith, e, c.say_last.ensures.status));
}

pub returns-in-Wrong-clause-input : goal.returns-in-Wrong-clause-input
returns-in-Wrong-clause-input g c = record {
  unread = λ one other third. refl;
  at_once = λ profile needs. absurd (wrong_needs c.args.words.now profile c.in-Wrong.ensures needs);
  created = λ profile ask other. refl;
}

pub returns-in-Try-clause-tried : goal.returns-in-Try-clause-tried
returns-in-Try-clause-tried g c = λ profile script p ask gives told.
    let same = c.as_bytes.ensures.value ∙ same_try c.args.words.now _ profile c.in-Try.ensures ask in
    let tries = c.try_profile.ensures.script p (subst (λ (t : List ℕ). GivesProfile t p) (sym same) gives) in
    let answered = tries.answered script told in
    record {
      answered = answered;
      complete = λ quiet voice. completed script c.try_profile.result.0 _ _ _ answered tries.statuses
          (λ e. quiet (c.try_profile.ensures.counts.input.failed e)) (λ e. voice (c.try_profile.ensures.counts.rig.voice e));
      status_12 = long_script script c.try_profile.result.0 _ _ _ answered tries.statuses;
    }

pub returns-in-Try-clause-refused : goal.returns-in-Try-clause-refused
returns-in-Try-clause-refused g c = λ profile f asks is.
    let same = c.as_bytes.ensures.value ∙ try_for c.args.words.now _ _ profile c.in-Try.ensures asks in
    subst (λ (t : List ℕ). SaysFault t c.try_profile.result.0 (g.R.Rig.said c.args.rig.now) (g.R.Rig.said c.try_profile.new.rig)) same
    (c.try_profile.ensures.refused f (subst (λ (t : List ℕ). IsRefused t f) (sym same) is)).says

pub returns-in-Try-clause-causes : goal.returns-in-Try-clause-causes
returns-in-Try-clause-causes g c = record {
  status_2 = not_2 _ c.try_profile.result.0 _ _ (λ wrong. (wrong _).0 c.in-Try.ensures) (λ e. grind (arith, e, c.try_profile.ensures.statuses));
  status_3 = search rules;
  long_profile = λ text asks told. absurd (⊎_elim (λ ask. not_both c.args.words.now _ _ c.in-Try.ensures ask) (λ ask. try_not_create c.args.words.now _ _ c.in-Try.ensures ask) asks);
  too_long = c.try_profile.ensures.too_long;
  making = λ e. absurd (grind (arith, e, c.try_profile.ensures.statuses));
}

pub returns-in-Try-clause-input : goal.returns-in-Try-clause-input
returns-in-Try-clause-input g c = record {
  unread = λ one other third. grind (arith, one, c.try_profile.ensures.unread, c.try_profile.ensures.statuses);
  created = λ profile ask other. absurd (try_not_create c.args.words.now _ profile c.in-Try.ensures ask);
  at_once = λ profile needs.
      let found = try_needs c.args.words.now _ profile c.in-Try.ensures needs in
      let same = c.as_bytes.ensures.value ∙ found.0 in
      let ended = c.try_profile.ensures.refused found.1.0 (subst (λ (t : List ℕ). IsRefused t found.1.0) (sym same) found.1.1) in
      (inr ended.statuses, ended.untouched);
}

pub returns-in-Show-clause-shown : goal.returns-in-Show-clause-shown
returns-in-Show-clause-shown g c = λ profile p asks gives.
    let same = c.as_bytes-in-Show.ensures.value ∙ show_for c.args.words.now _ _ profile c.in-Show.ensures.0 c.in-Show.ensures.1 (inr (inl asks)) in
    c.show_profile.ensures.shown p (subst (λ (t : List ℕ). GivesProfile t p) (sym same) gives)

pub returns-in-Show-clause-refused : goal.returns-in-Show-clause-refused
returns-in-Show-clause-refused g c = λ profile f asks is.
    let same = c.as_bytes-in-Show.ensures.value ∙ show_for c.args.words.now _ _ profile c.in-Show.ensures.0 c.in-Show.ensures.1 asks in
    subst (λ (t : List ℕ). SaysFault t c.show_profile.result.0 (g.R.Rig.said c.args.rig.now) (g.R.Rig.said c.show_profile.new.rig)) same
    (c.show_profile.ensures.refused f (subst (λ (t : List ℕ). IsRefused t f) (sym same) is))

pub returns-in-Show-clause-causes : goal.returns-in-Show-clause-causes
returns-in-Show-clause-causes g c = record {
  status_2 = not_2 _ c.show_profile.result.0 _ _ (λ wrong. (wrong _).1 c.in-Show.ensures.0) (λ e. grind (arith, e, c.show_profile.ensures.statuses));
  status_3 = search rules;
  long_profile = λ text asks told. absurd (⊎_elim (λ ask. c.in-Show.ensures.1 (same_profile c.args.words.now _ _ c.in-Show.ensures.0 ask)) (λ ask. profile_not_create c.args.words.now _ _ c.in-Show.ensures.0 ask) asks);
  too_long = search rules;
  making = λ e. absurd (grind (arith, e, c.show_profile.ensures.statuses));
}

pub returns-in-Show-clause-input : goal.returns-in-Show-clause-input
returns-in-Show-clause-input g c = record {
  unread = λ one other third. refl;
  at_once = λ profile needs. (c.show_profile.ensures.statuses, refl);
  created = λ profile ask other. refl;
}

pub returns-in-ShowInput-clause-shown : goal.returns-in-ShowInput-clause-shown
returns-in-ShowInput-clause-shown g c = λ profile p asks gives.
    let told = input_for c.args.words.now _ profile c.in-ShowInput.ensures (inr (inl asks)) in
    c.show_input.ensures.shown profile p told.0 told.1 gives

pub returns-in-ShowInput-clause-refused : goal.returns-in-ShowInput-clause-refused
returns-in-ShowInput-clause-refused g c = λ profile f asks is.
    let told = input_for c.args.words.now _ profile c.in-ShowInput.ensures asks in
    c.show_input.ensures.refused profile f told.0 told.1 is

pub returns-in-ShowInput-clause-causes : goal.returns-in-ShowInput-clause-causes
returns-in-ShowInput-clause-causes g c = record {
  status_2 = not_2 _ c.show_input.result.0 _ _ (λ wrong. (wrong _).1 c.in-ShowInput.ensures) (λ e. grind (arith, e, c.show_input.ensures.statuses));
  status_3 = search rules;
  long_profile = λ text ask told. c.show_input.ensures.status_12 text told;
  too_long = c.show_input.ensures.too_long;
  making = λ e. absurd (grind (arith, e, c.show_input.ensures.statuses));
}

pub returns-in-ShowInput-clause-input : goal.returns-in-ShowInput-clause-input
returns-in-ShowInput-clause-input g c = record {
  unread = λ one other third. absurd (other c.in-ShowInput.ensures);
  created = λ profile ask other. absurd (profile_not_create c.args.words.now _ profile c.in-ShowInput.ensures ask);
  at_once = λ profile needs. absurd (input_needs c.args.words.now profile c.in-ShowInput.ensures needs);
}

pub try_profile-requires : goal.try_profile-requires
try_profile-requires g c = λ q. rw c.deref_mut.ensures.value (c.requires q)

pub show_profile-requires : goal.show_profile-requires
show_profile-requires g c = λ q. rw c.deref_mut-in-Show.ensures.value (c.requires q)

pub show_input-requires : goal.show_input-requires
show_input-requires g c = λ q. rw c.deref_mut-in-ShowInput.ensures.value (c.requires q)

pub create_pool-requires : goal.create_pool-requires
create_pool-requires g c = λ q. rw c.deref_mut-in-Create.ensures.value (c.requires q)

pub create_from_input-requires : goal.create_from_input-requires
create_from_input-requires g c = λ q. rw c.deref_mut-in-CreateFromInput.ensures.value (c.requires q)

pub returns-in-Wrong-clause-created : goal.returns-in-Wrong-clause-created
returns-in-Wrong-clause-created g c = λ profile p asks gives. absurd (wrong_for c.args.words.now _ profile c.in-Wrong.ensures (inr (inr asks)))

pub returns-in-Create-clause-refused : goal.returns-in-Create-clause-refused
returns-in-Create-clause-refused g c = λ profile f asks is.
    let same = c.as_bytes-in-Create.ensures.value ∙ create_for c.args.words.now _ _ profile c.in-Create.ensures.0 c.in-Create.ensures.1 asks in
    subst (λ (t : List ℕ). SaysFault t c.create_pool.result.0 (g.R.Rig.said c.args.rig.now) (g.R.Rig.said c.create_pool.new.rig)) same
    (c.create_pool.ensures.refused f (subst (λ (t : List ℕ). IsRefused t f) (sym same) is))

pub returns-in-Create-clause-causes : goal.returns-in-Create-clause-causes
returns-in-Create-clause-causes g c = record {
  status_2 = not_2 _ c.create_pool.result.0 _ _ (λ wrong. (wrong _).2 c.in-Create.ensures.0) (λ e. grind (arith, e, c.create_pool.ensures.statuses));
  status_3 = λ e.
      let found = c.create_pool.ensures.status_3 e in
      (_, found.0, subst (λ (t : List ℕ). IsRefused t found.0) c.as_bytes-in-Create.ensures.value found.1, inr (inr (inr (inl c.in-Create.ensures.0))));
  long_profile = λ text asks told. absurd (⊎_elim (λ ask. profile_not_create c.args.words.now _ _ ask c.in-Create.ensures.0) (λ ask. c.in-Create.ensures.1 (same_create c.args.words.now _ _ c.in-Create.ensures.0 ask)) asks);
  too_long = λ e. absurd (grind (arith, e, c.create_pool.ensures.statuses));
  making = λ e. (_, c.in-Create.ensures.0);
}

pub returns-in-Create-clause-others : goal.returns-in-Create-clause-others
returns-in-Create-clause-others g c = λ never. absurd (never _ c.in-Create.ensures.0)

pub returns-in-Create-clause-input : goal.returns-in-Create-clause-input
returns-in-Create-clause-input g c = record {
  unread = λ one other third. refl;
  at_once = λ profile needs. absurd (create_needs c.args.words.now _ profile c.in-Create.ensures.0 needs);
  created = λ profile ask other. refl;
}

pub returns-in-CreateFromInput-clause-refused : goal.returns-in-CreateFromInput-clause-refused
returns-in-CreateFromInput-clause-refused g c = λ profile f asks is.
    let told = create_input_for c.args.words.now _ profile c.in-CreateFromInput.ensures asks in
    c.create_from_input.ensures.refused profile f told.0 told.1 is

pub returns-in-CreateFromInput-clause-causes : goal.returns-in-CreateFromInput-clause-causes
returns-in-CreateFromInput-clause-causes g c = record {
  status_2 = not_2 _ c.create_from_input.result.0 _ _ (λ wrong. (wrong _).2 c.in-CreateFromInput.ensures) (λ e. grind (arith, e, c.create_from_input.ensures.statuses));
  status_3 = λ e.
      let found = c.create_from_input.ensures.status_3 e in
      (found.0, found.1, found.2, inr (inr (inr (inr (c.in-CreateFromInput.ensures, found.3)))));
  long_profile = λ text ask told. c.create_from_input.ensures.status_12 text told;
  too_long = c.create_from_input.ensures.too_long;
  making = λ e. (_, c.in-CreateFromInput.ensures);
}

pub returns-in-CreateFromInput-clause-others : goal.returns-in-CreateFromInput-clause-others
returns-in-CreateFromInput-clause-others g c = λ never. absurd (never _ c.in-CreateFromInput.ensures)

pub returns-in-CreateFromInput-clause-input : goal.returns-in-CreateFromInput-clause-input
returns-in-CreateFromInput-clause-input g c = record {
  unread = λ one other third. absurd (third c.in-CreateFromInput.ensures);
  at_once = λ profile needs. absurd (create_needs c.args.words.now _ profile c.in-CreateFromInput.ensures needs);
  created = λ profile ask other. absurd (other (same_create c.args.words.now profile _ ask c.in-CreateFromInput.ensures));
}

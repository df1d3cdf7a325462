use Rattle.std.proofs.Common.{Err, ap, refl, inl, inr}
use Rattle.ec_code.proofs.GivenLemmas.{accepted_unit}
use Rattle.pool_run.proofs.StatusLemmas.{nothing_said}
use Rattle.plugin_reg.proofs.OpeningLemmas.{given_not_refused}
use Rattle.pool_run.proofs.commands.try_profile.Goals as goal

pub try_script-requires-clause-some : goal.try_script-requires-clause-some
try_script-requires-clause-some g c = (accepted_unit c.in-Ok.opened.profile c.in-Ok.ensures.gives.accepted).0

pub try_script-requires-clause-few : goal.try_script-requires-clause-few
try_script-requires-clause-few g c = (accepted_unit c.in-Ok.opened.profile c.in-Ok.ensures.gives.accepted).1

pub returns-in-Ok-clause-refused : goal.returns-in-Ok-clause-refused
returns-in-Ok-clause-refused g c = λ f is. absurd (given_not_refused c.args.text.now c.in-Ok.opened.profile f c.in-Ok.ensures.gives is)

pub returns-in-Err-Profile-clause-script : goal.returns-in-Err-Profile-clause-script
returns-in-Err-Profile-clause-script g c = λ p gives. absurd (given_not_refused c.args.text.now p c.in-Err-Profile.fault gives
    (c.in-Err-Profile.ensures.refused c.in-Err-Profile.fault (ap Err c.in-Err-Profile.field-0-is)))

pub returns-in-Err-Profile-clause-refused : goal.returns-in-Err-Profile-clause-refused
returns-in-Err-Profile-clause-refused g c = λ f is. record {
  says = c.refuse.ensures.refused c.args.text.now (c.in-Err-Profile.ensures.refused c.in-Err-Profile.fault (ap Err c.in-Err-Profile.field-0-is));
  statuses = c.refuse.ensures.statuses;
  untouched = refl;
}

pub returns-in-Err-NoMemory-clause-script : goal.returns-in-Err-NoMemory-clause-script
returns-in-Err-NoMemory-clause-script g c = λ p gives. record {
  statuses = inr (inr (inr (inr (inr (inl refl)))));
  answered = λ script told. nothing_said script 13 _ _ (inr (inl refl));
}

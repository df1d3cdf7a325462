use Rattle.std.proofs.Common.{List, ℕ, Err, inl, inr, refl, ap, subst}
use Rattle.pool_run.specs.Script.{IsRun}
use Rattle.pool_run.proofs.StatusLemmas.{answered, nothing_said, too_long_said, run_statuses, long_statuses}
use Rattle.pool_run.proofs.commands.try_script.Goals as goal

pub returns-in-Ok-clause-script : goal.returns-in-Ok-clause-script
returns-in-Ok-clause-script g c = record {
  statuses = run_statuses c.run_script.result.0 c.run_script.ensures.statuses;
  answered = λ script told.
      answered script c.in-Ok.script.items c.run_script.result.0 _ _ _ _ told c.in-Ok.ensures.whole c.in-Ok.ensures.within c.run_script.ensures.statuses
      (subst (λ (s : List ℕ). IsRun s c.run_script.result.0 (g.R.Rig.said c.args.rig.now) (g.R.Rig.said c.run_script.new.rig)) c.deref.ensures.value c.run_script.ensures.run);
}

pub returns-in-Err-TooLong-clause-script : goal.returns-in-Err-TooLong-clause-script
returns-in-Err-TooLong-clause-script g c = record {
  statuses = long_statuses c.say_last.result.0 c.say_last.ensures.status;
  answered = λ script told.
      too_long_said script c.say_last.result.0 _ _ _ _ told (c.in-Err-TooLong.ensures.too_long (ap Err c.in-Err-TooLong.field-0-is)) c.say_last.ensures.status
      c.say_last.ensures.said c.say_last.ensures.front;
}

pub returns-in-Err-Failed-clause-script : goal.returns-in-Err-Failed-clause-script
returns-in-Err-Failed-clause-script g c = record {
  statuses = inr (inr (inl refl));
  answered = λ script told. nothing_said script 8 _ _ (inl refl);
}

pub returns-in-Err-NoMemory-clause-script : goal.returns-in-Err-NoMemory-clause-script
returns-in-Err-NoMemory-clause-script g c = record {
  statuses = inr (inr (inr (inr (inr (inl refl)))));
  answered = λ script told. nothing_said script 13 _ _ (inr (inl refl));
}

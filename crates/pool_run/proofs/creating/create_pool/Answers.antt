use Rattle.std.proofs.Common.{Err, ap}
use Rattle.plugin_reg.proofs.OpeningLemmas.{given_not_refused}
use Rattle.pool_run.proofs.creating.create_pool.Goals as goal

pub returns-in-Err-Profile-clause-created : goal.returns-in-Err-Profile-clause-created
returns-in-Err-Profile-clause-created g c = λ p gives. absurd (given_not_refused c.args.text.now p c.in-Err-Profile.fault gives
    (c.in-Err-Profile.ensures.refused c.in-Err-Profile.fault (ap Err c.in-Err-Profile.field-0-is)))

pub returns-in-Err-Profile-clause-refused : goal.returns-in-Err-Profile-clause-refused
returns-in-Err-Profile-clause-refused g c = λ f is. c.refuse.ensures.refused c.args.text.now (c.in-Err-Profile.ensures.refused c.in-Err-Profile.fault (ap Err c.in-Err-Profile.field-0-is))

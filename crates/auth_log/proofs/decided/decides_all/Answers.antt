use Rattle.std.proofs.Common.{◌∙◌, ◌-◌, ◌^◌, ap}
use Rattle.auth_log.proofs.DecidedLemmas.{all_decided}
use Rattle.auth_log.proofs.decided.decides_all.Goals as goal

pub returns : goal.returns
returns g c =
    all_decided ((goal.Code-dyn g c.args.code.now).meaning c.args.code.now.1) c.args.from.0 c.all_below.result.0 c.decides.result (c.all_below.ensures ∙ ap (λ n. 2 ^ n - 1) c.shape.ensures.0.same_n) c.decides.ensures

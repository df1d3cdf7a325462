use Rattle.std.proofs.Common.{List, ℕ, Err, ap, subst}
use Rattle.plugin_reg.specs.Opening.{IsRefused}
use Rattle.ec_tool.proofs.ProfileLemmas.{shows_none}
use Rattle.ec_tool.proofs.commands.validate.Goals as goal

pub returns-in_err-opened-clause-value : goal.returns-in_err-opened-clause-value
returns-in_err-opened-clause-value g c =
    shows_none c.args.profile.now _ c.in_err-opened.field-0.0 c.from_residual.result
    (λ f e. subst (λ (t : List ℕ). IsRefused t f) c.as_bytes.ensures.value (c.in_err-opened.ensures.refused f (ap Err e))) c.from_residual.ensures.1

use Rattle.std.proofs.Common.{List, ℕ, Err, inr, refl, ap, sym, subst}
use Rattle.ec_code.specs.Refusals.{IsCodeOf}
use Rattle.plugin_reg.specs.Opening.{GivesProfile, IsRefused}
use Rattle.ec_tool.proofs.ProfileLemmas.{shows_none}
use Rattle.ec_tool.proofs.commands.size.Goals as goal

pub returns-in_err-opened-clause-value : goal.returns-in_err-opened-clause-value
returns-in_err-opened-clause-value g c =
    shows_none c.args.profile.now _ c.in_err-opened.field-0.0 c.from_residual.result
    (λ f e. subst (λ (t : List ℕ). IsRefused t f) c.as_bytes.ensures.value (c.in_err-opened.ensures.refused f (ap Err e))) c.from_residual.ensures.1

pub returns-clause-value : goal.returns-clause-value
returns-clause-value g c =
    let code = (goal.Code-dyn g c.as_ref.result.now).meaning c.as_ref.result.now.1 in
    let opened = c.in_ok-opened.opened in
    inr (inr (
      opened.profile,
      code,
      subst (λ (t : List ℕ). GivesProfile t opened.profile) c.as_bytes.ensures.value c.in_ok-opened.ensures.gives,
      subst (λ pair. IsCodeOf opened.profile ((goal.Code-dyn g pair).meaning pair.1)) (sym c.as_ref.ensures.1) (c.in_ok-opened.ensures.picked.made c.index-codes-opened.result),
      refl,
      c.in_ok-text.ensures,
    ))

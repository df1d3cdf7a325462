use Rattle.std.proofs.Common.{inr, subst}
use Rattle.ec_code.specs.declared.fault.ProfileFault.{ProfileFault}
use Rattle.profile_texts.proofs.FaultLemmas.{same_fault}
use Rattle.plugin_reg.specs.Opening.{IsRefused}
use Rattle.plugin_reg.proofs.opening.open_profile.Goals as goal

pub returns-in-Err-clause-refused : goal.returns-in-Err-clause-refused
returns-in-Err-clause-refused g c = λ fault e.
    subst (λ (f : ProfileFault). IsRefused c.args.text.now f) (same_fault c.in-Err.fault fault e)
    (inr (c.in_ok-profile.profile, c.in_ok-profile.ensures.value, c.in-Err.ensures.refused (c.requires c.in_ok-profile.profile.plugin)))

pub returns-in-Ok-clause-picked : goal.returns-in-Ok-clause-picked
returns-in-Ok-clause-picked g c = c.in-Ok.ensures.picked

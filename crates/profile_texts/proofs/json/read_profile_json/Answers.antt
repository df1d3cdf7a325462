use Rattle.std.proofs.Common.{◌≡◌, Result, Ok, Err, IfOk, true≢false, ap, sym, ◌∙◌, subst}
use Rattle.ec_code.specs.declared.profile.Profile.{Profile}
use Rattle.ec_code.specs.declared.fault.ProfileFault.{ProfileFault}
use Rattle.ec_code.specs.JsonProfiles.{profile_of_value}
use Rattle.ec_code.proofs.GivenLemmas.{of_json_text, of_no_json}
use Rattle.profile_texts.proofs.FaultLemmas.{same_fault}
use Rattle.profile_texts.proofs.json.read_profile_json.Goals as goal

pub returns-in-Ok-clause-value : goal.returns-in-Ok-clause-value
returns-in-Ok-clause-value c =
    let same = of_json_text c.args.text.now c.in-Ok.ensures.ok.0 ∙ ap profile_of_value c.in-Ok.ensures.ok.1 in
    subst (λ (read : Result Profile ProfileFault). IfOk c.profile_of_value.result (λ profile. read ≡ Ok profile)) (sym same) c.profile_of_value.ensures.value

pub returns-in-Ok-clause-refused : goal.returns-in-Ok-clause-refused
returns-in-Ok-clause-refused c = λ fault e.
    of_json_text c.args.text.now c.in-Ok.ensures.ok.0 ∙ ap profile_of_value c.in-Ok.ensures.ok.1 ∙ c.profile_of_value.ensures.refused fault e

pub returns-in-Err-2-clause-refused : goal.returns-in-Err-2-clause-refused
returns-in-Err-2-clause-refused c = λ fault e.
    of_no_json c.args.text.now (c.in-Err.ensures.err (λ m. true≢false (sym (c.is_memory.ensures.1 m) ∙ c.if-is_memory.false)))
    ∙ ap Err (same_fault _ fault e)

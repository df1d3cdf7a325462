use Rattle.std.proofs.Common.{◌≡◌, ℕ, List, Result, Ok, Err, IfOk, ap, sym, ◌∙◌, subst}
use Rattle.std.specs.Str.{IsUtf8}
use Rattle.ec_code.specs.declared.profile.Profile.{Profile}
use Rattle.ec_code.specs.declared.fault.ProfileFault.{ProfileFault}
use Rattle.ec_code.specs.JsonProfiles.{profile_of_settings_text}
use Rattle.ec_code.specs.Readings.{profile_of}
use Rattle.ec_code.proofs.GivenLemmas.{of_text, of_no_text}
use Rattle.profile_texts.proofs.FaultLemmas.{same_fault}
use Rattle.profile_texts.proofs.json.read_settings_text.Goals as goal

text_read : (bytes text : List ℕ) → text ≡ bytes → IsUtf8 bytes → profile_of_settings_text bytes ≡ profile_of text
text_read bytes text same utf8 = of_text bytes utf8 ∙ ap profile_of (sym same)

pub returns-in-Ok-clause-value : goal.returns-in-Ok-clause-value
returns-in-Ok-clause-value c =
    let same = text_read c.args.text.now c.in-Ok.text.now c.in-Ok.ensures.cases.0 c.in-Ok.ensures.cases.1 in
    subst (λ (read : Result Profile ProfileFault). IfOk c.read_profile.result (λ profile. read ≡ Ok profile)) (sym same) c.read_profile.ensures.value

pub returns-in-Ok-clause-refused : goal.returns-in-Ok-clause-refused
returns-in-Ok-clause-refused c = λ fault e.
    text_read c.args.text.now c.in-Ok.text.now c.in-Ok.ensures.cases.0 c.in-Ok.ensures.cases.1 ∙ c.read_profile.ensures.refused fault e

pub returns-in-Err-clause-refused : goal.returns-in-Err-clause-refused
returns-in-Err-clause-refused c = λ fault e.
    of_no_text c.args.text.now c.in-Err.ensures.cases.0 ∙ ap Err (same_fault _ fault e)

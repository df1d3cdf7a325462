use Rattle.std.proofs.Common.{◌≡◌, Result, Ok, IfOk, sym, ◌∙◌, subst}
use Rattle.ec_code.specs.declared.profile.Profile.{Profile}
use Rattle.ec_code.specs.declared.fault.ProfileFault.{ProfileFault}
use Rattle.ec_code.proofs.GivenLemmas.{of_object, of_settings}
use Rattle.profile_texts.proofs.json.read_any.Goals as goal

pub returns-then-begins_object-clause-value : goal.returns-then-begins_object-clause-value
returns-then-begins_object-clause-value c =
    let same = of_object c.args.text.now (sym c.begins_object.ensures ∙ c.if-begins_object.true) in
    subst (λ (read : Result Profile ProfileFault). IfOk c.read_profile_json.result (λ profile. read ≡ Ok profile)) (sym same) c.read_profile_json.ensures.value

pub returns-then-begins_object-clause-refused : goal.returns-then-begins_object-clause-refused
returns-then-begins_object-clause-refused c = λ fault e.
    of_object c.args.text.now (sym c.begins_object.ensures ∙ c.if-begins_object.true) ∙ c.read_profile_json.ensures.refused fault e

pub returns-else-begins_object-clause-value : goal.returns-else-begins_object-clause-value
returns-else-begins_object-clause-value c =
    let same = of_settings c.args.text.now (sym c.begins_object.ensures ∙ c.if-begins_object.false) in
    subst (λ (read : Result Profile ProfileFault). IfOk c.read_settings_text.result (λ profile. read ≡ Ok profile)) (sym same) c.read_settings_text.ensures.value

pub returns-else-begins_object-clause-refused : goal.returns-else-begins_object-clause-refused
returns-else-begins_object-clause-refused c = λ fault e.
    of_settings c.args.text.now (sym c.begins_object.ensures ∙ c.if-begins_object.false) ∙ c.read_settings_text.ensures.refused fault e

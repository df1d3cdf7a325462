use Rattle.std.proofs.Common.{ap, sym, ◌∙◌}
use Rattle.ec_code.specs.Readings.{profile_with}
use Rattle.profile_texts.specs.SettingTexts.{shown}
use Rattle.profile_texts.proofs.reading.profile_with.Goals as goal

pub returns-in-Jerasure : goal.returns-in-Jerasure
returns-in-Jerasure c = λ given e. c.jerasure_profile.ensures given ∙ ap (λ p. profile_with p given (shown c.args.settings.now)) (sym c.in-Jerasure.is)

pub returns-in-Shec : goal.returns-in-Shec
returns-in-Shec c = λ given e. c.shec_profile.ensures given ∙ ap (λ p. profile_with p given (shown c.args.settings.now)) (sym c.in-Shec.is)

use Rattle.std.proofs.Common.{◌≡◌, take}
use Rattle.std.specs.Option.{option_map}
use Rattle.ec_code.specs.Settings.{value_of}
use Rattle.profile_texts.specs.SettingTexts.{shown}
use Rattle.profile_texts.proofs.settings.value_of.Given as goal

abbrev pub invariant-loop-setting : goal.invariant-loop-setting
invariant-loop-setting l = option_map (λ v. v.now) l.value ≡ value_of (shown (take l.setting-index l.settings)) l.key

use Rattle.std.proofs.Common.{◌≡◌, take}
use Rattle.profile_texts.specs.SettingTexts.{shown, shown_members}
use Rattle.profile_texts.proofs.json.settings.Given as goal

abbrev pub invariant-loop-member : goal.invariant-loop-member
invariant-loop-member l = shown l.list.items ≡ shown_members (take l.member-index l.members)

use Rattle.std.proofs.Common.{◌≡◌, ◌++◌}
use Rattle.ec_code.specs.JsonProfiles.{settings_of_members}
use Rattle.serde_json.specs.View.{members_view}
use Rattle.profile_texts.specs.SettingTexts.{shown_members}
use Rattle.profile_texts.proofs.json.member_texts.Given as goal

abbrev pub invariant-loop-key : goal.invariant-loop-key
invariant-loop-key l = shown_members l.list.items ++ settings_of_members (members_view l.key-iterator) ≡ settings_of_members (members_view l.members.entries)

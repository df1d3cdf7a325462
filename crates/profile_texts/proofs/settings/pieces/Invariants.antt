use Rattle.std.proofs.Common.{◌≡◌, ◌≤◌, ◌++◌}
use Rattle.ec_code.specs.Settings.{pieces_from}
use Rattle.profile_texts.specs.SettingTexts.{bytes_of}
use Rattle.profile_texts.proofs.SettingLemmas.{pieces_left}
use Rattle.profile_texts.proofs.settings.pieces.Given as goal

abbrev pub invariant-loop-i : goal.invariant-loop-i
invariant-loop-i l = record {
  level : l.level ≤ l.i;
  start : l.start ≤ l.i;
  pieces : bytes_of l.list.items ++ pieces_left l.text l.start l.i l.level ≡ pieces_from 0 l.text;
}

use Rattle.std.proofs.Common.{◌≡◌, ◌++◌, drop, map}
use Rattle.std.specs.List.{list_all}
use Rattle.ec_code.specs.Settings.{is_setting, setting_of}
use Rattle.profile_texts.specs.SettingTexts.{bytes_of, texts_in, shown}
use Rattle.profile_texts.proofs.settings.settings_in.Given as goal

abbrev pub invariant-loop-piece : goal.invariant-loop-piece
invariant-loop-piece l = record {
  settings : shown l.list.items ++ map setting_of (texts_in (bytes_of (drop l.piece-index l.pieces))) ≡ map setting_of (texts_in (bytes_of l.pieces));
  each : list_all is_setting (texts_in (bytes_of (drop l.piece-index l.pieces))) ≡ list_all is_setting (texts_in (bytes_of l.pieces));
}

pub mod SettingTexts

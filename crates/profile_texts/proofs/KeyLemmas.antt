-- The keys of settings.
use Rattle.std.proofs.Common.{◌≡◌, ℕ, Bool, ◌||◌, List, [], ◌∷◌, map, refl, ap}
use Rattle.std.specs.List.{list_any}
use Rattle.ec_code.specs.Settings.{keys_of}
use Rattle.profile_texts.specs.declared.settings.SettingText.{SettingText}
use Rattle.profile_texts.specs.SettingTexts.{shown}

pub keys_of_shown : (list : List SettingText) → map (λ s. s.key.now) list ≡ keys_of (shown list)
keys_of_shown [] = refl
keys_of_shown (s ∷ list) = ap (λ keys. s.key.now ∷ keys) (keys_of_shown list)

pub any_key_of_shown : (p : List ℕ → Bool) (list : List SettingText) → list_any (λ s. p s.key.now) list ≡ list_any p (keys_of (shown list))
any_key_of_shown p [] = refl
any_key_of_shown p (s ∷ list) = ap (λ b. p s.key.now || b) (any_key_of_shown p list)

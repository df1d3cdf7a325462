-- What the settings of a profile of the plugin jerasure are read as.
use Rattle.std.proofs.Common.{◌≡◌, ℕ, Bool, true, false, not, cond, List, [], ◌∷◌, ◌++◌, ◌+◌, ◌-◌, ◌<◌, ◌^◌, ◌%◌, ◌&&◌, ◌||◌, length, take, Some, None, Ok, Err, refl, ap, sym, ◌∙◌, arith}
use Rattle.std.specs.Prelude.{filter, codes, is_some, nat_eq, nat_lt}
use Rattle.std.specs.List.{list_all, ends_with}
use Rattle.std.specs.Option.{option_and_then}
use Rattle.std.specs.Cmp.Lexicographic.{pointwise}
use Rattle.std.specs.Fmt.{decimal, digits}
use Rattle.std.specs.Str.Parse.{digits_value}
use Rattle.std.specs.declared.option.Option.{Option}
use Rattle.std.proofs.lemmas.List.{drop_at, length-append}
use Rattle.std.proofs.lemmas.Bool.{lt-ltb}
use Rattle.std.proofs.lemmas.Bool.Decides.{nat_tests}
use Rattle.std.proofs.lemmas.Slice.Eq.{bytes_eq-Decides}
use Rattle.std.proofs.lemmas.Fmt.{decimal_is_IsNumeral, decimal_by_steps}
use Rattle.ec_code.specs.declared.profile.Plugin.TheVariants as plugin
use Rattle.ec_code.specs.declared.profile.Technique.TheVariants as technique
use Rattle.ec_code.specs.declared.fault.ProfileFault.TheVariants as fault
use Rattle.ec_code.specs.Settings.{Setting, has_settings, settings_of, keys_of}
use Rattle.ec_code.specs.Readings.{number_of_text, kibibytes, unit_of_text, is_bad, bad_key, least_text, value_or, refused_by, plugin_of, profile_with, profile_of_plugin, profile_of_settings, profile_of, layers_at, GivenLayers, jerasure_profile}

-- the digits of a number are read as it
pub number_read : (n : ℕ) → n < 2 ^ 32 → number_of_text (decimal n) ≡ Some n
number_read n lt =
    let v : digits_value 10 (decimal n) ≡ n = (decimal_is_IsNumeral n (omega arith)).1 in
    let same = (bytes_eq-Decides (decimal n) (decimal (digits_value 10 (decimal n)))).1 (ap decimal (sym v)) in
    let small = lt-ltb (digits_value 10 (decimal n)) (2 ^ 32) (omega arith) in
    ap (λ b. cond (b && nat_lt (digits_value 10 (decimal n)) (2 ^ 32)) (Some (digits_value 10 (decimal n))) None) same
    ∙ ap (λ b. cond b (Some (digits_value 10 (decimal n))) None) small
    ∙ ap Some v

-- no digit is a `K`
no_K : (ds : List ℕ) (b : ℕ) → b < 58 → ends_with nat_eq (ds ++ b ∷ []) (75 ∷ []) ≡ false
no_K ds b lt =
    let differs : (nat_eq 75 b && true) ≡ false = grind (arith, nat_tests) in
    ap (pointwise nat_eq (75 ∷ [])) (drop_at ds (b ∷ []) (length (ds ++ b ∷ []) - 1) (omega (arith, length-append ds (b ∷ [])))) ∙ differs

pub unit_read : (n : ℕ) → n < 2 ^ 32 → unit_of_text (decimal n) ≡ Some n
unit_read n lt =
    let without = decimal_by_steps (λ _ ds. ends_with nat_eq ds (75 ∷ []) ≡ false)
    (λ d l. no_K [] (48 + d) (omega arith)) (λ d ds l _. no_K ds (48 + d % 10) (omega arith)) n (omega arith) in
    ap (λ b. cond b (option_and_then kibibytes (number_of_text (take (length (decimal n) - 1) (decimal n)))) (number_of_text (decimal n))) without
    ∙ number_read n lt

-- the settings of the plugin jerasure with these texts of numbers
abbrev settings_with : List ℕ → List ℕ → List ℕ → List ℕ → List Setting
settings_with k m least unit =
    record { key = codes "k"; value = k } ∷ record { key = codes "m"; value = m }
    ∷ record { key = codes "min_size"; value = least } ∷ record { key = codes "plugin"; value = codes "jerasure" }
    ∷ record { key = codes "stripe_unit"; value = unit } ∷ record { key = codes "technique"; value = codes "reed_sol_van" }
    ∷ record { key = codes "w"; value = codes "8" } ∷ []

pub none_pass : (p : List ℕ → Bool) (xs : List (List ℕ)) → list_all (λ x. not (p x)) xs ≡ true → filter p xs ≡ []
none_pass p [] e = refl
none_pass p (x ∷ xs) e = by (p x) (none_pass p xs) e
  where
    by : (b : Bool) → (list_all (λ x. not (p x)) xs ≡ true → filter p xs ≡ []) → (not b && list_all (λ x. not (p x)) xs) ≡ true → cond b (x ∷ filter p xs) (filter p xs) ≡ []
    by true rest f = absurd (cc)
    by false rest f = rest f

-- each value has its form, where the numbers are read
module _ (layers : GivenLayers) (k m least unit : List ℕ) (k' m' least' unit' : ℕ)
    (first : number_of_text k ≡ Some k') (second : number_of_text m ≡ Some m') (third : number_of_text least ≡ Some least') (fourth : unit_of_text unit ≡ Some unit') where
  all_read : {X : Type 0} (f : Option ℕ → Option ℕ → Option ℕ → Option ℕ → X)
      → f (number_of_text k) (number_of_text m) (number_of_text least) (unit_of_text unit) ≡ f (Some k') (Some m') (Some least') (Some unit')
  all_read f =
      ap (λ o. f o (number_of_text m) (number_of_text least) (unit_of_text unit)) first
      ∙ ap (λ o. f (Some k') o (number_of_text least) (unit_of_text unit)) second
      ∙ ap (λ o. f (Some k') (Some m') o (unit_of_text unit)) third
      ∙ ap (λ o. f (Some k') (Some m') (Some least') o) fourth

  bad_none : bad_key layers (settings_with k m least unit) ≡ None
  unfolding digits
  bad_none = ap least_text (none_pass (is_bad layers (settings_with k m least unit)) (keys_of (settings_with k m least unit))
      (all_read (λ k m least unit. not (not (is_some k) || false) && (not (not (is_some m) || false) && (not (not (is_some least) || false) && (not (not (is_some unit) || false) && true))))))

  profile_is : profile_with plugin.Jerasure layers (settings_with k m least unit) ≡ jerasure_profile k' m' least' unit'
  unfolding digits
  profile_is = all_read (λ k m least unit. record {
    plugin = plugin.Jerasure;
    k = k;
    m = m;
    c = None;
    l = None;
    w = Some 8;
    technique = Some technique.ReedSolVan;
    mapping = None;
    layers = None;
    stripe_unit = value_or 4096 unit;
    min_size = least;
  })

  pub settings_read : profile_of_plugin (plugin_of (settings_with k m least unit)) layers (settings_with k m least unit) ≡ Ok (jerasure_profile k' m' least' unit')
  settings_read =
      ap (λ bad. refused_by fault.BadValue bad (Ok (profile_with plugin.Jerasure layers (settings_with k m least unit)))) bad_none
      ∙ ap Ok profile_is

-- a text whose settings are those of these numbers is read as the profile with them
pub profile_of_canonical : (text : List ℕ) (k m least unit : ℕ) → k < 2 ^ 32 → m < 2 ^ 32 → least < 2 ^ 32 → unit < 2 ^ 32 → has_settings text ≡ true
    → settings_of text ≡ settings_with (decimal k) (decimal m) (decimal least) (decimal unit) → profile_of text ≡ Ok (jerasure_profile k m least unit)
profile_of_canonical text k m least unit lk lm ll lu has is =
    ap (λ h. cond (not h) (Err fault.Setting) (profile_of_settings (layers_at (settings_of text)) (settings_of text))) has
    ∙ ap (λ s. profile_of_settings (layers_at s) s) is
    ∙ settings_read (layers_at (settings_with (decimal k) (decimal m) (decimal least) (decimal unit))) (decimal k) (decimal m) (decimal least) (decimal unit) k m least unit (number_read k lk) (number_read m lm) (number_read least ll) (unit_read unit lu)

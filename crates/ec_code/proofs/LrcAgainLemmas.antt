-- What the settings k, l and m of a profile of the plugin lrc are read as: a profile that is accepted too, and means the same code.
use Rattle.std.proofs.Common.{◌≡◌, ◌⊎◌, ℕ, true, false, not, cond, List, [], ◌∷◌, ◌+◌, ◌<◌, ◌≤◌, ◌^◌, ◌==◌, ◌&&◌, ◌||◌, length, Some, None, Ok, Err, refl, ap, sym, ◌∙◌, subst, arith, inl, inr}
use Rattle.std.specs.Prelude.{codes, is_some}
use Rattle.std.specs.Fmt.{decimal, digits}
use Rattle.std.specs.declared.option.Option.{Option}
use Rattle.std.proofs.lemmas.List.Sums.{count_by-le-length}
use Rattle.std.proofs.Math.Nat.{mod-eq_of_lt}
use Rattle.ec_model.specs.Codes.{CodeRows}
use Rattle.ec_model.specs.Lrc.{IsLrc, MakesGroups, data_count, position_count, mapping_of, layers_of}
use Rattle.ec_code.specs.declared.profile.Plugin.TheVariants as plugin
use Rattle.ec_code.specs.declared.profile.Profile.{Profile}
use Rattle.ec_code.specs.declared.fault.ProfileFault.{ProfileFault}
use Rattle.ec_code.specs.declared.fault.ProfileFault.TheVariants as fault
use Rattle.ec_code.specs.declared.fault.Key.TheVariants as key
use Rattle.ec_code.specs.Settings.{Setting, has_settings, settings_of, keys_of}
use Rattle.ec_code.specs.LrcFaults.{HasLayoutFault, HasNumbersFault, GivenNumbers}
use Rattle.ec_code.specs.Readings.{number_of_text, unit_of_text, is_bad, bad_key, least_text, value_or, refused_by, plugin_of, profile_with, profile_of_plugin, profile_of_settings, profile_of, layers_at}
use Rattle.ec_code.specs.Refusals.{Given, IsAccepted, IsCodeOf}
use Rattle.ec_code.proofs.ReadingLemmas.{number_read, unit_read, none_pass}
use Rattle.ec_code.proofs.AgainLemmas.{IsLeastOf, some_same}
use Rattle.ec_code.proofs.ShecAgainLemmas.{five_read, neither, up_from}
use Rattle.ec_code.proofs.LayoutLemmas.{length_of_made}
use Rattle.ec_code.proofs.LrcRefusalLemmas.{HasKml, made_to, made_layout_accepted, code_by_kml, lrc_code_by}

-- the profile of the plugin lrc with these numbers
abbrev pub number_profile : ℕ → ℕ → ℕ → ℕ → ℕ → Profile
number_profile k l m least unit = record {
  plugin = plugin.Lrc;
  k = Some k;
  m = Some m;
  c = None;
  l = Some l;
  w = None;
  technique = None;
  mapping = None;
  layers = None;
  stripe_unit = unit;
  min_size = Some least;
}

-- the settings of the plugin lrc with these texts of numbers
abbrev pub number_texts : List ℕ → List ℕ → List ℕ → List ℕ → List ℕ → List Setting
number_texts k l m least unit =
    record { key = codes "k"; value = k } ∷ record { key = codes "l"; value = l } ∷ record { key = codes "m"; value = m }
    ∷ record { key = codes "min_size"; value = least } ∷ record { key = codes "plugin"; value = codes "lrc" }
    ∷ record { key = codes "stripe_unit"; value = unit } ∷ []

module _ (k l m least unit : List ℕ) (k' l' m' least' unit' : ℕ)
    (first : number_of_text k ≡ Some k') (second : number_of_text l ≡ Some l') (third : number_of_text m ≡ Some m')
    (fourth : number_of_text least ≡ Some least') (fifth : unit_of_text unit ≡ Some unit') where
  bad_none : bad_key (layers_at (number_texts k l m least unit)) (number_texts k l m least unit) ≡ None
  unfolding digits
  bad_none = ap least_text (none_pass (is_bad (layers_at (number_texts k l m least unit)) (number_texts k l m least unit)) (keys_of (number_texts k l m least unit))
      (five_read k l m least unit k' l' m' least' unit' first second third fourth fifth
      (λ k l m least unit. not (not (is_some k) || false) && (not (not (is_some l) || false) && (not (not (is_some m) || false) && (not (not (is_some least) || false) && (not (not (is_some unit) || false) && true)))))))

  profile_is : profile_with plugin.Lrc (layers_at (number_texts k l m least unit)) (number_texts k l m least unit) ≡ number_profile k' l' m' least' unit'
  unfolding digits
  profile_is = five_read k l m least unit k' l' m' least' unit' first second third fourth fifth (λ k l m least unit. record {
    plugin = plugin.Lrc;
    k = k;
    m = m;
    c = None;
    l = l;
    w = None;
    technique = None;
    mapping = None;
    layers = None;
    stripe_unit = value_or 4096 unit;
    min_size = least;
  })

  settings_read : profile_of_plugin (plugin_of (number_texts k l m least unit)) (layers_at (number_texts k l m least unit)) (number_texts k l m least unit)
      ≡ Ok (number_profile k' l' m' least' unit')
  settings_read =
      ap (λ bad. refused_by fault.BadValue bad (Ok (profile_with plugin.Lrc (layers_at (number_texts k l m least unit)) (number_texts k l m least unit)))) bad_none
      ∙ ap Ok profile_is

-- a text whose settings are those of these numbers is read as the profile with them
pub numbers_read : (text : List ℕ) (k l m least unit : ℕ) → k < 2 ^ 32 → l < 2 ^ 32 → m < 2 ^ 32 → least < 2 ^ 32 → unit < 2 ^ 32 → has_settings text ≡ true
    → settings_of text ≡ number_texts (decimal k) (decimal l) (decimal m) (decimal least) (decimal unit) → profile_of text ≡ Ok (number_profile k l m least unit)
numbers_read text k l m least unit lk ll lm ls lu has is =
    ap (λ h. cond (not h) (Err fault.Setting) (profile_of_settings (layers_at (settings_of text)) (settings_of text))) has
    ∙ ap (λ s. profile_of_settings (layers_at s) s) is
    ∙ settings_read (decimal k) (decimal l) (decimal m) (decimal least) (decimal unit) k l m least unit (number_read k lk) (number_read l ll) (number_read m lm) (number_read least ls) (unit_read unit lu)

-- a number is below the data chunks of a mapping, or above its positions
abbrev pub IsOff : List ℕ → ℕ → Type 0
IsOff mapping least = (least < data_count mapping) ⊎ (length mapping < least)

-- the least number of positions is not off where the one that was given isn't
least_stands : (mapping : List ℕ) (s : Option ℕ) (least : ℕ) → IsLeastOf s (data_count mapping) (length mapping) least
    → (Given s (IsOff mapping) → ⊥) → Given {A = ℕ} (Some least) (IsOff mapping) → ⊥
least_stands mapping (Some given) least is ok h = ok (given, refl, subst (IsOff mapping) (sym (some_same least h.0 h.1) ∙ is) h.2)
least_stands mapping None least is ok h =
    let one = some_same least h.0 h.1 in
    let le = count_by-le-length (λ b. b == 68) mapping in
    neither (λ low. omega (arith, one, is, low)) (λ high. omega (arith, one, is, high, le)) h.2

least_within : (mapping : List ℕ) (s : Option ℕ) (least : ℕ) → IsLeastOf s (data_count mapping) (length mapping) least
    → (Given s (IsOff mapping) → ⊥) → least ≤ length mapping
least_within mapping (Some given) least is ok = let high = up_from (length mapping) given (λ more. ok (given, refl, inr more)) in omega (arith, is, high)
least_within mapping None least is ok = let le = count_by-le-length (λ b. b == 68) mapping in omega (arith, is, le)

-- what is wrong with a layout, where the least number of positions is written down
least_given : (mapping : List ℕ) (layers : List (List ℕ)) (unit : ℕ) (s : Option ℕ) (least : ℕ) → IsLeastOf s (data_count mapping) (length mapping) least
    → ((f : ProfileFault) → HasLayoutFault mapping layers unit s f → ⊥) → (f : ProfileFault) → HasLayoutFault mapping layers unit (Some least) f → ⊥
least_given mapping layers unit s least is ok fault.UnknownPlugin h = h
least_given mapping layers unit s least is ok (fault.UnknownKey name) h = h
least_given mapping layers unit s least is ok (fault.BadValue name) h = h
least_given mapping layers unit s least is ok (fault.Missing key.K) h = h
least_given mapping layers unit s least is ok (fault.Missing key.M) h = h
least_given mapping layers unit s least is ok (fault.Missing key.C) h = h
least_given mapping layers unit s least is ok (fault.Missing key.L) h = h
least_given mapping layers unit s least is ok (fault.Missing key.Technique) h = h
least_given mapping layers unit s least is ok (fault.Missing key.Mapping) h = h
least_given mapping layers unit s least is ok (fault.Missing key.Layers) h = h
least_given mapping layers unit s least is ok fault.Technique h = h
least_given mapping layers unit s least is ok fault.Width h = h
least_given mapping layers unit s least is ok fault.SmallK h = h
least_given mapping layers unit s least is ok fault.SmallM h = h
least_given mapping layers unit s least is ok fault.TooMany h = h
least_given mapping layers unit s least is ok fault.Divides h = h
least_given mapping layers unit s least is ok fault.LayerLength h = ok fault.LayerLength h
least_given mapping layers unit s least is ok fault.LayerInput h = ok fault.LayerInput h
least_given mapping layers unit s least is ok fault.LayerOutput h = ok fault.LayerOutput h
least_given mapping layers unit s least is ok fault.Unit h = ok fault.Unit h
least_given mapping layers unit s least is ok fault.MinSize h = least_stands mapping s least is (ok fault.MinSize) h
least_given mapping layers unit s least is ok fault.Order h = h
least_given mapping layers unit s least is ok fault.Json h = h
least_given mapping layers unit s least is ok fault.Setting h = h

-- what is known of a layout without a fault and its code, where the least number of positions is written down
pub record IsLayoutAgain (mapping : List ℕ) (layers : List (List ℕ)) (unit least : ℕ) : Type 0 where
  pub fine : (f : ProfileFault) → HasLayoutFault mapping layers unit (Some least) f → ⊥
  pub small : least ≤ length mapping

pub layout_again : (mapping : List ℕ) (layers : List (List ℕ)) (unit : ℕ) (s : Option ℕ) (least : ℕ) (code : CodeRows) → IsLrc mapping layers code
    → IsLeastOf s code.k code.n least → ((f : ProfileFault) → HasLayoutFault mapping layers unit s f → ⊥) → IsLayoutAgain mapping layers unit least
layout_again mapping layers unit s least code rows is ok =
    let at : IsLeastOf s (data_count mapping) (length mapping) least =
    subst (λ (n : ℕ). IsLeastOf s (data_count mapping) n least) rows.positions (subst (λ (x : ℕ). IsLeastOf s x code.n least) rows.data_chunks is) in
    record { fine = least_given mapping layers unit s least at ok; small = least_within mapping s least at (ok fault.MinSize) }

-- what is known of an accepted profile with k, m and l, and its code
pub record IsKmlAgain (p : Profile) (code : CodeRows) (least : ℕ) : Type 0 where
  pub k : ℕ
  pub l : ℕ
  pub m : ℕ
  pub first : p.k ≡ Some k
  pub second : p.l ≡ Some l
  pub third : p.m ≡ Some m
  pub small_k : k ≤ 16
  pub small_l : l ≤ 16
  pub small_m : m ≤ 16
  pub small_least : least ≤ 16
  pub accepted : IsAccepted (number_profile k l m least p.stripe_unit)
  pub code_of : IsCodeOf (number_profile k l m least p.stripe_unit) code

-- each of the numbers is at most that of the positions, and that is at most 16
few_positions : (k m l : ℕ) → MakesGroups k m l → position_count k m l ≤ 16
few_positions k m l g = up_from 16 (position_count k m l) (λ more. g.few (up_from l 1 (λ none. g.even (inl (omega (arith, none)))), more))

few_in_group : (k m l : ℕ) → MakesGroups k m l → l ≤ k + m
few_in_group k m l g = up_from (k + m) l (λ less. g.even (inr (inl (λ e. omega (arith, e, mod-eq_of_lt less, g.some_data)))))

kml_by : (p : Profile) (code : CodeRows) (k l m least : ℕ) → HasKml p k m l → ((f : ProfileFault) → HasNumbersFault p f → ⊥)
    → IsLrc (mapping_of k m l) (layers_of k m l) code → IsLeastOf p.min_size code.k code.n least → IsKmlAgain p code least
kml_by p code k l m least h ok rows is =
    let groups : MakesGroups k m l = record {
      some_data = up_from k 1 (λ less. ok fault.SmallK (k, h.first, less));
      some_coding = up_from m 1 (λ less. ok fault.SmallM (m, h.second, less));
      few = λ many. ok fault.TooMany (k, h.first, (m, h.second, (l, h.third, many)));
      even = λ uneven. ok fault.Divides (k, h.first, (m, h.second, (l, h.third, uneven)));
    } in
    let layout = layout_again (mapping_of k m l) (layers_of k m l) p.stripe_unit p.min_size least code rows is (λ f bad. ok f (made_to p k m l h f bad)) in
    let again : HasKml (number_profile k l m least p.stripe_unit) k m l = record { of_lrc = refl; first = refl; second = refl; third = refl } in
    let few = few_positions k m l groups in
    let long = length_of_made k m l in
    record {
      k = k;
      l = l;
      m = m;
      first = h.first;
      second = h.third;
      third = h.second;
      small_k = omega (arith, few);
      small_l = omega (arith, few, few_in_group k m l groups);
      small_m = omega (arith, few);
      small_least = omega (arith, few, long, layout.small);
      accepted = made_layout_accepted (number_profile k l m least p.stripe_unit) k m l again groups layout.fine;
      code_of = lrc_code_by (number_profile k l m least p.stripe_unit) refl code (code_by_kml (number_profile k l m least p.stripe_unit) k m l code again rows);
    }

pub kml_again : (p : Profile) (code : CodeRows) (least : ℕ) → p.plugin ≡ plugin.Lrc → ((f : ProfileFault) → HasNumbersFault p f → ⊥)
    → GivenNumbers p (λ k m l. IsLrc (mapping_of k m l) (layers_of k m l) code) → IsLeastOf p.min_size code.k code.n least → IsKmlAgain p code least
kml_again p code least of_lrc ok is l =
    kml_by p code is.0 is.2.2.0 is.2.0 least (record { of_lrc = of_lrc; first = is.1; second = is.2.1; third = is.2.2.1 }) ok is.2.2.2 l

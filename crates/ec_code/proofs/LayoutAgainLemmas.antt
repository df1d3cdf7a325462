-- What the settings mapping and layers of a profile of the plugin lrc are read as: a profile that is accepted too, and means the
-- same code.
use Rattle.std.proofs.Common.{◌≡◌, ℕ, Bool, true, false, not, cond, List, [], ◌∷◌, ◌<◌, ◌≤◌, ◌^◌, ◌==◌, ◌&&◌, ◌||◌, length, Some, None, Ok, Err, refl, ap, sym, ◌∙◌, subst, arith}
use Rattle.std.specs.Prelude.{codes, is_some, slice_index_or}
use Rattle.std.specs.Fmt.{decimal, digits}
use Rattle.std.specs.Option.{option_map}
use Rattle.std.specs.declared.option.Option.{Option}
use Rattle.std.proofs.lemmas.List.Sums.{count_by-le-length}
use Rattle.ec_model.specs.Codes.{CodeRows}
use Rattle.ec_model.specs.Lrc.{IsLrc, data_count}
use Rattle.ec_code.specs.declared.mapping.Layers.{Layers}
use Rattle.ec_code.specs.declared.mapping.Mapping.{Mapping}
use Rattle.ec_code.specs.declared.profile.Plugin.TheVariants as plugin
use Rattle.ec_code.specs.declared.profile.Profile.{Profile}
use Rattle.ec_code.specs.declared.fault.ProfileFault.{ProfileFault}
use Rattle.ec_code.specs.declared.fault.ProfileFault.TheVariants as fault
use Rattle.ec_code.specs.LayerTexts.{layers_of_text}
use Rattle.ec_code.specs.LayerValues.{mapping_value, layers_value}
use Rattle.ec_code.specs.LrcFaults.{HasWrittenFault, GivenTexts, mapping_text, layer_texts, has_number, data_chunks_of}
use Rattle.ec_code.specs.Readings.{number_of_text, unit_of_text, is_mapping, is_bad, bad_key, least_text, value_or, refused_by, plugin_of, profile_with, profile_of_plugin, profile_of_settings, profile_of, layers_at, GivenLayers}
use Rattle.ec_code.specs.Refusals.{IsAccepted, IsCodeOf}
use Rattle.ec_code.specs.Settings.{Setting, has_settings, settings_of, keys_of}
use Rattle.ec_code.proofs.AgainLemmas.{IsLeastOf}
use Rattle.ec_code.proofs.KeptLemmas.{AreShort, mapping_back, layer_texts_back, few_layers}
use Rattle.ec_code.proofs.LayoutLemmas.{counted, length_of_text}
use Rattle.ec_code.proofs.LrcAgainLemmas.{layout_again}
use Rattle.ec_code.proofs.LrcRefusalLemmas.{HasTexts, PassesMapping, texts_to, text_layout_accepted, none_of_texts, code_by_texts, lrc_code_by}
use Rattle.ec_code.proofs.ReadingLemmas.{number_read, unit_read, none_pass}
use Rattle.ec_code.proofs.ShecAgainLemmas.{up_from}

-- the profile of the plugin lrc with this mapping and these layers
abbrev pub layout_profile : List ℕ → List (List ℕ) → ℕ → ℕ → Profile
layout_profile mapping layers least unit = record {
  plugin = plugin.Lrc;
  k = None;
  m = None;
  c = None;
  l = None;
  w = None;
  technique = None;
  mapping = Some (mapping_value mapping);
  layers = Some (layers_value layers);
  stripe_unit = unit;
  min_size = Some least;
}

-- the settings of the plugin lrc with these texts of layers, of a mapping and of numbers
abbrev pub layout_texts : List ℕ → List ℕ → List ℕ → List ℕ → List Setting
layout_texts layers mapping least unit =
    record { key = codes "layers"; value = layers } ∷ record { key = codes "mapping"; value = mapping }
    ∷ record { key = codes "min_size"; value = least } ∷ record { key = codes "plugin"; value = codes "lrc" }
    ∷ record { key = codes "stripe_unit"; value = unit } ∷ []

module _ (layers mapping least unit : List ℕ) (layers' : List (List ℕ)) (least' unit' : ℕ)
    (first : layers_of_text layers ≡ Some layers') (second : is_mapping mapping ≡ true)
    (third : number_of_text least ≡ Some least') (fourth : unit_of_text unit ≡ Some unit') where
  all_read : {X : Type 0} (f : GivenLayers → Bool → Option ℕ → Option ℕ → X)
      → f (layers_of_text layers) (is_mapping mapping) (number_of_text least) (unit_of_text unit) ≡ f (Some layers') true (Some least') (Some unit')
  all_read f =
      ap (λ o. f o (is_mapping mapping) (number_of_text least) (unit_of_text unit)) first
      ∙ ap (λ o. f (Some layers') o (number_of_text least) (unit_of_text unit)) second
      ∙ ap (λ o. f (Some layers') true o (unit_of_text unit)) third
      ∙ ap (λ o. f (Some layers') true (Some least') o) fourth

  bad_none : bad_key (layers_at (layout_texts layers mapping least unit)) (layout_texts layers mapping least unit) ≡ None
  unfolding digits
  bad_none = ap least_text (none_pass (is_bad (layers_at (layout_texts layers mapping least unit)) (layout_texts layers mapping least unit)) (keys_of (layout_texts layers mapping least unit))
      (all_read (λ layers mapping least unit. not (not (is_some layers) || false) && (not (not mapping || false) && (not (not (is_some least) || false) && (not (not (is_some unit) || false) && true))))))

  profile_is : profile_with plugin.Lrc (layers_at (layout_texts layers mapping least unit)) (layout_texts layers mapping least unit) ≡ layout_profile mapping layers' least' unit'
  unfolding digits
  profile_is = all_read (λ layers good least unit. record {
    plugin = plugin.Lrc;
    k = None;
    m = None;
    c = None;
    l = None;
    w = None;
    technique = None;
    mapping = Some (mapping_value mapping);
    layers = option_map layers_value layers;
    stripe_unit = value_or 4096 unit;
    min_size = least;
  })

  settings_read : profile_of_plugin (plugin_of (layout_texts layers mapping least unit)) (layers_at (layout_texts layers mapping least unit)) (layout_texts layers mapping least unit)
      ≡ Ok (layout_profile mapping layers' least' unit')
  settings_read =
      ap (λ bad. refused_by fault.BadValue bad (Ok (profile_with plugin.Lrc (layers_at (layout_texts layers mapping least unit)) (layout_texts layers mapping least unit)))) bad_none
      ∙ ap Ok profile_is

-- a text whose settings are those of a mapping and of the text of layers is read as the profile with them
pub layout_read : (text layers mapping : List ℕ) (layers' : List (List ℕ)) (least unit : ℕ) → layers_of_text layers ≡ Some layers' → is_mapping mapping ≡ true
    → least < 2 ^ 32 → unit < 2 ^ 32 → has_settings text ≡ true
    → settings_of text ≡ layout_texts layers mapping (decimal least) (decimal unit) → profile_of text ≡ Ok (layout_profile mapping layers' least unit)
layout_read text layers mapping layers' least unit are good ls lu has is =
    ap (λ h. cond (not h) (Err fault.Setting) (profile_of_settings (layers_at (settings_of text)) (settings_of text))) has
    ∙ ap (λ s. profile_of_settings (layers_at s) s) is
    ∙ settings_read layers mapping (decimal least) (decimal unit) layers' least unit are good (number_read least ls) (unit_read unit lu)

-- what is known of an accepted profile with a mapping and layers, and its code
pub record IsTextsAgain (p : Profile) (code : CodeRows) (least : ℕ) : Type 0 where
  pub mapping : Mapping
  pub layers : Layers
  pub first : p.mapping ≡ Some mapping
  pub second : p.layers ≡ Some layers
  pub some : 1 ≤ length (mapping_text mapping)
  pub few : length (mapping_text mapping) ≤ 16
  pub short : AreShort (layer_texts layers)
  pub small_least : least ≤ 16
  pub accepted : IsAccepted (layout_profile (mapping_text mapping) (layer_texts layers) least p.stripe_unit)
  pub code_of : IsCodeOf (layout_profile (mapping_text mapping) (layer_texts layers) least p.stripe_unit) code

-- the mapping that is made of the text of a good one is good
mapping_again : (m : Mapping) → PassesMapping m → PassesMapping (mapping_value (mapping_text m))
mapping_again m ok =
    let few = ok.few in
    let long = length_of_text m.first m.len in
    let short : length (mapping_text m) ≤ 16 = omega (arith, long, few) in
    let same : data_chunks_of (mapping_value (mapping_text m)) ≡ data_chunks_of m =
    counted (mapping_value (mapping_text m)) short ∙ ap data_count (mapping_back (mapping_text m) short) ∙ sym (counted m few) in
    record {
      some_data = subst (λ (n : ℕ). 1 ≤ n) (sym same) ok.some_data;
      some_coding = λ e. ok.some_coding (sym same ∙ e ∙ long);
      few = short;
    }

texts_by : (p : Profile) (code : CodeRows) (m : Mapping) (ls : Layers) (least : ℕ) → HasTexts p m ls → ((f : ProfileFault) → HasWrittenFault p f → ⊥)
    → IsLrc (mapping_text m) (layer_texts ls) code → IsLeastOf p.min_size code.k code.n least → IsTextsAgain p code least
texts_by p code m ls least h ok rows is =
    let passes : PassesMapping m = record {
      some_data = up_from (data_chunks_of m) 1 (λ less. ok fault.SmallK (m, h.first, less));
      some_coding = λ e. ok fault.SmallM (m, h.first, e);
      few = up_from 16 m.len (λ more. ok fault.TooMany (m, h.first, more));
    } in
    let again = mapping_again m passes in
    let layout = layout_again (mapping_text m) (layer_texts ls) p.stripe_unit p.min_size least code rows is (λ f bad. ok f (texts_to p m ls h f bad)) in
    let short : AreShort (layer_texts ls) = λ i lt.
    up_from 16 (length (slice_index_or (layer_texts ls) i [])) (λ more. layout.fine fault.LayerLength (i, lt, (λ e. omega (arith, more, e, again.few)))) in
    let mapping_same = mapping_back (mapping_text m) again.few in
    let layers_same = layer_texts_back (layer_texts ls) (few_layers ls) short in
    let q : Profile = layout_profile (mapping_text m) (layer_texts ls) least p.stripe_unit in
    let texts : HasTexts q (mapping_value (mapping_text m)) (layers_value (layer_texts ls)) = record { of_lrc = refl; written = refl; first = refl; second = refl } in
    let rows_again : IsLrc (mapping_text (mapping_value (mapping_text m))) (layer_texts (layers_value (layer_texts ls))) code =
    subst (λ (t : List ℕ). IsLrc t (layer_texts (layers_value (layer_texts ls))) code) (sym mapping_same)
    (subst (λ (t : List (List ℕ)). IsLrc (mapping_text m) t code) (sym layers_same) rows) in
    let some : 1 ≤ length (mapping_text m) = up_from (length (mapping_text m)) 1 (λ none.
    let at = counted m passes.few in
    let below = few_data (mapping_text m) in
    omega (arith, none, at, below, passes.some_data)) in
    record {
      mapping = m;
      layers = ls;
      first = h.first;
      second = h.second;
      some = some;
      few = again.few;
      short = short;
      small_least = omega (arith, layout.small, again.few);
      accepted = text_layout_accepted q (mapping_value (mapping_text m)) (layers_value (layer_texts ls)) texts again
          (none_of_texts (mapping_text m) (mapping_text (mapping_value (mapping_text m))) (layer_texts ls) (layer_texts (layers_value (layer_texts ls))) p.stripe_unit (Some least) (sym mapping_same) (sym layers_same) layout.fine);
      code_of = lrc_code_by q refl code (code_by_texts q (mapping_value (mapping_text m)) (layers_value (layer_texts ls)) code texts rows_again);
    }
  where
    few_data : (text : List ℕ) → data_count text ≤ length text
    few_data text = count_by-le-length (λ b. b == 68) text

pub texts_again : (p : Profile) (code : CodeRows) (least : ℕ) → p.plugin ≡ plugin.Lrc → has_number p ≡ false → ((f : ProfileFault) → HasWrittenFault p f → ⊥)
    → GivenTexts p (λ mapping layers. IsLrc mapping layers code) → IsLeastOf p.min_size code.k code.n least → IsTextsAgain p code least
texts_again p code least of_lrc written ok is l =
    texts_by p code is.0 is.2.0 least (record { of_lrc = of_lrc; written = written; first = is.1; second = is.2.1 }) ok is.2.2 l

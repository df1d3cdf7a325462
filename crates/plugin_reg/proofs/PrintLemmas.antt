-- The canonical lines of an accepted profile are read as one that prints them again.
use Rattle.std.proofs.Common.{◌≡◌, ℕ, ◌-◌, Bool, true, false, List, length, Ok, Some, None, refl, ap, ◌∙◌, sym, subst, arith}
use Rattle.std.specs.List.{list_all}
use Rattle.std.specs.declared.option.Option.{Option}
use Rattle.ec_model.specs.Codes.{CodeRows}
use Rattle.ec_model.specs.Lrc.{data_count, mapping_of}
use Rattle.ec_code.specs.declared.mapping.Mapping.{Mapping}
use Rattle.ec_code.specs.declared.profile.Plugin.{Plugin}
use Rattle.ec_code.specs.declared.profile.Plugin.TheVariants as plugin
use Rattle.ec_code.specs.declared.profile.Profile.{Profile}
use Rattle.ec_code.specs.declared.fault.ProfileFault.{ProfileFault}
use Rattle.ec_code.specs.LayerValues.{layers_value}
use Rattle.ec_code.specs.LrcFaults.{mapping_text, layer_texts, has_number, HasFaultBy, IsCodeBy}
use Rattle.ec_code.specs.Readings.{profile_of, value_or, is_place, jerasure_profile}
use Rattle.ec_code.specs.Refusals.{HasFaultOf, IsPluginsCode, IsAccepted, IsCodeOf}
use Rattle.ec_code.specs.Shapes.{HasShape}
use Rattle.ec_code.proofs.GivenLemmas.{accepted_unit, same_profile}
use Rattle.ec_code.proofs.AgainLemmas.{IsLeastOf, IsAgain, read_again, accepted_again}
use Rattle.ec_code.proofs.ShecAgainLemmas.{IsShecAgain, shec_profile, shec_again, shec_accepted}
use Rattle.ec_code.proofs.LrcAgainLemmas.{IsKmlAgain, number_profile, kml_again}
use Rattle.ec_code.proofs.KeptLemmas.{mapping_back, layer_texts_back, few_layers}
use Rattle.ec_code.proofs.LayerTextLemmas.{AreMarks, marks_from}
use Rattle.ec_code.proofs.LayoutAgainLemmas.{IsTextsAgain, layout_profile, texts_again}
use Rattle.plugin_reg.specs.Canonical.{canonical_lines, lines_of, jerasure_settings, shec_settings, number_settings, layout_settings, mapping_in, layers_in, lrc_settings, settings_by, least_of, HasMarks, IsWritable, KeepsCodes, PrintsAgain}
use Rattle.plugin_reg.proofs.CanonicalLemmas.{lines_read_back, shec_lines_read, number_lines_read, layout_lines_read}

least_is : (s : Option ℕ) (k n : ℕ) → IsLeastOf s k n (least_of s k n)
least_is (Some given) k n = refl
least_is None k n = refl

-- a text is read as an accepted profile of this code, whose canonical lines are the text
record Prints (text : List ℕ) (code : CodeRows) : Type 0 where
  again : Profile
  read : profile_of text ≡ Ok again
  accepted : IsAccepted again
  code_of : IsCodeOf again code
  same : canonical_lines again code.k code.n ≡ text

jerasure_prints : (p : Profile) (code : CodeRows) (least : ℕ) → IsAccepted p → IsAgain code least p.stripe_unit
    → Prints (lines_of (jerasure_settings code.k (code.n - code.k) least p.stripe_unit)) code
jerasure_prints p code least ok known =
    let both = accepted_again code least p.stripe_unit known in
    let unit = accepted_unit p ok in
    let b = known.bounds in
    record {
      again = jerasure_profile code.k (code.n - code.k) least p.stripe_unit;
      read = lines_read_back code.k (code.n - code.k) least p.stripe_unit (omega (arith, b.few)) (omega (arith, b.few)) (omega (arith, b.few, b.to)) (omega (arith, unit.1));
      accepted = both.0;
      code_of = both.1;
      same = refl;
    }

shec_prints : (p : Profile) (code : CodeRows) (least : ℕ) → IsAccepted p → (known : IsShecAgain p code least)
    → Prints (lines_of (shec_settings (value_or 0 p.c) code.k (code.n - code.k) least p.stripe_unit)) code
shec_prints p code least ok known =
    let both = shec_accepted p code least known in
    let unit = accepted_unit p ok in
    let b = known.bounds in
    record {
      again = shec_profile known.c code.k (code.n - code.k) least p.stripe_unit;
      read = ap (λ c. profile_of (lines_of (shec_settings c code.k (code.n - code.k) least p.stripe_unit))) (ap (value_or 0) known.given)
          ∙ shec_lines_read known.c code.k (code.n - code.k) least p.stripe_unit (omega (arith, b.few, b.cover)) (omega (arith, b.few)) (omega (arith, b.few)) (omega (arith, b.few, b.to)) (omega (arith, unit.1));
      accepted = both.0;
      code_of = both.1;
      same = ap (λ c. lines_of (shec_settings c code.k (code.n - code.k) least p.stripe_unit)) (sym (ap (value_or 0) known.given));
    }

numbers_print : (p : Profile) (code : CodeRows) (least : ℕ) → IsAccepted p → (known : IsKmlAgain p code least)
    → Prints (lines_of (number_settings (value_or 0 p.k) (value_or 0 p.l) (value_or 0 p.m) least p.stripe_unit)) code
numbers_print p code least ok known =
    let unit = accepted_unit p ok in
    let numbers : lines_of (number_settings (value_or 0 p.k) (value_or 0 p.l) (value_or 0 p.m) least p.stripe_unit) ≡ lines_of (number_settings known.k known.l known.m least p.stripe_unit) =
    ap (λ k. lines_of (number_settings k (value_or 0 p.l) (value_or 0 p.m) least p.stripe_unit)) (ap (value_or 0) known.first)
    ∙ ap (λ l. lines_of (number_settings known.k l (value_or 0 p.m) least p.stripe_unit)) (ap (value_or 0) known.second)
    ∙ ap (λ m. lines_of (number_settings known.k known.l m least p.stripe_unit)) (ap (value_or 0) known.third) in
    record {
      again = number_profile known.k known.l known.m least p.stripe_unit;
      read = ap profile_of numbers
          ∙ number_lines_read known.k known.l known.m least p.stripe_unit (omega (arith, known.small_k)) (omega (arith, known.small_l)) (omega (arith, known.small_m)) (omega (arith, known.small_least)) (omega (arith, unit.1));
      accepted = known.accepted;
      code_of = known.code_of;
      same = sym numbers;
    }

texts_print : (p : Profile) (code : CodeRows) (least : ℕ) → IsAccepted p → HasMarks p → (known : IsTextsAgain p code least)
    → Prints (lines_of (layout_settings (mapping_in p.mapping) (layers_in p.layers) least p.stripe_unit)) code
texts_print p code least ok w known =
    let unit = accepted_unit p ok in
    let mapping : List ℕ = mapping_text known.mapping in
    let layers : List (List ℕ) = layer_texts known.layers in
    let places : list_all is_place mapping ≡ true = w.mapping known.mapping known.first known.few in
    let marks : AreMarks layers = marks_from layers (λ i lt. w.layers known.layers known.second i lt (known.short i lt)) in
    let few = few_layers known.layers in
    let texts : lines_of (layout_settings (mapping_in p.mapping) (layers_in p.layers) least p.stripe_unit) ≡ lines_of (layout_settings mapping layers least p.stripe_unit) =
    ap (λ t. lines_of (layout_settings t (layers_in p.layers) least p.stripe_unit)) (ap mapping_in known.first)
    ∙ ap (λ t. lines_of (layout_settings mapping t least p.stripe_unit)) (ap layers_in known.second) in
    record {
      again = layout_profile mapping layers least p.stripe_unit;
      read = ap profile_of texts ∙ layout_lines_read mapping layers least p.stripe_unit known.some places marks few (omega (arith, known.small_least)) (omega (arith, unit.1));
      accepted = known.accepted;
      code_of = known.code_of;
      same = ap (λ t. lines_of (layout_settings t (layer_texts (layers_value layers)) least p.stripe_unit)) (mapping_back mapping known.few)
          ∙ ap (λ t. lines_of (layout_settings mapping t least p.stripe_unit)) (layer_texts_back layers few known.short) ∙ sym texts;
    }

lrc_prints : (b : Bool) (p : Profile) (code : CodeRows) → p.plugin ≡ plugin.Lrc → has_number p ≡ b → IsAccepted p → IsWritable p → ((f : ProfileFault) → HasFaultBy b p f → ⊥)
    → IsCodeBy b p code → Prints (lines_of (lrc_settings b p (least_of p.min_size code.k code.n))) code
lrc_prints true p code of case ok w none is =
    numbers_print p code (least_of p.min_size code.k code.n) ok (kml_again p code (least_of p.min_size code.k code.n) of none is (least_is p.min_size code.k code.n))
lrc_prints false p code of case ok w none is =
    texts_print p code (least_of p.min_size code.k code.n) ok (w of case) (texts_again p code (least_of p.min_size code.k code.n) of case none is (least_is p.min_size code.k code.n))

prints_by : (q : Plugin) (p : Profile) (code : CodeRows) → p.plugin ≡ q → IsAccepted p → IsWritable p → ((f : ProfileFault) → HasFaultOf q p f → ⊥) → IsPluginsCode q p code
    → Prints (lines_of (settings_by q p code.k code.n)) code
prints_by plugin.Jerasure p code of ok w none is =
    jerasure_prints p code (least_of p.min_size code.k code.n) ok (read_again p code (least_of p.min_size code.k code.n) none is (least_is p.min_size code.k code.n))
prints_by plugin.Lrc p code of ok w none is = lrc_prints (has_number p) p code of refl ok w none is
prints_by plugin.Shec p code of ok w none is =
    shec_prints p code (least_of p.min_size code.k code.n) ok (shec_again p code (least_of p.min_size code.k code.n) none is (least_is p.min_size code.k code.n))

pub printed_again : (p : Profile) (code : CodeRows) (k n lead : ℕ) (text : List ℕ) → IsWritable p → IsAccepted p → IsCodeOf p code → HasShape code k n lead
    → text ≡ canonical_lines p k n → PrintsAgain text k n lead
printed_again p code k n lead text w ok is shape same =
    let prints = prints_by p.plugin p code refl ok w ok is in
    let lines : text ≡ canonical_lines p code.k code.n =
    same ∙ ap (λ x. canonical_lines p x n) shape.same_k ∙ ap (λ x. canonical_lines p code.k x) shape.same_n in
    record {
      again = prints.again;
      code = code;
      read = ap profile_of lines ∙ prints.read;
      accepted = prints.accepted;
      code_of = prints.code_of;
      shape = shape;
      same = ap (λ x. canonical_lines prints.again x n) shape.same_k ∙ ap (λ x. canonical_lines prints.again code.k x) shape.same_n ∙ prints.same ∙ sym lines;
    }

-- the codes of a profile have the same numbers of data chunks and of positions
one_number : (s : Option ℕ) (a b : ℕ) → s ≡ Some a → s ≡ Some b → a ≡ b
one_number s a b one other = cc

one_mapping : (s : Option Mapping) (a b : Mapping) → s ≡ Some a → s ≡ Some b → a ≡ b
one_mapping s a b one other = cc

by_numbers : (p : Profile) (one other : CodeRows) → IsCodeBy true p one → IsCodeBy true p other → (one.k ≡ other.k) × (one.n ≡ other.n)
by_numbers p one other is its =
    let k = one_number p.k is.0 its.0 is.1 its.1 in
    let m = one_number p.m is.2.0 its.2.0 is.2.1 its.2.1 in
    let l = one_number p.l is.2.2.0 its.2.2.0 is.2.2.1 its.2.2.1 in
    let mapping : mapping_of is.0 is.2.0 is.2.2.0 ≡ mapping_of its.0 its.2.0 its.2.2.0 =
    ap (λ x. mapping_of x is.2.0 is.2.2.0) k ∙ ap (λ x. mapping_of its.0 x is.2.2.0) m ∙ ap (λ x. mapping_of its.0 its.2.0 x) l in (
      is.2.2.2.data_chunks ∙ ap data_count mapping ∙ sym its.2.2.2.data_chunks,
      is.2.2.2.positions ∙ ap length mapping ∙ sym its.2.2.2.positions,
    )

by_texts : (p : Profile) (one other : CodeRows) → IsCodeBy false p one → IsCodeBy false p other → (one.k ≡ other.k) × (one.n ≡ other.n)
by_texts p one other is its =
    let same : is.0 ≡ its.0 = one_mapping p.mapping is.0 its.0 is.1 its.1 in
    let mapping : mapping_text is.0 ≡ mapping_text its.0 = ap mapping_text same in (
      is.2.2.data_chunks ∙ ap data_count mapping ∙ sym its.2.2.data_chunks,
      is.2.2.positions ∙ ap length mapping ∙ sym its.2.2.positions,
    )

by_case : (b : Bool) (p : Profile) (one other : CodeRows) → IsCodeBy b p one → IsCodeBy b p other → (one.k ≡ other.k) × (one.n ≡ other.n)
by_case true p one other is its = by_numbers p one other is its
by_case false p one other is its = by_texts p one other is its

same_numbers : (q : Plugin) (p : Profile) (one other : CodeRows) → IsPluginsCode q p one → IsPluginsCode q p other → (one.k ≡ other.k) × (one.n ≡ other.n)
same_numbers plugin.Jerasure p one other is its =
    let k = one_number p.k is.0 its.0 is.1 its.1 in
    let m = one_number p.m is.2.0 its.2.0 is.2.1 its.2.1 in
    (is.2.2.data_chunks ∙ k ∙ sym its.2.2.data_chunks, omega (arith, is.2.2.positions, its.2.2.positions, k, m))
same_numbers plugin.Lrc p one other is its = by_case (has_number p) p one other is its
same_numbers plugin.Shec p one other is its =
    let k = one_number p.k is.0 its.0 is.1 its.1 in
    let m = one_number p.m is.2.0 its.2.0 is.2.1 its.2.1 in
    (is.2.2.2.data_chunks ∙ k ∙ sym its.2.2.2.data_chunks, omega (arith, is.2.2.2.positions, its.2.2.2.positions, k, m))

pub codes_kept : (p : Profile) (code : CodeRows) (k n lead : ℕ) (text : List ℕ) → IsWritable p → IsAccepted p → IsCodeOf p code → HasShape code k n lead
    → text ≡ canonical_lines p k n → KeepsCodes p text
codes_kept p code k n lead text w ok is shape same again read other its =
    let numbers = same_numbers p.plugin p code other is its in
    let prints = prints_by p.plugin p other refl ok w ok its in
    let lines : text ≡ canonical_lines p other.k other.n =
    same ∙ ap (λ x. canonical_lines p x n) (shape.same_k ∙ numbers.0) ∙ ap (λ x. canonical_lines p other.k x) (shape.same_n ∙ numbers.1) in
    subst (λ (q : Profile). IsCodeOf q other) (same_profile prints.again again (profile_of text) (ap profile_of lines ∙ prints.read) read) prints.code_of

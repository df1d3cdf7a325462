-- The canonical lines of an accepted profile are short, and ASCII.
use Rattle.std.proofs.Common.{◌≡◌, ◌≤◌, ◌+◌, ◌-◌, ◌*◌, ◌&&◌, nat_lt, ℕ, zero, suc, Bool, true, false, List, [], ◌∷◌, ◌++◌, length, Some, None, refl, ap, sym, subst, ◌∙◌, arith}
use Rattle.std.specs.Prelude.{codes}
use Rattle.std.specs.Fmt.{decimal}
use Rattle.std.specs.List.{flat_map, list_all, AllByRecursion}
use Rattle.std.specs.Str.{IsAscii}
use Rattle.std.specs.declared.option.Option.{Option}
use Rattle.std.proofs.lemmas.Bool.{and_parts}
use Rattle.std.proofs.lemmas.Bool.Decides.{nat_tests}
use Rattle.std.proofs.lemmas.Fmt.{length-decimal-le, IsAscii-decimal}
use Rattle.std.proofs.lemmas.List.{length-append}
use Rattle.std.proofs.lemmas.Str.{IsAscii-append}
use Rattle.ec_model.specs.Codes.{CodeRows}
use Rattle.ec_code.specs.LayerTexts.{is_mark}
use Rattle.ec_code.specs.LrcFaults.{mapping_text, layer_texts, has_number, HasFaultBy, IsCodeBy}
use Rattle.ec_code.specs.Readings.{value_or, is_place}
use Rattle.ec_code.specs.Refusals.{HasFaultOf, IsPluginsCode, IsAccepted, IsCodeOf}
use Rattle.ec_code.specs.Settings.{Setting}
use Rattle.ec_code.specs.Shapes.{HasShape}
use Rattle.ec_code.specs.declared.fault.ProfileFault.{ProfileFault}
use Rattle.ec_code.specs.declared.mapping.Layers.{Layers}
use Rattle.ec_code.specs.declared.mapping.Mapping.{Mapping}
use Rattle.ec_code.specs.declared.profile.Plugin.{Plugin}
use Rattle.ec_code.specs.declared.profile.Plugin.TheVariants as plugin
use Rattle.ec_code.specs.declared.profile.Profile.{Profile}
use Rattle.ec_code.proofs.AgainLemmas.{IsLeastOf, IsAgain, read_again}
use Rattle.ec_code.proofs.GivenLemmas.{accepted_unit}
use Rattle.ec_code.proofs.KeptLemmas.{AreShort, few_layers}
use Rattle.ec_code.proofs.LayerTextLemmas.{AreMarks, marks_from}
use Rattle.ec_code.proofs.LayoutAgainLemmas.{IsTextsAgain, texts_again}
use Rattle.ec_code.proofs.LrcAgainLemmas.{IsKmlAgain, kml_again}
use Rattle.ec_code.proofs.ShecAgainLemmas.{IsShecAgain, shec_again}
use Rattle.plugin_reg.specs.Canonical.{canonical_lines, line_of, lines_of, least_of, jerasure_settings, shec_settings, number_settings, layout_settings, layer_item, layer_items, layers_text, mapping_in, layers_in, lrc_settings, settings_by, HasMarks, IsWritable}

-- a text of at most so many bytes, all of them ASCII
pub record IsPlain (limit : ℕ) (text : List ℕ) : Type 0 where
  pub short : length text ≤ limit
  pub ascii : IsAscii text

low : ℕ → Bool
low b = nat_lt b 128

ascii_of : (text : List ℕ) → list_all low text ≡ true → IsAscii text
unfolding low
ascii_of [] e i = omega arith
ascii_of (b ∷ text) e zero = let parts = and_parts (nat_lt b 128) _ e in grind (arith, nat_tests, parts.0)
ascii_of (b ∷ text) e (suc i) = ascii_of text (and_parts (nat_lt b 128) _ e).1 i

plain : (limit : ℕ) (text : List ℕ) → length text ≤ limit → list_all low text ≡ true → IsPlain limit text
plain limit text short e = record { short = short; ascii = ascii_of text e }

joined : (a b : ℕ) (xs ys : List ℕ) → IsPlain a xs → IsPlain b ys → IsPlain (a + b) (xs ++ ys)
joined a b xs ys first second = record { short = omega (arith, first.short, second.short, length-append xs ys); ascii = IsAscii-append xs ys first.ascii second.ascii }

-- a setting with a short key and value
IsPlainSetting : Setting → Type 0
IsPlainSetting s = IsPlain 20 s.key × IsPlain 450 s.value

line_plain : (s : Setting) → IsPlainSetting s → IsPlain 480 (line_of s)
unfolding IsPlainSetting low
line_plain s (key, value) =
    let front = joined 20 (1 + 450) s.key ((61 ∷ []) ++ s.value) key (joined 1 450 (61 ∷ []) s.value (plain 1 (61 ∷ []) (omega arith) refl) value) in
    let all = joined (20 + (1 + 450)) 1 (s.key ++ (61 ∷ s.value)) (10 ∷ []) front (plain 1 (10 ∷ []) (omega arith) refl) in
    record { short = omega (arith, all.short); ascii = all.ascii }

lines_plain : (settings : List Setting) → AllByRecursion IsPlainSetting settings → IsPlain (480 * length settings) (lines_of settings)
unfolding low
lines_plain [] all = plain 0 [] (omega arith) refl
lines_plain (s ∷ settings) (first, rest) =
    let one = line_plain s first in
    let more = lines_plain settings rest in
    record { short = omega (arith, one.short, more.short, length-append (line_of s) (lines_of settings)); ascii = IsAscii-append (line_of s) (lines_of settings) one.ascii more.ascii }

number : (key : List ℕ) (n : ℕ) → length key ≤ 20 → list_all low key ≡ true → n ≤ 65536 → IsPlainSetting (record { key = key; value = decimal n })
unfolding IsPlainSetting
number key n short e le =
    let long = length-decimal-le 5 n (omega arith) (omega (arith, le)) (omega (arith, le)) in
    (plain 20 key short e, record { short = omega (arith, long); ascii = IsAscii-decimal n (omega (arith, le)) })

text : (key value : List ℕ) → length key ≤ 20 → list_all low key ≡ true → length value ≤ 20 → list_all low value ≡ true → IsPlainSetting (record { key = key; value = value })
unfolding IsPlainSetting
text key value short e short_value e_value =
    let v = plain 20 value short_value e_value in
    (plain 20 key short e, record { short = omega (arith, v.short); ascii = v.ascii })

-- ---- layers

low_mark : (b : ℕ) → is_mark b ≡ true → low b ≡ true
unfolding low
low_mark b e = grind (arith, nat_tests)

low_place : (b : ℕ) → is_place b ≡ true → low b ≡ true
unfolding low
low_place b e = grind (arith, nat_tests)

all_low : (test : ℕ → Bool) → ((b : ℕ) → test b ≡ true → low b ≡ true) → (bytes : List ℕ) → list_all test bytes ≡ true → list_all low bytes ≡ true
all_low test each [] e = refl
all_low test each (b ∷ bytes) e =
    let parts = and_parts (test b) (list_all test bytes) e in
    ap (λ (x : Bool). x && list_all low bytes) (each b parts.0) ∙ all_low test each bytes parts.1

ArePlain : List (List ℕ) → Type 0
ArePlain layers = AllByRecursion (IsPlain 16) layers

are_plain : (layers : List (List ℕ)) → AreShort layers → AreMarks layers → ArePlain layers
unfolding ArePlain
are_plain [] short marks = tt
are_plain (layer ∷ layers) short marks =
    (plain 16 layer (short 0 (omega arith)) (all_low is_mark low_mark layer marks.0), are_plain layers (λ i lt. short (suc i) (omega (arith, lt))) marks.1)

item_plain : (layer : List ℕ) → IsPlain 16 layer → IsPlain 23 (layer_item layer)
unfolding low
item_plain layer is = joined 2 (16 + 5) (codes "[\"") (layer ++ codes "\",\"\"]") (plain 2 (codes "[\"") (omega arith) refl) (joined 16 5 layer (codes "\",\"\"]") is (plain 5 (codes "\",\"\"]") (omega arith) refl))

more_plain : (layers : List (List ℕ)) → ArePlain layers → IsPlain (24 * length layers) (flat_map (λ next. 44 ∷ layer_item next) layers)
unfolding ArePlain low
more_plain [] all = plain 0 [] (omega arith) refl
more_plain (layer ∷ layers) (first, rest) =
    let one = joined 1 23 (44 ∷ []) (layer_item layer) (plain 1 (44 ∷ []) (omega arith) refl) (item_plain layer first) in
    let more = more_plain layers rest in
    let others = flat_map (λ next. 44 ∷ layer_item next) layers in
    record { short = omega (arith, one.short, more.short, length-append (44 ∷ layer_item layer) others); ascii = IsAscii-append (44 ∷ layer_item layer) others one.ascii more.ascii }

items_plain : (layers : List (List ℕ)) → ArePlain layers → IsPlain (24 * length layers) (layer_items layers)
unfolding ArePlain low
items_plain [] all = plain 0 [] (omega arith) refl
items_plain (layer ∷ layers) (first, rest) =
    let one = item_plain layer first in
    let more = more_plain layers rest in
    let others = flat_map (λ next. 44 ∷ layer_item next) layers in
    record { short = omega (arith, one.short, more.short, length-append (layer_item layer) others); ascii = IsAscii-append (layer_item layer) others one.ascii more.ascii }

layers_plain : (layers : List (List ℕ)) → ArePlain layers → length layers ≤ 16 → IsPlain 450 (layers_text layers)
unfolding low
layers_plain layers all few =
    let items = items_plain layers all in
    let is = joined 1 (24 * length layers + 1) (91 ∷ []) (layer_items layers ++ (93 ∷ [])) (plain 1 (91 ∷ []) (omega arith) refl)
    (joined (24 * length layers) 1 (layer_items layers) (93 ∷ []) items (plain 1 (93 ∷ []) (omega arith) refl)) in
    record { short = omega (arith, is.short, few); ascii = is.ascii }

-- ---- each plugin

least_is : (s : Option ℕ) (k n : ℕ) → IsLeastOf s k n (least_of s k n)
least_is (Some given) k n = refl
least_is None k n = refl

-- few lines are short
few_lines : (settings : List Setting) → length settings ≤ 8 → AllByRecursion IsPlainSetting settings → IsPlain 4000 (lines_of settings)
few_lines settings few all = let is = lines_plain settings all in record { short = omega (arith, is.short, few); ascii = is.ascii }

jerasure_plain : (p : Profile) (code : CodeRows) (least : ℕ) → IsAccepted p → IsAgain code least p.stripe_unit
    → IsPlain 4000 (lines_of (jerasure_settings code.k (code.n - code.k) least p.stripe_unit))
unfolding low
jerasure_plain p code least ok known =
    let unit = accepted_unit p ok in
    let b = known.bounds in
    few_lines (jerasure_settings code.k (code.n - code.k) least p.stripe_unit) (omega arith) (
      number (codes "k") code.k (omega arith) refl (omega (arith, b.few)),
      (
        number (codes "m") (code.n - code.k) (omega arith) refl (omega (arith, b.few)),
        (
          number (codes "min_size") least (omega arith) refl (omega (arith, b.few, b.to)),
          (
            text (codes "plugin") (codes "jerasure") (omega arith) refl (omega arith) refl,
            (
              number (codes "stripe_unit") p.stripe_unit (omega arith) refl (omega (arith, unit.1)),
              (
                text (codes "technique") (codes "reed_sol_van") (omega arith) refl (omega arith) refl,
                (text (codes "w") (codes "8") (omega arith) refl (omega arith) refl, tt),
              ),
            ),
          ),
        ),
      ),
    )

small_value : (o : Option ℕ) (n limit : ℕ) → o ≡ Some n → n ≤ limit → value_or 0 o ≤ limit
small_value o n limit e le = subst (λ (x : ℕ). x ≤ limit) (sym (ap (value_or 0) e)) le

shec_plain : (p : Profile) (code : CodeRows) (least : ℕ) → IsAccepted p → IsShecAgain p code least
    → IsPlain 4000 (lines_of (shec_settings (value_or 0 p.c) code.k (code.n - code.k) least p.stripe_unit))
unfolding low
shec_plain p code least ok known =
    let unit = accepted_unit p ok in
    let b = known.bounds in
    few_lines (shec_settings (value_or 0 p.c) code.k (code.n - code.k) least p.stripe_unit) (omega arith) (
      number (codes "c") (value_or 0 p.c) (omega arith) refl (small_value p.c known.c 65536 known.given (omega (arith, b.few, b.cover))),
      (
        number (codes "k") code.k (omega arith) refl (omega (arith, b.few)),
        (
          number (codes "m") (code.n - code.k) (omega arith) refl (omega (arith, b.few)),
          (
            number (codes "min_size") least (omega arith) refl (omega (arith, b.few, b.to)),
            (
              text (codes "plugin") (codes "shec") (omega arith) refl (omega arith) refl,
              (
                number (codes "stripe_unit") p.stripe_unit (omega arith) refl (omega (arith, unit.1)),
                (
                  text (codes "technique") (codes "single") (omega arith) refl (omega arith) refl,
                  (text (codes "w") (codes "8") (omega arith) refl (omega arith) refl, tt),
                ),
              ),
            ),
          ),
        ),
      ),
    )

numbers_plain : (p : Profile) (code : CodeRows) (least : ℕ) → IsAccepted p → IsKmlAgain p code least
    → IsPlain 4000 (lines_of (number_settings (value_or 0 p.k) (value_or 0 p.l) (value_or 0 p.m) least p.stripe_unit))
unfolding low
numbers_plain p code least ok known =
    let unit = accepted_unit p ok in
    few_lines (number_settings (value_or 0 p.k) (value_or 0 p.l) (value_or 0 p.m) least p.stripe_unit) (omega arith) (
      number (codes "k") (value_or 0 p.k) (omega arith) refl (small_value p.k known.k 65536 known.first (omega (arith, known.small_k))),
      (
        number (codes "l") (value_or 0 p.l) (omega arith) refl (small_value p.l known.l 65536 known.second (omega (arith, known.small_l))),
        (
          number (codes "m") (value_or 0 p.m) (omega arith) refl (small_value p.m known.m 65536 known.third (omega (arith, known.small_m))),
          (
            number (codes "min_size") least (omega arith) refl (omega (arith, known.small_least)),
            (
              text (codes "plugin") (codes "lrc") (omega arith) refl (omega arith) refl,
              (number (codes "stripe_unit") p.stripe_unit (omega arith) refl (omega (arith, unit.1)), tt),
            ),
          ),
        ),
      ),
    )

layout_plain : (mapping : List ℕ) (layers : List (List ℕ)) (least unit : ℕ) → length mapping ≤ 16 → list_all is_place mapping ≡ true → ArePlain layers → length layers ≤ 16
    → least ≤ 16 → unit ≤ 65536 → IsPlain 4000 (lines_of (layout_settings mapping layers least unit))
unfolding low IsPlainSetting
layout_plain mapping layers least unit short places marks few small le =
    few_lines (layout_settings mapping layers least unit) (omega arith) (
      (plain 20 (codes "layers") (omega arith) refl, layers_plain layers marks few),
      (
        text (codes "mapping") mapping (omega arith) refl (omega (arith, short)) (all_low is_place low_place mapping places),
        (
          number (codes "min_size") least (omega arith) refl (omega (arith, small)),
          (
            text (codes "plugin") (codes "lrc") (omega arith) refl (omega arith) refl,
            (number (codes "stripe_unit") unit (omega arith) refl le, tt),
          ),
        ),
      ),
    )

texts_plain : (p : Profile) (code : CodeRows) (least : ℕ) → IsAccepted p → HasMarks p → IsTextsAgain p code least
    → IsPlain 4000 (lines_of (layout_settings (mapping_in p.mapping) (layers_in p.layers) least p.stripe_unit))
texts_plain p code least ok w known =
    let places : list_all is_place (mapping_text known.mapping) ≡ true = w.mapping known.mapping known.first known.few in
    let marks : AreMarks (layer_texts known.layers) = marks_from (layer_texts known.layers) (λ i lt. w.layers known.layers known.second i lt (known.short i lt)) in
    let P : List ℕ → List (List ℕ) → Type 0 = λ mapping layers. IsPlain 4000 (lines_of (layout_settings mapping layers least p.stripe_unit)) in
    subst (λ (o : Option Mapping). P (mapping_in o) (layers_in p.layers)) (sym known.first)
    (subst (λ (o : Option Layers). P (mapping_text known.mapping) (layers_in o)) (sym known.second)
    (layout_plain (mapping_text known.mapping) (layer_texts known.layers) least p.stripe_unit known.few places
    (are_plain (layer_texts known.layers) known.short marks) (few_layers known.layers) known.small_least (accepted_unit p ok).1))

lrc_plain : (b : Bool) (p : Profile) (code : CodeRows) → p.plugin ≡ plugin.Lrc → has_number p ≡ b → IsAccepted p → IsWritable p → ((f : ProfileFault) → HasFaultBy b p f → ⊥)
    → IsCodeBy b p code → IsPlain 4000 (lines_of (lrc_settings b p (least_of p.min_size code.k code.n)))
lrc_plain true p code of case ok w none is =
    numbers_plain p code (least_of p.min_size code.k code.n) ok (kml_again p code (least_of p.min_size code.k code.n) of none is (least_is p.min_size code.k code.n))
lrc_plain false p code of case ok w none is =
    texts_plain p code (least_of p.min_size code.k code.n) ok (w of case) (texts_again p code (least_of p.min_size code.k code.n) of case none is (least_is p.min_size code.k code.n))

plain_by : (q : Plugin) (p : Profile) (code : CodeRows) → p.plugin ≡ q → IsAccepted p → IsWritable p → ((f : ProfileFault) → HasFaultOf q p f → ⊥) → IsPluginsCode q p code
    → IsPlain 4000 (lines_of (settings_by q p code.k code.n))
plain_by plugin.Jerasure p code of ok w none is =
    jerasure_plain p code (least_of p.min_size code.k code.n) ok (read_again p code (least_of p.min_size code.k code.n) none is (least_is p.min_size code.k code.n))
plain_by plugin.Lrc p code of ok w none is = lrc_plain (has_number p) p code of refl ok w none is
plain_by plugin.Shec p code of ok w none is =
    shec_plain p code (least_of p.min_size code.k code.n) ok (shec_again p code (least_of p.min_size code.k code.n) none is (least_is p.min_size code.k code.n))

-- so are the canonical lines
pub canonical_plain : (p : Profile) (code : CodeRows) (k n lead : ℕ) → IsAccepted p → IsWritable p → IsCodeOf p code → HasShape code k n lead → IsPlain 4000 (canonical_lines p k n)
canonical_plain p code k n lead ok w is shape =
    subst (λ (x : ℕ). IsPlain 4000 (canonical_lines p k x)) (sym shape.same_n)
    (subst (λ (x : ℕ). IsPlain 4000 (canonical_lines p x code.n)) (sym shape.same_k) (plain_by p.plugin p code refl ok w ok is))

-- The canonical lines of each plugin are read as a profile with their numbers and texts.
use Rattle.std.proofs.lemmas.List.{append_assoc}
use Rattle.std.proofs.Common.{◌≡◌, ℕ, true, false, not, List, [], ◌∷◌, ◌<◌, ◌≤◌, ◌^◌, Ok, refl, ap, ◌∙◌, arith}
use Rattle.std.specs.Prelude.{codes, length}
use Rattle.std.specs.List.{list_all}
use Rattle.std.proofs.lemmas.Bool.{and_from}
use Rattle.std.proofs.lemmas.Bool.Decides.{nat_tests}
use Rattle.ec_code.specs.LayerTexts.{layers_of_text}
use Rattle.ec_code.specs.Readings.{profile_of, is_place, is_mapping}
use Rattle.ec_code.specs.Settings.{is_empty}
use Rattle.ec_code.proofs.LineLemmas.{is_solid, is_kept, level_past, IsSettled, AreSettled, number_setting, text_setting, has_settings_back, settings_back}
use Rattle.ec_code.proofs.LayerTextLemmas.{more_texts, array_text, AreMarks, plain_marks, mapping_marks, array_solid, array_kept, array_level}
use Rattle.ec_code.proofs.LayerJsonLemmas.{layers_back}
use Rattle.ec_code.proofs.LayoutAgainLemmas.{layout_profile, layout_read}
use Rattle.ec_code.proofs.ReadingLemmas.{profile_of_canonical}
use Rattle.ec_code.proofs.ShecAgainLemmas.{shec_profile, shec_read}
use Rattle.ec_code.proofs.LrcAgainLemmas.{number_profile, numbers_read}
use Rattle.plugin_reg.specs.Canonical.{lines_of, jerasure_settings, shec_settings, number_settings, layer_item, layers_text, layout_settings}
use Rattle.plugin_reg.specs.Laws.{LinesAreReadBack}

jerasure_settled : (k m least unit : ℕ) → k < 2 ^ 32 → m < 2 ^ 32 → least < 2 ^ 32 → unit < 2 ^ 32 → AreSettled (jerasure_settings k m least unit)
unfolding AreSettled
jerasure_settled k m least unit lk lm ll lu = (
  number_setting (codes "k") k (omega arith) refl lk,
  (
    number_setting (codes "m") m (omega arith) refl lm,
    (
      number_setting (codes "min_size") least (omega arith) refl ll,
      (
        text_setting (codes "plugin") (codes "jerasure") (omega arith) refl refl,
        (
          number_setting (codes "stripe_unit") unit (omega arith) refl lu,
          (
            text_setting (codes "technique") (codes "reed_sol_van") (omega arith) refl refl,
            (text_setting (codes "w") (codes "8") (omega arith) refl refl, tt),
          ),
        ),
      ),
    ),
  ),
)

pub lines_read_back : LinesAreReadBack
lines_read_back k m least unit lk lm ll lu =
    let are = jerasure_settled k m least unit lk lm ll lu in
    profile_of_canonical (lines_of (jerasure_settings k m least unit)) k m least unit lk lm ll lu
    (has_settings_back (jerasure_settings k m least unit) are) (settings_back (jerasure_settings k m least unit) are)

shec_settled : (c k m least unit : ℕ) → c < 2 ^ 32 → k < 2 ^ 32 → m < 2 ^ 32 → least < 2 ^ 32 → unit < 2 ^ 32 → AreSettled (shec_settings c k m least unit)
unfolding AreSettled
shec_settled c k m least unit lc lk lm ll lu = (
  number_setting (codes "c") c (omega arith) refl lc,
  (
    number_setting (codes "k") k (omega arith) refl lk,
    (
      number_setting (codes "m") m (omega arith) refl lm,
      (
        number_setting (codes "min_size") least (omega arith) refl ll,
        (
          text_setting (codes "plugin") (codes "shec") (omega arith) refl refl,
          (
            number_setting (codes "stripe_unit") unit (omega arith) refl lu,
            (
              text_setting (codes "technique") (codes "single") (omega arith) refl refl,
              (text_setting (codes "w") (codes "8") (omega arith) refl refl, tt),
            ),
          ),
        ),
      ),
    ),
  ),
)

pub shec_lines_read : (c k m least unit : ℕ) → c < 2 ^ 32 → k < 2 ^ 32 → m < 2 ^ 32 → least < 2 ^ 32 → unit < 2 ^ 32
    → profile_of (lines_of (shec_settings c k m least unit)) ≡ Ok (shec_profile c k m least unit)
shec_lines_read c k m least unit lc lk lm ll lu =
    let are = shec_settled c k m least unit lc lk lm ll lu in
    shec_read (lines_of (shec_settings c k m least unit)) c k m least unit lc lk lm ll lu
    (has_settings_back (shec_settings c k m least unit) are) (settings_back (shec_settings c k m least unit) are)

number_settled : (k l m least unit : ℕ) → k < 2 ^ 32 → l < 2 ^ 32 → m < 2 ^ 32 → least < 2 ^ 32 → unit < 2 ^ 32 → AreSettled (number_settings k l m least unit)
unfolding AreSettled
number_settled k l m least unit lk ll lm ls lu = (
  number_setting (codes "k") k (omega arith) refl lk,
  (
    number_setting (codes "l") l (omega arith) refl ll,
    (
      number_setting (codes "m") m (omega arith) refl lm,
      (
        number_setting (codes "min_size") least (omega arith) refl ls,
        (
          text_setting (codes "plugin") (codes "lrc") (omega arith) refl refl,
          (number_setting (codes "stripe_unit") unit (omega arith) refl lu, tt),
        ),
      ),
    ),
  ),
)

pub number_lines_read : (k l m least unit : ℕ) → k < 2 ^ 32 → l < 2 ^ 32 → m < 2 ^ 32 → least < 2 ^ 32 → unit < 2 ^ 32
    → profile_of (lines_of (number_settings k l m least unit)) ≡ Ok (number_profile k l m least unit)
number_lines_read k l m least unit lk ll lm ls lu =
    let are = number_settled k l m least unit lk ll lm ls lu in
    numbers_read (lines_of (number_settings k l m least unit)) k l m least unit lk ll lm ls lu
    (has_settings_back (number_settings k l m least unit) are) (settings_back (number_settings k l m least unit) are)

-- the text of the layers is the one that is read back
same_text : (layers : List (List ℕ)) → layers_text layers ≡ array_text layers
same_text [] = refl
same_text (layer ∷ layers) = ap (λ t. 91 ∷ t) (append_assoc (layer_item layer) (more_texts layers) (93 ∷ []))

layers_setting : (layers : List (List ℕ)) → AreMarks layers → IsSettled (record { key = codes "layers"; value = layers_text layers })
layers_setting layers are = record {
  some = omega arith;
  key = refl;
  solid = ap (list_all is_solid) (same_text layers) ∙ array_solid layers are;
  kept = ap (is_kept 0) (same_text layers) ∙ array_kept layers are;
  closed = ap (level_past 0) (same_text layers) ∙ array_level layers are;
}

layout_settled : (mapping : List ℕ) (layers : List (List ℕ)) (least unit : ℕ) → list_all is_place mapping ≡ true → AreMarks layers → least < 2 ^ 32 → unit < 2 ^ 32
    → AreSettled (layout_settings mapping layers least unit)
unfolding AreSettled
layout_settled mapping layers least unit places marks ls lu = (
  layers_setting layers marks,
  (
    text_setting (codes "mapping") mapping (omega arith) refl (plain_marks mapping (mapping_marks mapping places)),
    (
      number_setting (codes "min_size") least (omega arith) refl ls,
      (
        text_setting (codes "plugin") (codes "lrc") (omega arith) refl refl,
        (number_setting (codes "stripe_unit") unit (omega arith) refl lu, tt),
      ),
    ),
  ),
)

is_a_mapping : (text : List ℕ) → 1 ≤ length text → list_all is_place text ≡ true → is_mapping text ≡ true
is_a_mapping text some places =
    let isnt : is_empty text ≡ false = grind (arith, nat_tests) in
    and_from (not (is_empty text)) (list_all is_place text) (ap not isnt) places

pub layout_lines_read : (mapping : List ℕ) (layers : List (List ℕ)) (least unit : ℕ) → 1 ≤ length mapping → list_all is_place mapping ≡ true
    → AreMarks layers → length layers ≤ 16 → least < 2 ^ 32 → unit < 2 ^ 32
    → profile_of (lines_of (layout_settings mapping layers least unit)) ≡ Ok (layout_profile mapping layers least unit)
layout_lines_read mapping layers least unit some places marks few ls lu =
    let are = layout_settled mapping layers least unit places marks ls lu in
    layout_read (lines_of (layout_settings mapping layers least unit)) (layers_text layers) mapping layers least unit
    (ap layers_of_text (same_text layers) ∙ layers_back layers marks few) (is_a_mapping mapping some places) ls lu
    (has_settings_back (layout_settings mapping layers least unit) are) (settings_back (layout_settings mapping layers least unit) are)

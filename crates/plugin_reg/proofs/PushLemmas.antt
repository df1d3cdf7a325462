-- How the lines of settings and the items of an array grow.
use Rattle.std.proofs.Common.{◌≡◌, ℕ, List, [], ◌∷◌, ◌++◌, ◌+◌, ◌<◌, length, take, get_or, ap, sym, ◌∙◌, arith}
use Rattle.std.specs.List.{flat_map}
use Rattle.std.specs.Prelude.{slice_index}
use Rattle.std.proofs.lemmas.List.{take_more, length-take-le, append_assoc, append-nil}
use Rattle.std.proofs.lemmas.List.FromFn.{map-range_with_len_more}
use Rattle.std.proofs.lemmas.Grind.{flat_map-append}
use Rattle.ec_code.specs.Settings.{Setting}
use Rattle.ec_code.specs.LrcFaults.{text_of}
use Rattle.plugin_reg.specs.Canonical.{line_of, lines_of, layer_item, layer_items}

-- one more setting
pub one_more_line : (settings : List Setting) (s : Setting) (old now : List ℕ) → old ≡ lines_of settings → now ≡ old ++ line_of s → now ≡ lines_of (settings ++ s ∷ [])
one_more_line settings s old now e f =
    f ∙ ap (λ t. t ++ line_of s) e ∙ ap (λ t. lines_of settings ++ t) (sym (append-nil (line_of s))) ∙ sym (flat_map-append line_of settings (s ∷ []))

-- the items of some layers, with one more
first_item : (texts : List (List ℕ)) (text : List ℕ) → length texts ≡ 0 → layer_items (texts ++ text ∷ []) ≡ layer_item text
first_item [] text e = append-nil (layer_item text)
first_item (t ∷ texts) text e = absurd (omega (arith, e))

next_item : (texts : List (List ℕ)) (text : List ℕ) → 0 < length texts → layer_items (texts ++ text ∷ []) ≡ layer_items texts ++ 44 ∷ layer_item text
next_item [] text lt = absurd (omega (arith, lt))
next_item (t ∷ texts) text lt =
    ap (λ l. layer_item t ++ l) (flat_map-append (λ next. 44 ∷ layer_item next) texts (text ∷ []) ∙ ap (λ l. flat_map (λ next. 44 ∷ layer_item next) texts ++ 44 ∷ l) (append-nil (layer_item text)))
    ∙ sym (append_assoc (layer_item t) (flat_map (λ next. 44 ∷ layer_item next) texts) (44 ∷ layer_item text))

pub first_of : (texts : List (List ℕ)) (i : ℕ) → i ≡ 0 → i < length texts → layer_items (take (i + 1) texts) ≡ layer_items (take i texts) ++ layer_item (get_or texts i [])
first_of texts i e lt =
    let none : length (take i texts) ≡ 0 = omega (arith, length-take-le i texts (omega (arith, lt)), e) in
    ap layer_items (take_more texts i [] lt) ∙ first_item (take i texts) (get_or texts i []) none
    ∙ ap (λ t. t ++ layer_item (get_or texts i [])) (sym (ap (λ n. layer_items (take n texts)) e))

pub next_of : (texts : List (List ℕ)) (i : ℕ) → 0 < i → i < length texts → layer_items (take (i + 1) texts) ≡ layer_items (take i texts) ++ 44 ∷ layer_item (get_or texts i [])
next_of texts i some lt =
    let more : 0 < length (take i texts) = omega (arith, length-take-le i texts (omega (arith, lt)), some) in
    ap layer_items (take_more texts i [] lt) ∙ next_item (take i texts) (get_or texts i []) more

-- one more character
pub one_more_mark : (first old list now : List ℕ) (i mark : ℕ) → list ≡ old ++ text_of first i → mark ≡ slice_index first i → now ≡ list ++ mark ∷ [] → now ≡ old ++ text_of first (i + 1)
one_more_mark first old list now i mark before is grown =
    grown ∙ ap (λ t. t ++ mark ∷ []) before ∙ append_assoc old (text_of first i) (mark ∷ [])
    ∙ ap (λ t. old ++ t) (ap (λ m. text_of first i ++ m ∷ []) is ∙ sym (map-range_with_len_more (slice_index first) 0 i i (omega arith)))

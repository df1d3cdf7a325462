-- The text of layers as a setting's value: it stands whole in a line, has no comma to be left out, and is UTF-8.
-- Bytes: 34 is `"`, 44 a comma, 68 `D`, 91 `[`, 93 `]`, 95 `_`, 99 `c`.
use Rattle.std.proofs.Common.{◌≡◌, ◌⊎◌, ℕ, suc, Bool, true, false, List, [], ◌∷◌, ◌++◌, ◌<◌, ◌&&◌, length, refl, ap, sym, ◌∙◌, subst, arith, inl, inr}
use Rattle.std.specs.Prelude.{⊤, codes, slice_index_or}
use Rattle.std.specs.List.{list_all, flat_map}
use Rattle.std.proofs.lemmas.List.{append_assoc}
use Rattle.std.proofs.lemmas.List.Folds.{list_all-append}
use Rattle.std.proofs.lemmas.Bool.{and_parts, and_from}
use Rattle.std.proofs.lemmas.Bool.Decides.{nat_tests}
use Rattle.ec_code.specs.LayerTexts.{is_mark, uncommaed}
use Rattle.ec_code.specs.Readings.{is_place}
use Rattle.ec_code.proofs.LineLemmas.{is_solid, is_plain, level_past, is_kept, level_past-append, is_kept-append, level_past-plain, is_kept-plain, solid_plain}

-- a layer as an item: its characters, and settings without a word
abbrev pub item_text : List ℕ → List ℕ
item_text layer = codes "[\"" ++ layer ++ codes "\",\"\"]"

-- the layers as an array, without blanks
abbrev pub more_texts : List (List ℕ) → List ℕ
more_texts layers = flat_map (λ layer. 44 ∷ item_text layer) layers

abbrev pub array_text : List (List ℕ) → List ℕ
array_text [] = codes "[]"
array_text (layer ∷ layers) = 91 ∷ (item_text layer ++ (more_texts layers ++ 93 ∷ []))

-- each layer has marks alone
abbrev pub AreMarks : List (List ℕ) → Type 0
AreMarks [] = ⊤
AreMarks (layer ∷ layers) = (list_all is_mark layer ≡ true) × AreMarks layers

mark_is : (b : ℕ) → is_mark b ≡ true → (b ≡ 68) ⊎ ((b ≡ 99) ⊎ (b ≡ 95))
mark_is b e = grind (arith, nat_tests)

-- what holds of the three marks holds of each
pub by_mark : (P : ℕ → Type 0) → P 68 → P 99 → P 95 → (b : ℕ) → is_mark b ≡ true → P b
by_mark P one two three b e = elim (mark_is b e) [
  | inl is ↦ subst P (sym is) one
  | inr other ↦ elim other [ inl is ↦ subst P (sym is) two | inr is ↦ subst P (sym is) three ]
]

pub plain_marks : (text : List ℕ) → list_all is_mark text ≡ true → list_all is_plain text ≡ true
plain_marks [] e = refl
plain_marks (b ∷ text) e =
    let both = and_parts (is_mark b) (list_all is_mark text) e in
    and_from (is_plain b) (list_all is_plain text) (by_mark (λ b. is_plain b ≡ true) refl refl refl b both.0) (plain_marks text both.1)

-- layers whose texts have marks alone, one by one
pub marks_from : (layers : List (List ℕ)) → ((i : ℕ) → i < length layers → list_all is_mark (slice_index_or layers i []) ≡ true) → AreMarks layers
marks_from [] each = tt
marks_from (layer ∷ layers) each = (each 0 (omega arith), marks_from layers (λ i lt. each (suc i) (omega (arith, lt))))

place_mark : (b : ℕ) → is_place b ≡ true → is_mark b ≡ true
place_mark b e = grind (arith, nat_tests)

-- the characters of a mapping are marks too
pub mapping_marks : (text : List ℕ) → list_all is_place text ≡ true → list_all is_mark text ≡ true
mapping_marks [] e = refl
mapping_marks (b ∷ text) e =
    let both = and_parts (is_place b) (list_all is_place text) e in
    and_from (is_mark b) (list_all is_mark text) (place_mark b both.0) (mapping_marks text both.1)

-- an item before more, at the first level
item_level : (layer more : List ℕ) → list_all is_mark layer ≡ true → level_past 1 (item_text layer ++ more) ≡ level_past 1 more
unfolding level_past
item_level layer more e =
    ap (level_past 2) (append_assoc layer (codes "\",\"\"]") more)
    ∙ level_past-append 2 layer (codes "\",\"\"]" ++ more)
    ∙ ap (λ l. level_past l (codes "\",\"\"]" ++ more)) (level_past-plain 2 layer (plain_marks layer e))

item_kept : (layer more : List ℕ) → list_all is_mark layer ≡ true → is_kept 1 (item_text layer ++ more) ≡ is_kept 1 more
unfolding is_kept
item_kept layer more e =
    ap (is_kept 2) (append_assoc layer (codes "\",\"\"]") more)
    ∙ is_kept-append 2 layer (codes "\",\"\"]" ++ more)
    ∙ ap (λ b. b && is_kept (level_past 2 layer) (codes "\",\"\"]" ++ more)) (is_kept-plain 2 layer (plain_marks layer e))
    ∙ ap (λ l. is_kept l (codes "\",\"\"]" ++ more)) (level_past-plain 2 layer (plain_marks layer e))

more_level : (layers : List (List ℕ)) (rest : List ℕ) → AreMarks layers → level_past 1 (more_texts layers ++ rest) ≡ level_past 1 rest
unfolding level_past
more_level [] rest are = refl
more_level (layer ∷ layers) rest are =
    ap (level_past 1) (append_assoc (item_text layer) (more_texts layers) rest)
    ∙ item_level layer (more_texts layers ++ rest) are.0 ∙ more_level layers rest are.1

more_kept : (layers : List (List ℕ)) (rest : List ℕ) → AreMarks layers → is_kept 1 (more_texts layers ++ rest) ≡ is_kept 1 rest
unfolding is_kept
more_kept [] rest are = refl
more_kept (layer ∷ layers) rest are =
    ap (is_kept 1) (append_assoc (item_text layer) (more_texts layers) rest)
    ∙ item_kept layer (more_texts layers ++ rest) are.0 ∙ more_kept layers rest are.1

pub array_level : (layers : List (List ℕ)) → AreMarks layers → level_past 0 (array_text layers) ≡ 0
unfolding level_past
array_level [] are = refl
array_level (layer ∷ layers) are =
    item_level layer (more_texts layers ++ 93 ∷ []) are.0 ∙ more_level layers (93 ∷ []) are.1

pub array_kept : (layers : List (List ℕ)) → AreMarks layers → is_kept 0 (array_text layers) ≡ true
unfolding is_kept
array_kept [] are = refl
array_kept (layer ∷ layers) are =
    item_kept layer (more_texts layers ++ 93 ∷ []) are.0 ∙ more_kept layers (93 ∷ []) are.1

-- a test that the marks, the brackets, the commas and the quotes pass
module _ (test : ℕ → Bool) (marks : (text : List ℕ) → list_all is_mark text ≡ true → list_all test text ≡ true)
    (opens : list_all test (codes "[\"") ≡ true) (closes : list_all test (codes "\",\"\"]") ≡ true) (parts : list_all test (codes ",[]") ≡ true) where
  item_all : (layer : List ℕ) → list_all is_mark layer ≡ true → list_all test (item_text layer) ≡ true
  item_all layer e =
      list_all-append test (codes "[\"") (layer ++ codes "\",\"\"]")
      ∙ and_from (list_all test (codes "[\"")) (list_all test (layer ++ codes "\",\"\"]")) opens
      (list_all-append test layer (codes "\",\"\"]") ∙ and_from (list_all test layer) (list_all test (codes "\",\"\"]")) (marks layer e) closes)

  more_all : (layers : List (List ℕ)) → AreMarks layers → list_all test (more_texts layers) ≡ true
  more_all [] are = refl
  more_all (layer ∷ layers) are =
      list_all-append test (44 ∷ item_text layer) (more_texts layers)
      ∙ and_from (list_all test (44 ∷ item_text layer)) (list_all test (more_texts layers))
      (and_from (test 44) (list_all test (item_text layer)) (and_parts (test 44) (test 91 && (test 93 && true)) parts).0 (item_all layer are.0))
      (more_all layers are.1)

  pub array_all : (layers : List (List ℕ)) → AreMarks layers → list_all test (array_text layers) ≡ true
  array_all [] are = (and_parts (test 44) (test 91 && (test 93 && true)) parts).1
  array_all (layer ∷ layers) are =
      let ends = (and_parts (test 44) (test 91 && (test 93 && true)) parts).1 in
      and_from (test 91) (list_all test (item_text layer ++ (more_texts layers ++ 93 ∷ []))) (and_parts (test 91) (test 93 && true) ends).0
      (list_all-append test (item_text layer) (more_texts layers ++ 93 ∷ [])
      ∙ and_from (list_all test (item_text layer)) (list_all test (more_texts layers ++ 93 ∷ [])) (item_all layer are.0)
      (list_all-append test (more_texts layers) (93 ∷ [])
      ∙ and_from (list_all test (more_texts layers)) (test 93 && true) (more_all layers are.1) (and_parts (test 91) (test 93 && true) ends).1))

pub array_solid : (layers : List (List ℕ)) → AreMarks layers → list_all is_solid (array_text layers) ≡ true
array_solid layers are = array_all is_solid (λ text e. solid_plain text (plain_marks text e)) refl refl refl layers are

-- no comma is left out of a layer in its quotes, of an item, or of the array
marks_stay : (layer more : List ℕ) → list_all is_mark layer ≡ true → uncommaed true false (layer ++ more) ≡ layer ++ uncommaed true false more
unfolding uncommaed
marks_stay [] more e = refl
marks_stay (b ∷ layer) more e =
    let both = and_parts (is_mark b) (list_all is_mark layer) e in
    by_mark (λ b. uncommaed true false (b ∷ (layer ++ more)) ≡ b ∷ uncommaed true false (layer ++ more)) refl refl refl b both.0
    ∙ ap (λ t. b ∷ t) (marks_stay layer more both.1)

item_stays : (layer more : List ℕ) → list_all is_mark layer ≡ true → uncommaed false false (item_text layer ++ more) ≡ item_text layer ++ uncommaed false false more
unfolding uncommaed
item_stays layer more e =
    ap (λ t. 91 ∷ 34 ∷ uncommaed true false t) (append_assoc layer (codes "\",\"\"]") more)
    ∙ ap (λ t. 91 ∷ 34 ∷ t) (marks_stay layer (codes "\",\"\"]" ++ more) e)
    ∙ ap (λ t. 91 ∷ 34 ∷ t) (sym (append_assoc layer (codes "\",\"\"]") (uncommaed false false more)))

more_stay : (layers : List (List ℕ)) (rest : List ℕ) → AreMarks layers → uncommaed false false (more_texts layers ++ rest) ≡ more_texts layers ++ uncommaed false false rest
unfolding uncommaed
more_stay [] rest are = refl
more_stay (layer ∷ layers) rest are =
    ap (λ t. uncommaed false false (44 ∷ t)) (append_assoc (item_text layer) (more_texts layers) rest)
    ∙ ap (λ t. 44 ∷ t) (item_stays layer (more_texts layers ++ rest) are.0)
    ∙ ap (λ t. 44 ∷ (item_text layer ++ t)) (more_stay layers rest are.1)
    ∙ ap (λ t. 44 ∷ t) (sym (append_assoc (item_text layer) (more_texts layers) (uncommaed false false rest)))

pub array_stays : (layers : List (List ℕ)) → AreMarks layers → uncommaed false false (array_text layers) ≡ array_text layers
unfolding uncommaed
array_stays [] are = refl
array_stays (layer ∷ layers) are =
    ap (λ t. 91 ∷ t) (item_stays layer (more_texts layers ++ 93 ∷ []) are.0)
    ∙ ap (λ t. 91 ∷ (item_text layer ++ t)) (more_stay layers (93 ∷ []) are.1)

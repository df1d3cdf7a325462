-- The lines of some settings are read as those settings.
use Rattle.std.proofs.Common.{◌≡◌, ℕ, Bool, true, false, not, cond, List, [], ◌∷◌, ◌++◌, ◌+◌, ◌-◌, ◌<◌, ◌≤◌, ◌^◌, ◌%◌, ◌==◌, ◌&&◌, ◌||◌, length, get_or, take, drop, map, refl, ap, sym, ◌∙◌, arith}
use Rattle.std.specs.Prelude.{nat_lt, ⊤, filter}
use Rattle.std.specs.List.{list_all, flat_map, position_or_len, prefix_len, suffix_len, onto_first, before_first, after_first}
use Rattle.std.specs.Fmt.{decimal}
use Rattle.std.proofs.lemmas.List.{take_all, take_at, drop_at, append_assoc, length-append}
use Rattle.std.proofs.lemmas.List.Sums.{suffix_len_is, AllPass-from_list_all}
use Rattle.std.proofs.lemmas.List.Folds.{list_all-append}
use Rattle.std.proofs.lemmas.Bool.{and_parts, and_from, lt-ltb}
use Rattle.std.proofs.lemmas.Bool.Decides.{nat_tests}
use Rattle.std.proofs.lemmas.Fmt.{decimal_by_steps}
use Rattle.ec_code.specs.Settings.{Setting, is_blank, is_parting, level_after, pieces_from, untrailed, trimmed, is_empty, setting_texts, is_equals, is_setting, setting_of, has_settings, settings_of}

-- a byte that is no blank and no line feed
abbrev pub is_solid : ℕ → Bool
is_solid b = not (is_blank b)

-- the same, and no comma and no bracket
abbrev pub is_plain : ℕ → Bool
is_plain b = not (is_blank b || (is_parting b || ((b == 91) || (b == 93))))

-- the same, and no `=`
abbrev pub is_of_key : ℕ → Bool
is_of_key b = is_plain b && not (is_equals b)

-- the level behind a text, and whether nothing parts it where it begins at a level
unfoldable pub level_past : ℕ → List ℕ → ℕ
level_past level [] = level
level_past level (b ∷ text) = level_past (level_after level b) text

unfoldable pub is_kept : ℕ → List ℕ → Bool
is_kept level [] = true
is_kept level (b ∷ text) = not ((level == 0) && is_parting b) && is_kept (level_after level b) text

not_true : (b : Bool) → not b ≡ true → b ≡ false
not_true true e = absurd (cc)
not_true false e = refl

-- a text that nothing parts and whose brackets are closed is the first piece before a line feed
pieces_line : (level : ℕ) (text rest : List ℕ) → is_kept level text ≡ true → level_past level text ≡ 0
    → pieces_from level (text ++ 10 ∷ rest) ≡ text ∷ pieces_from 0 rest
unfolding pieces_from is_kept level_past
pieces_line level [] rest kept closed = ap (λ l. pieces_from l (10 ∷ rest)) closed
pieces_line level (b ∷ text) rest kept closed =
    let both = and_parts (not ((level == 0) && is_parting b)) (is_kept (level_after level b) text) kept in
    ap (λ c. cond c ([] ∷ pieces_from level (text ++ 10 ∷ rest)) (onto_first b (pieces_from (level_after level b) (text ++ 10 ∷ rest))))
    (not_true ((level == 0) && is_parting b) both.0)
    ∙ ap (onto_first b) (pieces_line (level_after level b) text rest both.1 closed)

-- a text of two parts
pub level_past-append : (level : ℕ) (text more : List ℕ) → level_past level (text ++ more) ≡ level_past (level_past level text) more
unfolding level_past
level_past-append level [] more = refl
level_past-append level (b ∷ text) more = level_past-append (level_after level b) text more

and_assoc : (a b c : Bool) → (a && (b && c)) ≡ ((a && b) && c)
and_assoc true b c = refl
and_assoc false b c = refl

pub is_kept-append : (level : ℕ) (text more : List ℕ) → is_kept level (text ++ more) ≡ (is_kept level text && is_kept (level_past level text) more)
unfolding is_kept level_past
is_kept-append level [] more = refl
is_kept-append level (b ∷ text) more =
    ap (λ c. not ((level == 0) && is_parting b) && c) (is_kept-append (level_after level b) text more)
    ∙ and_assoc (not ((level == 0) && is_parting b)) (is_kept (level_after level b) text) (is_kept (level_past (level_after level b) text) more)

none_of : (w x y z : Bool) → not (w || (x || (y || z))) ≡ true → (w ≡ false) × (x ≡ false) × (y ≡ false) × (z ≡ false)
none_of true x y z e = absurd (cc)
none_of false true y z e = absurd (cc)
none_of false false true z e = absurd (cc)
none_of false false false true e = absurd (cc)
none_of false false false false e = (refl, refl, refl, refl)

plain_parts : (b : ℕ) → is_plain b ≡ true → (is_blank b ≡ false) × (is_parting b ≡ false) × ((b == 91) ≡ false) × ((b == 93) ≡ false)
plain_parts b e = none_of (is_blank b) (is_parting b) (b == 91) (b == 93) e

level_plain : (level b : ℕ) → is_plain b ≡ true → level_after level b ≡ level
level_plain level b e =
    let is = plain_parts b e in
    ap (λ c. cond c (level + 1) (cond (b == 93) (level - 1) level)) is.2 ∙ ap (λ c. cond c (level - 1) level) is.3

and_none : (a b : Bool) → b ≡ false → not (a && b) ≡ true
and_none true b e = ap not e
and_none false b e = refl

-- a plain text at any level
pub level_past-plain : (level : ℕ) (text : List ℕ) → list_all is_plain text ≡ true → level_past level text ≡ level
unfolding level_past
level_past-plain level [] e = refl
level_past-plain level (b ∷ text) e =
    let both = and_parts (is_plain b) (list_all is_plain text) e in
    ap (λ l. level_past l text) (level_plain level b both.0) ∙ level_past-plain level text both.1

pub is_kept-plain : (level : ℕ) (text : List ℕ) → list_all is_plain text ≡ true → is_kept level text ≡ true
unfolding is_kept
is_kept-plain level [] e = refl
is_kept-plain level (b ∷ text) e =
    let both = and_parts (is_plain b) (list_all is_plain text) e in
    let is = plain_parts b both.0 in
    and_from (not ((level == 0) && is_parting b)) (is_kept (level_after level b) text) (and_none (level == 0) (is_parting b) is.1)
    (ap (λ l. is_kept l text) (level_plain level b both.0) ∙ is_kept-plain level text both.1)

pub solid_plain : (text : List ℕ) → list_all is_plain text ≡ true → list_all is_solid text ≡ true
solid_plain [] e = refl
solid_plain (b ∷ text) e =
    let both = and_parts (is_plain b) (list_all is_plain text) e in
    and_from (is_solid b) (list_all is_solid text) (ap not (plain_parts b both.0).0) (solid_plain text both.1)

-- a text without blanks has none at its ends
unled_solid : (text : List ℕ) → list_all is_solid text ≡ true → drop (prefix_len is_blank text) text ≡ text
unled_solid [] e = refl
unled_solid (b ∷ text) e =
    ap (λ c. drop (cond c (1 + prefix_len is_blank text) 0) (b ∷ text)) (not_true (is_blank b) (and_parts (is_solid b) (list_all is_solid text) e).0)

untrailed_solid : (text : List ℕ) → list_all is_solid text ≡ true → untrailed text ≡ text
untrailed_solid text e =
    let all = AllPass-from_list_all is_solid text e in
    let none = suffix_len_is is_blank text (length text) 0 (omega arith) (λ k le lt. absurd (omega arith))
    (λ lt. not_true (is_blank (get_or text (length text - 1) 0)) (all (length text - 1) 0 (omega arith))) in
    take_all (length text - suffix_len is_blank text) text (omega arith)

trimmed_solid : (text : List ℕ) → list_all is_solid text ≡ true → trimmed text ≡ text
trimmed_solid text e = ap untrailed (unled_solid text e) ∙ untrailed_solid text e

-- the text of a setting, and the lines of some
abbrev pub text_of : Setting → List ℕ
text_of s = s.key ++ 61 ∷ s.value

abbrev line_of : Setting → List ℕ
line_of s = s.key ++ 61 ∷ s.value ++ 10 ∷ []

abbrev lines_of : List Setting → List ℕ
lines_of settings = flat_map line_of settings

texts_line : (text rest : List ℕ) → list_all is_solid text ≡ true → is_kept 0 text ≡ true → level_past 0 text ≡ 0 → 0 < length text
    → setting_texts (text ++ 10 ∷ rest) ≡ text ∷ setting_texts rest
texts_line text rest solid kept closed some =
    let isnt : is_empty text ≡ false = grind (arith, nat_tests) in
    ap (λ pieces. filter (λ piece. not (is_empty piece)) (map trimmed pieces)) (pieces_line 0 text rest kept closed)
    ∙ ap (λ t. cond (not (is_empty t)) (t ∷ setting_texts rest) (setting_texts rest)) (trimmed_solid text solid)
    ∙ ap (λ c. cond (not c) (text ∷ setting_texts rest) (setting_texts rest)) isnt

texts_end : setting_texts [] ≡ []
unfolding pieces_from
texts_end = refl

-- the key of a setting stands before the first `=`
equals_after : (key value : List ℕ) → list_all is_of_key key ≡ true → position_or_len is_equals (key ++ 61 ∷ value) ≡ length key
equals_after [] value e = refl
equals_after (b ∷ key) value e =
    let both = and_parts (is_of_key b) (list_all is_of_key key) e in
    let isnt = (and_parts (is_plain b) (not (is_equals b)) both.0).1 in
    ap (λ c. cond c (1 + position_or_len is_equals (key ++ 61 ∷ value)) 0) isnt ∙ omega (arith, equals_after key value both.1)

plain_key : (key : List ℕ) → list_all is_of_key key ≡ true → list_all is_plain key ≡ true
plain_key [] e = refl
plain_key (b ∷ key) e =
    let both = and_parts (is_of_key b) (list_all is_of_key key) e in
    and_from (is_plain b) (list_all is_plain key) (and_parts (is_plain b) (not (is_equals b)) both.0).0 (plain_key key both.1)

-- a setting whose line is read as it
pub record IsSettled (s : Setting) : Type 0 where
  pub some : 0 < length s.key
  pub key : list_all is_of_key s.key ≡ true
  pub solid : list_all is_solid s.value ≡ true
  pub kept : is_kept 0 s.value ≡ true
  pub closed : level_past 0 s.value ≡ 0

module _ (s : Setting) (is : IsSettled s) where
  solid_text : list_all is_solid (text_of s) ≡ true
  solid_text =
      list_all-append is_solid s.key (61 ∷ s.value)
      ∙ and_from (list_all is_solid s.key) (list_all is_solid s.value) (solid_plain s.key (plain_key s.key is.key)) is.solid

  kept_text : is_kept 0 (text_of s) ≡ true
  unfolding is_kept level_past
  kept_text =
      is_kept-append 0 s.key (61 ∷ s.value)
      ∙ and_from (is_kept 0 s.key) (is_kept (level_past 0 s.key) (61 ∷ s.value)) (is_kept-plain 0 s.key (plain_key s.key is.key))
      (ap (λ l. is_kept l (61 ∷ s.value)) (level_past-plain 0 s.key (plain_key s.key is.key)) ∙ is.kept)

  closed_text : level_past 0 (text_of s) ≡ 0
  unfolding level_past
  closed_text =
      level_past-append 0 s.key (61 ∷ s.value)
      ∙ ap (λ l. level_past l (61 ∷ s.value)) (level_past-plain 0 s.key (plain_key s.key is.key)) ∙ is.closed

  setting_back : setting_of (text_of s) ≡ s
  setting_back =
      let at = equals_after s.key s.value is.key in
      let whole = sym (append_assoc s.key (61 ∷ []) s.value) in
      let front : before_first is_equals (text_of s) ≡ s.key = ap (λ n. take n (text_of s)) at ∙ take_at s.key (61 ∷ s.value) (length s.key) refl in
      let back : after_first is_equals (text_of s) ≡ s.value =
      ap (λ n. drop (n + 1) (text_of s)) at ∙ ap (drop (length s.key + 1)) whole
      ∙ drop_at (s.key ++ 61 ∷ []) s.value (length s.key + 1) (length-append s.key (61 ∷ [])) in
      ap (λ k. record { key = k; value = after_first is_equals (text_of s) }) front ∙ ap (λ v. record { key = s.key; value = v }) back

  is_setting_text : is_setting (text_of s) ≡ true
  is_setting_text =
      let at = equals_after s.key s.value is.key in
      let some = is.some in
      let long = length-append s.key (61 ∷ s.value) in
      and_from (nat_lt 0 (position_or_len is_equals (text_of s))) (nat_lt (position_or_len is_equals (text_of s)) (length (text_of s)))
      (lt-ltb 0 (position_or_len is_equals (text_of s)) (omega arith)) (lt-ltb (position_or_len is_equals (text_of s)) (length (text_of s)) (omega arith))

  texts_of_line : (rest : List ℕ) → setting_texts (line_of s ++ rest) ≡ text_of s ∷ setting_texts rest
  texts_of_line rest =
      let line : line_of s ≡ text_of s ++ 10 ∷ [] = refl in
      let some = is.some in
      ap setting_texts (ap (λ l. l ++ rest) line ∙ append_assoc (text_of s) (10 ∷ []) rest)
      ∙ texts_line (text_of s) rest solid_text kept_text closed_text (omega (arith, length-append s.key (61 ∷ s.value)))

-- each of some settings is one whose line is read as it
unfoldable pub AreSettled : List Setting → Type 0
AreSettled [] = ⊤
AreSettled (s ∷ settings) = IsSettled s × AreSettled settings

pub has_settings_back : (settings : List Setting) → AreSettled settings → has_settings (lines_of settings) ≡ true
unfolding AreSettled
has_settings_back [] are = ap (list_all is_setting) texts_end
has_settings_back (s ∷ settings) are =
    ap (list_all is_setting) (texts_of_line s are.0 (lines_of settings))
    ∙ and_from (is_setting (text_of s)) (has_settings (lines_of settings)) (is_setting_text s are.0) (has_settings_back settings are.1)

pub settings_back : (settings : List Setting) → AreSettled settings → settings_of (lines_of settings) ≡ settings
unfolding AreSettled
settings_back [] are = ap (map setting_of) texts_end
settings_back (s ∷ settings) are =
    ap (map setting_of) (texts_of_line s are.0 (lines_of settings))
    ∙ ap (λ t. t ∷ settings_of (lines_of settings)) (setting_back s are.0)
    ∙ ap (λ rest. s ∷ rest) (settings_back settings are.1)

-- the digits of a number are plain
plain_digit : (b : ℕ) → 48 ≤ b → b < 58 → is_plain b ≡ true
plain_digit b low high = grind (arith, nat_tests)

plain_number : (n : ℕ) → n < 2 ^ 32 → list_all is_plain (decimal n) ≡ true
plain_number n lt = decimal_by_steps (λ _ ds. list_all is_plain ds ≡ true)
    (λ d l. and_from (is_plain (48 + d)) true (plain_digit (48 + d) (omega arith) (omega arith)) refl)
    (λ d ds l rest. list_all-append is_plain ds ((48 + d % 10) ∷ [])
    ∙ and_from (list_all is_plain ds) (is_plain (48 + d % 10) && true) rest
    (and_from (is_plain (48 + d % 10)) true (plain_digit (48 + d % 10) (omega arith) (omega arith)) refl)) n (omega arith)

pub text_setting : (key value : List ℕ) → 0 < length key → list_all is_of_key key ≡ true → list_all is_plain value ≡ true → IsSettled (record { key = key; value = value })
text_setting key value some all plain = record {
  some = some;
  key = all;
  solid = solid_plain value plain;
  kept = is_kept-plain 0 value plain;
  closed = level_past-plain 0 value plain;
}

pub number_setting : (key : List ℕ) (n : ℕ) → 0 < length key → list_all is_of_key key ≡ true → n < 2 ^ 32 → IsSettled (record { key = key; value = decimal n })
number_setting key n some all lt = text_setting key (decimal n) some all (plain_number n lt)

-- Plain digits are read as the number that prints them.
use Rattle.std.proofs.Common.{◌≡◌, ℕ, ◌^◌, ◌<◌, ◌≤◌, List, [], ◌∷◌, length, get_or, Result, Ok, inl, inr, refl, sym, subst, ap, ◌∙◌, arith}
use Rattle.std.specs.Fmt.{decimal}
use Rattle.std.specs.Str.Parse.{AllDigits, IsNumeral, without_leading_plus, digits_value}
use Rattle.std.proofs.lemmas.Fmt.{decimal-digits_value, decimal_is_IsNumeral, first_decimal, decimal_digit, decimal_injective, IsAscii-decimal}
use Rattle.std.proofs.lemmas.Str.Parse.{numerals_by_value, tells_digits, digit_from_value, without_leading_plus_none}
use Rattle.std.proofs.lemmas.Bool.{cases_eq}
use Rattle.std.specs.Str.{IsUtf8, IsAscii}
use Rattle.std.proofs.lemmas.Str.{IsUtf8-from_ascii}
use Rattle.ec_words.specs.Numbers.{IsNumberText, StartsAsNumber}

-- what is parsed without its sign: some digits of a number that fits
abbrev pub IsParsed : List ℕ → Type 0
IsParsed text = (IsNumeral 10 (without_leading_plus text)) × (digits_value 10 (without_leading_plus text) < 2 ^ 64)

pub number_of_parse : (text digits : List ℕ) (n : ℕ) → digits ≡ text → StartsAsNumber text → IsParsed digits → n ≡ digits_value 10 (without_leading_plus digits) → IsNumberText text n
number_of_parse text digits n same starts parsed value =
    let plain : without_leading_plus digits ≡ text = ap (λ t. without_leading_plus t) same ∙ without_leading_plus_none text (λ e. omega (arith, starts.digit)) in
    let numeral = subst (λ t. (0 < length t × AllDigits 10 t) × (digits_value 10 t < 2 ^ 64)) plain parsed in
    let is : n ≡ digits_value 10 text = value ∙ ap (λ t. digits_value 10 t) plain in
    (omega (arith, is, numeral.1), sym (ap decimal is ∙ decimal-digits_value (numerals_by_value _ tells_digits) text numeral.0.1 numeral.0.0 starts.alone numeral.1))

-- the first of some digits is a digit
first_digit : (ds : List ℕ) → AllDigits 10 ds → 0 < length ds → (48 ≤ get_or ds 0 0) × (get_or ds 0 0 < 58)
first_digit [] d some = absurd (omega arith)
first_digit (c ∷ cs) d some = let range = digit_from_value c d.0 in (range.0, omega (arith, range.1))

printed_start : (n : ℕ) → n < 2 ^ 64 → StartsAsNumber (decimal n)
printed_start n small = elim (cases_eq n 0) [
  | inl e ↦ rw e (rw (decimal_digit 0 (omega arith)) (record { some = omega arith; digit = (omega arith, omega arith); alone = λ _. refl }))
  | inr ne ↦
      let numeral = decimal_is_IsNumeral n small in
      record {
        some = numeral.0.0;
        digit = first_digit (decimal n) numeral.0.1 numeral.0.0;
        alone = λ e. absurd (omega (arith, first_decimal n (omega arith) small));
      }
]

pub starts_of_number : (text : List ℕ) (n : ℕ) → IsNumberText text n → StartsAsNumber text
starts_of_number text n h = subst StartsAsNumber (sym h.1) (printed_start n h.0)

pub parsed_of_number : (text digits : List ℕ) (n : ℕ) → digits ≡ text → IsNumberText text n → IsParsed digits
parsed_of_number text digits n same h =
    let numeral = decimal_is_IsNumeral n h.0 in
    let plain : without_leading_plus digits ≡ decimal n =
    ap (λ t. without_leading_plus t) (same ∙ h.1) ∙ without_leading_plus_none (decimal n) (λ e. omega (arith, (printed_start n h.0).digit)) in
    subst (λ t. (0 < length t × AllDigits 10 t) × (digits_value 10 t < 2 ^ 64)) (sym plain) (numeral.0, omega (arith, numeral.1, h.0))

pub utf8_of_number : (text : List ℕ) (n : ℕ) → IsNumberText text n → IsUtf8 text
utf8_of_number text n h = IsUtf8-from_ascii text (subst IsAscii (sym h.1) (IsAscii-decimal n h.0))

pub same_number : (text : List ℕ) (m n : ℕ) → IsNumberText text m → IsNumberText text n → m ≡ n
same_number text m n one other = decimal_injective m n one.0 other.0 (sym one.1 ∙ other.1)

pub ok_same : {E : Type 0} (m n : ℕ) → ◌≡◌ {A = Result ℕ E} (Ok m) (Ok n) → m ≡ n
ok_same m n e = cc

-- A text is read as a number exactly if it prints that number.
use Rattle.std.proofs.Common.{◌≡◌, ◌<◌, ◌^◌, ◌&&◌, nat_lt, ℕ, Bool, true, false, List, Some, None, refl, sym, ap, ◌∙◌, arith, rules}
use Rattle.std.specs.Prelude.{bytes_eq, if◌then◌else◌}
use Rattle.std.specs.Fmt.{decimal}
use Rattle.std.specs.Str.Parse.{digits_value}
use Rattle.std.proofs.lemmas.Fmt.{decimal_is_IsNumeral}
use Rattle.std.proofs.lemmas.Slice.Eq.{bytes_eq-Decides}
use Rattle.std.proofs.lemmas.Bool.Decides.{Decides-ltb}
use Rattle.ec_words.specs.Numbers.{IsNumberText}
use Rattle.ec_code.specs.Readings.{number_of_text}

value_of_number : (text : List ℕ) (n : ℕ) → IsNumberText text n → digits_value 10 text ≡ n
value_of_number text n h = ap (digits_value 10) h.1 ∙ (decimal_is_IsNumeral n h.0).1

-- the choice in `number_of_text`
chosen : (text : List ℕ) (v : ℕ) (prints small : Bool) → bytes_eq text (decimal (digits_value 10 text)) ≡ prints → nat_lt (digits_value 10 text) (2 ^ 32) ≡ small
    → number_of_text text ≡ (if prints && small then Some (digits_value 10 text) else None)
chosen text v prints small p s = ap (λ b. if b && nat_lt (digits_value 10 text) (2 ^ 32) then Some (digits_value 10 text) else None) p
    ∙ ap (λ b. if prints && b then Some (digits_value 10 text) else None) s

pub small_number : (text : List ℕ) (n : ℕ) → IsNumberText text n → n < 2 ^ 32 → number_of_text text ≡ Some n
small_number text n h small =
    let same = value_of_number text n h in
    chosen text n true true ((bytes_eq-Decides _ _).1 (h.1 ∙ ap decimal (sym same))) ((Decides-ltb _ _).1 (omega (arith, same, small))) ∙ ap Some same

pub large_number : (text : List ℕ) (n : ℕ) → IsNumberText text n → (n < 2 ^ 32 → ⊥) → number_of_text text ≡ None
large_number text n h large =
    let same = value_of_number text n h in
    chosen text n true false ((bytes_eq-Decides _ _).1 (h.1 ∙ ap decimal (sym same))) (search rules)

-- what `number_of_text` finds is a number
found : (text : List ℕ) (prints small : Bool) → bytes_eq text (decimal (digits_value 10 text)) ≡ prints → nat_lt (digits_value 10 text) (2 ^ 32) ≡ small
    → ((n : ℕ) → IsNumberText text n → ⊥) → number_of_text text ≡ None
found text true true p s never = absurd (never (digits_value 10 text) (omega (arith, (Decides-ltb _ _).0 s), (bytes_eq-Decides _ _).0 p))
found text true false p s never = chosen text 0 true false p s
found text false true p s never = chosen text 0 false true p s
found text false false p s never = chosen text 0 false false p s

pub no_number : (text : List ℕ) → ((n : ℕ) → IsNumberText text n → ⊥) → number_of_text text ≡ None
no_number text never = found text _ _ refl refl never
